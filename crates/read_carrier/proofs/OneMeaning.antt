-- A message is a reply with one result, failed ID and hash, and a request of one list of settings. Assumes nothing.
use Rattle.lists.proofs.Kit.{ℕ, ◌≡◌, refl, subst, subst⁻¹, List, [], ◌++◌, append-nil, length}
use Rattle.writing.specs.Carrier.{Request, reply, Reply}
use Rattle.writing.specs.Fields.{bits_of, Field, Shows}
use Rattle.writing.specs.Ranges.{HashSize}
use Rattle.writing.specs.declared.Coding.{Coding}
use Rattle.writing.specs.Settings.{Setting, Hash}
use Rattle.writing.specs.Writing.{WrittenAs}
use Rattle.writing.proofs.Ends.{Agree, val_ends, res_ends, vals_end}
use Rattle.writing.proofs.Unique.{no_two_lists}
use Rattle.read_fields.proofs.HashLaws.{one_size}
use Rattle.read_carrier.proofs.CarrierLaws.{carries_one}

-- REPLY ONE: a reply says one result, one failed ID and one hash
pub reply_one : {r s f g : ℕ} {h k : Hash} {m : List ℕ} → Reply r f h m → Reply s g k m → (r ≡ s) × (f ≡ g) × (h ≡ k)
reply_one {r} {s} {f} {g} {h} {k} a b =
    let bs : List ℕ = bits_of b.data_bytes in
    let z : Agree (reply r f h ++ []) (reply s g k ++ []) [] [] = record {
      one = bs;
      two = bs;
      left = subst⁻¹ (λ (l : List Field). Shows l bs) (append-nil (reply r f h))
          (subst (λ (l : List ℕ). Shows (reply r f h) (bits_of l)) (carries_one a.carried b.carried).1 a.written);
      right = subst⁻¹ (λ (l : List Field). Shows l bs) (append-nil (reply s g k)) b.written;
      same = refl;
    } in
    let (_, z) = val_ends z in
    let (_, z) = val_ends z in
    let (p, z) = val_ends z in
    let (q, z) = val_ends z in
    let (c, z) = val_ends (res_ends z) in
    let n : length h.value ≡ length k.value = one_size (subst (λ (i : ℕ). HashSize i (length h.value)) c a.in_range) b.in_range in
    let (v, z) = vals_end 8 h.value k.value n z in
    (p, q, λ i. record { code = c i; value = v i })

-- SETTINGS ONE: "No two lists share bytes", the carrier's included
pub settings_one : (c : Coding) (ss ts : List Setting) (m : List ℕ) → Request c ss m → Request c ts m → ss ≡ ts
settings_one c ss ts m a b =
    no_two_lists c ss ts b.data_bytes (subst (WrittenAs c ss) (carries_one a.carried b.carried).1 a.written) b.written
