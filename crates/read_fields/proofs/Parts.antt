-- Fields that stand at a place of a message, taken apart and put together at whole bytes. Assumes nothing.
use Rattle.lists.proofs.Kit.{ℕ, zero, suc, ◌+◌, ◌*◌, ◌<◌, ◌≡◌, refl, sym, ap, ◌∙◌, subst, subst⁻¹, List, [], ◌∷◌, ◌++◌, append_assoc, add-zero, arith, length, get_or, drop, take, length-append, take-append-drop, length-take-le, drop-drop, drop-append_seam, get_or-drop}
use Rattle.lists.specs.Bytes.{Bytes}
use Rattle.lists.proofs.Seqs.{cut}
use Rattle.writing.specs.Fields.{bits_of, Field, Shows, widths}
use Rattle.writing.proofs.Bits.{bits_of_append, length_bits_of, shows_length, shows_join, shows_split}
use Rattle.read_fields.specs.Places.{FieldsAt}

-- the first of two lists of bytes is bytes
pub bytes_left : (a b : List ℕ) → Bytes (a ++ b) → Bytes a
bytes_left [] b h i = omega arith
bytes_left (x ∷ a) b h zero = h 0
bytes_left (x ∷ a) b h (suc i) = bytes_left a b (λ j. h (suc j)) i

-- what stands from a place on is bytes
pub bytes_at : (m : List ℕ) (from : ℕ) → Bytes m → (l : List ℕ) → drop from m ≡ l → Bytes l
bytes_at m from h l e i = subst (◌< 256) (sym (get_or-drop from m i 0) ∙ ap (λ (x : List ℕ). get_or x i 0) e) (h (from + i))

-- nothing more
pub nothing : (m : List ℕ) (from : ℕ) → FieldsAt [] m from from
nothing m from = record { bytes = []; rest = drop from m; split = refl; ends = sym (add-zero from); written = refl }

-- one part after the other, and two parts at whole bytes
module _ (fs gs : List Field) (m : List ℕ) (from : ℕ) where
  pub part_join : (mid next : ℕ) → FieldsAt fs m from mid → FieldsAt gs m mid next → FieldsAt (fs ++ gs) m from next
  part_join mid next p q =
      let e : p.rest ≡ q.bytes ++ q.rest
      = sym (drop-append_seam p.bytes p.rest) ∙ ap (drop (length p.bytes)) (sym p.split) ∙ drop-drop (length p.bytes) from m
      ∙ ap (λ i. drop i m) (sym p.ends) ∙ q.split in
      record {
        bytes = p.bytes ++ q.bytes;
        rest = q.rest;
        split = p.split ∙ ap (λ l. p.bytes ++ l) e ∙ sym (append_assoc p.bytes q.bytes q.rest);
        ends = omega (arith, length-append p.bytes q.bytes, p.ends, q.ends);
        written = subst⁻¹ (Shows (fs ++ gs)) (bits_of_append p.bytes q.bytes) (shows_join fs gs _ _ p.written q.written);
      }

  pub part_split : (k next : ℕ) → widths fs ≡ 8 * k → FieldsAt (fs ++ gs) m from next → FieldsAt fs m from (from + k) × FieldsAt gs m (from + k) next
  part_split k next w p =
      let (a, b, e, s, r) = shows_split fs gs (bits_of p.bytes) p.written in
      let la : length a ≡ 8 * k = shows_length fs a s ∙ w in
      let lb : 8 * length p.bytes ≡ length a + length b = sym (length_bits_of p.bytes) ∙ ap length e ∙ length-append a b in
      let x : List ℕ = take k p.bytes in
      let y : List ℕ = drop k p.bytes in
      let lx : length x ≡ k = length-take-le k p.bytes (omega arith) in
      let xy : x ++ y ≡ p.bytes = take-append-drop k p.bytes in
      let (ea, eb) = cut a (bits_of x) (omega (arith, length_bits_of x)) (sym e ∙ ap bits_of (sym xy) ∙ bits_of_append x y) in
      let d : drop from m ≡ x ++ (y ++ p.rest) = p.split ∙ ap (λ l. l ++ p.rest) (sym xy) ∙ append_assoc x y p.rest in (
        record { bytes = x; rest = y ++ p.rest; split = d; ends = ap (λ i. from + i) (sym lx); written = subst (Shows fs) ea s },
        record {
          bytes = y;
          rest = p.rest;
          split = sym (drop-drop k from m) ∙ ap (drop k) d ∙ ap (λ i. drop i (x ++ (y ++ p.rest))) (sym lx) ∙ drop-append_seam x (y ++ p.rest);
          ends = omega (arith, p.ends, ap length xy, length-append x y);
          written = subst (Shows gs) eb r;
        },
      )
