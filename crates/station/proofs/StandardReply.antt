-- The bytes of a reply are the standard's reply. Assumes nothing.
use Rattle.lists.proofs.Kit.{ℕ, ◌+◌, ◌*◌, ◌<◌, ◌≡◌, refl, ap, ◌∙◌, subst⁻¹, List, ◌++◌, map, arith, length}
use Rattle.lists.specs.Every.{All}
use Rattle.lists.proofs.Every.{all_map}
use Rattle.writing.specs.Canonical.{plain, FitsField}
use Rattle.writing.specs.Carrier.{start_bytes, carrier, reply, Reply}
use Rattle.writing.specs.Fields.{val, widths}
use Rattle.writing.specs.Settings.{Hash}
use Rattle.writing.proofs.Bits.{widths_map}
use Rattle.writing.proofs.CanonicalLaws.{plain_append, plain_length, plain_shows}
use Rattle.read_fields.proofs.HashLaws.{small_size, small_code}
use Rattle.read_carrier.proofs.TrueLength.{plain_carries}
use Rattle.tables.specs.Allowed.{HashOk}
use Rattle.station.specs.Replies.{reply_bytes}

-- a reply's fields are 4 bytes and the hash value
reply_widths : (result failed : ℕ) (h : Hash) → widths (reply result failed h) ≡ 8 * (4 + length h.value)
reply_widths result failed h = omega (arith, widths_map (val 8) 8 (λ x. refl) h.value)

-- with the start bytes and the carrier there are 6 more
pub reply_length : (result failed : ℕ) (h : Hash) → length (reply_bytes result failed h) ≡ 10 + length h.value
reply_length result failed h =
    let v : ℕ = length h.value in
    let w : widths (carrier (6 + v) 0 ++ reply result failed h) ≡ 8 * (8 + v) = omega (arith, reply_widths result failed h) in
    omega (arith, plain_length (carrier (6 + v) 0 ++ reply result failed h) (8 + v) w)

-- STANDARD BYTES: "the reply is the standard's" (demand 2), with this result, failed ID and hash; "We write coding type 0000 and the true length"
pub standard_bytes : (result failed : ℕ) (h : Hash) → result < 256 → failed < 256 → HashOk h
    → (r : Reply result failed h (reply_bytes result failed h)) × (r.carried.stated ≡ 2 + length r.data_bytes)
standard_bytes result failed h r f ok =
    let v : ℕ = length h.value in
    let ds : List ℕ = plain (reply result failed h) in
    let w : widths (reply result failed h) ≡ 8 * (4 + v) = reply_widths result failed h in
    let value : All FitsField (map (val 8) h.value) = all_map (◌< 256) FitsField (val 8) (λ x p. p) h.value ok.bytes in
    let fit : All FitsField (reply result failed h) = (omega arith, (omega arith, (r, (f, (tt, (omega (arith, small_code ok.size), value)))))) in
    let n : length ds ≡ 4 + v = plain_length (reply result failed h) (4 + v) w in
    let k = plain_carries 0 ds (omega arith) (omega (arith, small_size ok.size)) in
    let t : 6 + v ≡ 2 + length ds = omega arith in
    let e : reply_bytes result failed h ≡ start_bytes ++ plain (carrier (2 + length ds) 0) ++ ds
    = ap (λ (l : List ℕ). start_bytes ++ l)
    (plain_append (carrier (6 + v) 0) (reply result failed h) 4 (4 + v) refl w fit ∙ ap (λ (i : ℕ). plain (carrier i 0) ++ ds) t) in
    subst⁻¹ (λ (bytes : List ℕ). (s : Reply result failed h bytes) × (s.carried.stated ≡ 2 + length s.data_bytes)) e
    (record { data_bytes = ds; carried = k.0; written = plain_shows (reply result failed h) (4 + v) w fit; in_range = ok.size }, k.1)
