-- The bytes of fields, piece by piece. Assumes nothing.
use Rattle.lists.proofs.Kit.{ℕ, ◌*◌, ◌/◌, ◌%◌, ◌<◌, ◌≡◌, ap, ap₂, ◌∙◌, List, ◌∷◌, ◌++◌, arith}
use Rattle.lists.specs.Every.{All}
use Rattle.slots.specs.Slots.{u16, u24}
use Rattle.writing.specs.Canonical.{side_by_side, bytes, plain, FitsField}
use Rattle.writing.specs.Fields.{Field, widths}
use Rattle.writing.proofs.CanonicalLaws.{plain_append}
use Rattle.writing.proofs.Whole.{Whole}

-- fields of n bytes before others
pub plain_some : (n : ℕ) (fs gs : List Field) → widths fs ≡ 8 * n → Whole gs → All FitsField gs → plain (fs ++ gs) ≡ bytes n (side_by_side fs) ++ plain gs
plain_some n fs gs e (m, d) h =
    let k : widths fs / 8 ≡ n = omega arith in
    plain_append fs gs n m e d h ∙ ap (λ (i : ℕ). bytes i (side_by_side fs) ++ plain gs) k

-- fields of one byte, whose value is v
pub plain_byte : (v : ℕ) (fs gs : List Field) → widths fs ≡ 8 → side_by_side fs ≡ v → v < 256 → Whole gs → All FitsField gs → plain (fs ++ gs) ≡ v ∷ plain gs
plain_byte v fs gs e d l w h =
    let k : side_by_side fs / 1 % 256 ≡ v = omega arith in
    plain_some 1 fs gs e w h ∙ ap (λ (x : ℕ). x ∷ plain gs) k

-- fields of two bytes
pub plain_two : (v : ℕ) (fs gs : List Field) → widths fs ≡ 16 → side_by_side fs ≡ v → v < 65536 → Whole gs → All FitsField gs → plain (fs ++ gs) ≡ u16 v ++ plain gs
plain_two v fs gs e d l w h =
    let x : side_by_side fs / 256 % 256 ≡ v / 256 = omega arith in
    let y : side_by_side fs / 1 % 256 ≡ v % 256 = omega arith in
    plain_some 2 fs gs e w h ∙ ap₂ (λ (a b : ℕ). a ∷ b ∷ plain gs) x y

-- fields of three bytes
pub plain_three : (v : ℕ) (fs gs : List Field) → widths fs ≡ 24 → side_by_side fs ≡ v → v < 16777216 → Whole gs → All FitsField gs → plain (fs ++ gs) ≡ u24 v ++ plain gs
plain_three v fs gs e d l w h =
    let x : side_by_side fs / 65536 % 256 ≡ v / 65536 = omega arith in
    let y : side_by_side fs / 256 % 256 ≡ v % 65536 / 256 = omega arith in
    let z : side_by_side fs / 1 % 256 ≡ v % 65536 % 256 = omega arith in
    plain_some 3 fs gs e w h ∙ (λ i. x i ∷ y i ∷ z i ∷ plain gs)
