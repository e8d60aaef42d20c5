-- Values side by side in one number: shifts and masks give each back, and no bit above them is set. Assumes nothing.
use Rattle.lists.proofs.Kit.{ℕ, ◌+◌, ◌*◌, ◌/◌, ◌%◌, ◌^◌, ◌<◌, ◌≡◌, ap, ◌∙◌, subst, List, [], ◌∷◌, arith, high, low, pow-add, pow_pos}
use lib.Arith.{digits_lt}
use Rattle.lists.specs.Every.{All}
use Rattle.writing.specs.Canonical.{value, side_by_side, FitsField}
use Rattle.writing.specs.Fields.{Field, val, item, res, width, widths}
use Rattle.packing.specs.PackedValues.{PacksFields}

-- each field's bits of the number are its value
abbrev pub Reads : List Field → ℕ → Type 0
Reads [] r = Unit {0}
Reads (f ∷ fs) r = (r / 2 ^ widths fs % 2 ^ width f ≡ value f) × Reads fs r

-- a value that fits has no more bits than its field
small : (f : Field) → FitsField f → value f < 2 ^ width f
small (val w v) h = h
small (item w end v) h = h.0
small (res w) h = pow_pos w

-- the fields take no more than their bits, and are read back whatever stands above them
read : (fs : List Field) → All FitsField fs → (side_by_side fs < 2 ^ widths fs) × ((above : ℕ) → Reads fs (above * 2 ^ widths fs + side_by_side fs))
read [] h = (omega arith, λ above. tt)
read (f ∷ fs) h =
    let v : value f < 2 ^ width f = small f h.0 in
    let (l, more) = read fs h.1 in
    let p : 2 ^ (width f + widths fs) ≡ 2 ^ width f * 2 ^ widths fs = pow-add 2 (width f) (widths fs) in (
      rw p (digits_lt v l),
      λ above.
          let n : ℕ = above * 2 ^ width f + value f in
          let e : n * 2 ^ widths fs + side_by_side fs ≡ above * 2 ^ (width f + widths fs) + side_by_side (f ∷ fs) = omega (arith, ap (λ (x : ℕ). above * x) p) in
          subst (Reads (f ∷ fs)) e (ap (λ (x : ℕ). x % 2 ^ width f) (high n (widths fs) l) ∙ low above (width f) v, more n),
    )

-- READ BACK: the values of a packed number
pub read_back : (fs : List Field) (r : ℕ) → PacksFields fs r → Reads fs r × (r < 2 ^ widths fs)
read_back fs r p =
    let (l, q) = read fs p.fits in
    let e : 0 * 2 ^ widths fs + side_by_side fs ≡ r = omega (arith, p.bits) in
    (subst (Reads fs) e (q 0), omega (arith, l, p.bits))
