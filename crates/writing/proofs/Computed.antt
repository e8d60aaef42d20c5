-- Bytes of closed fields, by computed tests: that every value fits, and that no bit is reserved. Assumes nothing.
use Rattle.lists.proofs.Kit.{ℕ, ◌*◌, ◌^◌, ◌<◌, ◌≡◌, sym, ap₂, ◌∙◌, subst, ◌≢◌, Bool, true, false, not, ◌&&◌, List, [], ◌∷◌, ◌++◌, T, ltb, eqb, ltb→lt, T_not, eqb_refl}
use Rattle.lists.specs.Every.{All}
use Rattle.lists.proofs.Every.{all?, all_passed, both}
use Rattle.writing.specs.Canonical.{plain, canonical, FitsField}
use Rattle.writing.specs.Fields.{bits, bits_of, Field, val, item, res, width, widths, MayHave, Shows}
use Rattle.writing.specs.declared.Coding.{Coding}
use Rattle.writing.specs.Settings.{Setting}
use Rattle.writing.specs.Writing.{fields, Written}
use Rattle.writing.proofs.Bits.{bits_of_one}
use Rattle.writing.proofs.CanonicalLaws.{plain_bytes, plain_shows, canonical_written}

-- the field's value fits
abbrev pub fits? : Field → Bool
fits? (val w v) = ltb v (2 ^ w)
fits? (item w end v) = ltb v (2 ^ w) && not (eqb v end)
fits? (res w) = true

-- the field is not reserved
abbrev pub valued? : Field → Bool
valued? (val w v) = true
valued? (item w end v) = true
valued? (res w) = false

-- numbers that a test tells apart differ
differs : (a b : ℕ) → T (not (eqb a b)) → a ≢ b
differs a b t e = T_not (eqb a b) t (subst (λ (k : ℕ). T (eqb a k)) e (eqb_refl a))

-- the test of a value that fits
fit : (f : Field) → T (fits? f) → FitsField f
fit (val w v) t = ltb→lt v (2 ^ w) t
fit (item w end v) t = let (p, q) = both (ltb v (2 ^ w)) (not (eqb v end)) t in (ltb→lt v (2 ^ w) p, differs v end q)
fit (res w) t = tt

-- a field that is not reserved holds one value
one_value : (f : Field) (x y : ℕ) → T (valued? f) → MayHave f x → MayHave f y → x ≡ y
one_value (val w v) x y t p q = p ∙ sym q
one_value (item w end v) x y t p q = p.0 ∙ sym q.0
one_value (res w) x y t p q = absurd t

-- fields of which none is reserved stand in one list of bits
one_showing : (fs : List Field) (a b : List ℕ) → T (all? valued? fs) → Shows fs a → Shows fs b → a ≡ b
one_showing [] a b t p q = p ∙ sym q
one_showing (f ∷ fs) a b t p q =
    let (x, r, hx, bx, e, s) = p in
    let (y, u, hy, by, d, z) = q in
    let (t₁, t₂) = both (valued? f) (all? valued? fs) t in
    e ∙ ap₂ (λ v l. bits (width f) v ++ l) (one_value f x y t₁ hx hy) (one_showing fs r u t₂ s z) ∙ sym d

-- these bytes show the fields
abbrev pub ShownBy : List Field → List ℕ → Type 0
ShownBy fs bs = All (◌< 256) bs × Shows fs (bits_of bs)

-- fields whose values fit are shown by their bytes, reserved bits 0
pub shown : (fs : List Field) (n : ℕ) (bs : List ℕ) → widths fs ≡ 8 * n → T (all? fits? fs) → plain fs ≡ bs → ShownBy fs bs
shown fs n bs w t e = subst (ShownBy fs) e (plain_bytes fs, plain_shows fs n w (all_passed fits? FitsField fit fs t))

-- fields of which none is reserved are shown by no other bytes
pub shown_once : (fs : List Field) (a b : List ℕ) → T (all? valued? fs) → ShownBy fs a → ShownBy fs b → a ≡ b
shown_once fs a b t p q = bits_of_one a b p.0 q.0 (one_showing fs (bits_of a) (bits_of b) t p.1 q.1)

-- a setting whose values fit is written as its bytes, reserved bits 0
pub written : (c : Coding) (s : Setting) (bs : List ℕ) → T (all? fits? (fields c s)) → canonical c s ≡ bs → Written c s bs
written c s bs t e = subst (Written c s) e (canonical_written c s (all_passed fits? FitsField fit (fields c s) t))
