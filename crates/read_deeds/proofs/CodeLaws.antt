-- Laws of a number's code: its digits behind a 1, as they are kept. Assumes nothing.
use Rattle.lists.proofs.Kit.{ℕ, suc, ◌≡◌, ◌≢◌, ◌+◌, ◌-◌, ◌*◌, ◌%◌, ◌^◌, ◌≤◌, ◌<◌, refl, sym, ap, ◌∙◌, subst, arith, List, [], ◌∷◌, map, length, get_or, drop, drop-cons, mid_of, take_all, add-one, head-eq_of_cons-eq, tail-eq_of_cons-eq}
use native.Mathlib.Nat.{pow-suc, pow-le-pow_right}
use Rattle.lists.specs.Every.{All}
use Rattle.slots.specs.Slots.{pad}
use Rattle.writing.specs.declared.LineFlags.{LineFlags}
use Rattle.writing.specs.Settings.{Number}
use Rattle.writing.specs.Ranges.{InNumber}
use Rattle.read_fields.specs.declared.numbers.NumberPlace.{NumberPlace}
use Rattle.tables.specs.Layout.{digit_bytes}
use Rattle.tables.specs.LineHeads.{LineHead}
use Rattle.tables.proofs.TextCodes.{digits_length}
use Rattle.events.specs.Deeds.{digits_behind, number_code}
use Rattle.read_deeds.specs.ReadDeeds.{KeptCode, NumberCode}

-- ---- the bound

-- a code of i digits has room for ten times as much
pub code_small : (i code : ℕ) → i ≤ 17 → code < 2 * 10 ^ i → code < 2 * 10 ^ 17
code_small i code h b = let p : 10 ^ i ≤ 10 ^ 17 = pow-le-pow_right (omega arith) h in omega arith

-- and so at the end
pub code_fits : (i code : ℕ) → i ≤ 18 → code < 2 * 10 ^ i → code ≤ 2000000000000000000
code_fits i code h b = let p : 10 ^ i ≤ 10 ^ 18 = pow-le-pow_right (omega arith) h in omega arith

-- one digit more
pub code_grows : (i code d : ℕ) → code < 2 * 10 ^ i → code * 10 + d % 10 < 2 * 10 ^ (i + 1)
code_grows i code d b =
    let p : 10 ^ (i + 1) ≡ 10 ^ i * 10 = ap (λ (n : ℕ). 10 ^ n) (add-one i) ∙ pow-suc 10 i in omega arith

-- ---- digits one by one

-- the digits that are left of those that are kept, behind those that were read
pub record CodeLeft (kept : List ℕ) (code i : ℕ) (ds : Number) : Type 0 where
  pub rest : Number
  pub small : All (◌≤ 9) rest
  pub stands : drop i kept ≡ pad 0 (18 - i) (map suc rest)
  pub few : length rest ≤ 18 - i
  pub coded : digits_behind code rest ≡ number_code ds

-- at first all are
pub code_start : (kept : List ℕ) (ds : Number) → InNumber ds → kept ≡ digit_bytes ds → CodeLeft kept 1 0 ds
code_start kept ds ok e = record { rest = ds; small = ok.2; stands = e; few = ok.1; coded = refl }

-- the first of those left is kept as one more than itself
first_left : (kept : List ℕ) (code i x : ℕ) (ds rest : Number) → i < 18 → All (◌≤ 9) rest → x ∷ drop (i + 1) kept ≡ pad 0 (suc (17 - i)) (map suc rest)
    → length rest ≤ suc (17 - i) → digits_behind code rest ≡ number_code ds → x ≢ 0 → CodeLeft kept (code * 10 + (x - 1) % 10) (i + 1) ds
first_left kept code i x ds [] h a e f c z = absurd (z (head-eq_of_cons-eq e))
first_left kept code i x ds (d ∷ rest) h (low, a) e f c z =
    let less : 17 - i ≡ 18 - (i + 1) = omega arith in
    let p : x ≡ suc d = head-eq_of_cons-eq e in
    let q : code * 10 + (x - 1) % 10 ≡ code * 10 + d = omega arith in
    record {
      rest = rest;
      small = a;
      stands = subst (λ (n : ℕ). drop (i + 1) kept ≡ pad 0 n (map suc rest)) less (tail-eq_of_cons-eq e);
      few = omega arith;
      coded = ap (λ (y : ℕ). digits_behind y rest) q ∙ c;
    }

-- none is left where the first is 0
none_kept : (n x : ℕ) (l : List ℕ) (rest : Number) → x ∷ l ≡ pad 0 (suc n) (map suc rest) → x ≡ 0 → (code : ℕ) → code ≡ digits_behind code rest
none_kept n x l [] e z code = refl
none_kept n x l (d ∷ rest) e z code = absurd (omega (arith, head-eq_of_cons-eq e))

-- nor where none is counted
none_counted : (rest : Number) → length rest ≤ 0 → (code : ℕ) → code ≡ digits_behind code rest
none_counted [] h code = refl
none_counted (d ∷ rest) h code = absurd (omega arith)

module _ (kept : List ℕ) (code i : ℕ) (ds : Number) (g : CodeLeft kept code i ds) where
  -- what stands from i on
  from_here : i < 18 → i < length kept → get_or kept i 0 ∷ drop (i + 1) kept ≡ pad 0 (suc (17 - i)) (map suc g.rest)
  from_here h l =
      let one : 18 - i ≡ suc (17 - i) = omega arith in
      ap (λ (j : ℕ). get_or kept i 0 ∷ drop j kept) (add-one i) ∙ sym (drop-cons kept i 0 l) ∙ g.stands ∙ ap (λ (n : ℕ). pad 0 n (map suc g.rest)) one

  -- a digit more is read
  pub code_more : i < 18 → i < length kept → get_or kept i 0 ≢ 0 → CodeLeft kept (code * 10 + (get_or kept i 0 - 1) % 10) (i + 1) ds
  code_more h l z = first_left kept code i (get_or kept i 0) ds g.rest h g.small (from_here h l) (omega (arith, g.few)) g.coded z

  -- the end was met
  pub code_stop : i < 18 → i < length kept → get_or kept i 0 ≡ 0 → code ≡ number_code ds
  code_stop h l z = none_kept (17 - i) (get_or kept i 0) (drop (i + 1) kept) g.rest (from_here h l) z code ∙ g.coded

  -- all are read
  pub code_done : 18 ≤ i → code ≡ number_code ds
  code_done h = none_counted g.rest (omega (arith, g.few)) code ∙ g.coded

-- digits are kept in 18 bytes
pub kept_long : (kept : List ℕ) (ds : Number) → kept ≡ digit_bytes ds → 18 ≤ length kept
kept_long kept ds e = omega (arith, ap length e, digits_length ds)

-- ---- the number at a place

-- the code is that of the digits in its head
pub number_coded : (m : List ℕ) (f : LineFlags) (p : NumberPlace) (h : List ℕ) (r : ℕ) → f.priority < 4 → LineHead m f p h → KeptCode (mid_of 2 18 h) r → NumberCode m p r
number_coded m f p h r low head kept ds next ok is =
    let e : mid_of 2 18 h ≡ digit_bytes ds = ap (mid_of 2 18) (head.bytes low ds next is) ∙ take_all 18 (digit_bytes ds) (omega (arith, digits_length ds)) in
    (kept.1 ds ok e, kept.0)
