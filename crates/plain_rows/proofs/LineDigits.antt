-- The digits behind the 1 of a line's number: how many they are, and which. Assumes nothing.
use Rattle.lists.proofs.Kit.{ℕ, suc, ◌+◌, ◌*◌, ◌/◌, ◌%◌, ◌≤◌, ◌<◌, ◌≡◌, refl, sym, ap, ap₂, ◌∙◌, subst, List, [], ◌∷◌, ◌++◌, map, append-nil, append_assoc, zero-add, arith, length, length-append}
use Rattle.lists.specs.Every.{All}
use Rattle.lists.proofs.Every.{all_right}
use Rattle.writing.specs.Ranges.{InNumber}
use Rattle.writing.specs.Settings.{Number}
use Rattle.events.specs.Deeds.{digits_behind, number_code}
use Rattle.screen.specs.Rows.{ascii, digits}
use Rattle.screen.specs.Steps.{Written}
use Rattle.plain_rows.specs.Naming.{DigitsIn, LineWritten}

-- ---- which digits

-- one digit more, at the end
code_more : (n d : ℕ) (ds : Number) → digits_behind n (ds ++ (d ∷ [])) ≡ digits_behind n ds * 10 + d
code_more n d [] = refl
code_more n d (x ∷ ds) = code_more (n * 10 + x) d ds

-- digits make no number smaller
code_grows : (n : ℕ) (ds : Number) → n ≤ digits_behind n ds
code_grows n [] = omega arith
code_grows n (d ∷ ds) = omega (arith, code_grows (n * 10 + d) ds)

-- the lowest digits of a number are those that were put behind it
digits_back : (j n : ℕ) (ds : Number) → All (◌≤ 9) ds → digits 10 (length ds + j) (digits_behind n ds) ≡ digits 10 j n ++ ds
digits_back j n [] ok = ap (λ (i : ℕ). digits 10 i n) (zero-add j) ∙ sym (append-nil (digits 10 j n))
digits_back j n (d ∷ ds) ok =
    let small : d ≤ 9 = ok.0 in
    let e : suc (length ds) + j ≡ length ds + suc j = omega arith in
    let q : (n * 10 + d) / 10 ≡ n = omega arith in
    let r : (n * 10 + d) % 10 ≡ d = omega arith in
    ap (λ (i : ℕ). digits 10 i (digits_behind (n * 10 + d) ds)) e ∙ digits_back (suc j) (n * 10 + d) ds ok.1
    ∙ ap₂ (λ (x y : ℕ). (digits 10 j x ++ (y ∷ [])) ++ ds) q r ∙ append_assoc (digits 10 j n) (d ∷ []) ds

-- so the code of a line's number has its digits
code_digits : (ds : Number) → All (◌≤ 9) ds → digits 10 (length ds) (number_code ds) ≡ ds
code_digits ds ok =
    let e : length ds ≡ length ds + 0 = omega arith in
    ap (λ (i : ℕ). digits 10 i (number_code ds)) e ∙ digits_back 0 1 ds ok

-- ---- how many

-- digits, all but the last and the last
record EndsIn (ds : Number) : Type 0 where
  front : Number
  last : ℕ
  parts : ds ≡ front ++ (last ∷ [])

-- of some digits, one is the last
ends_in : (d : ℕ) (ds : Number) → EndsIn (d ∷ ds)
ends_in d [] = record { front = []; last = d; parts = refl }
ends_in d (x ∷ ds) = let z = ends_in x ds in record { front = d ∷ z.front; last = z.last; parts = ap (λ (l : Number). d ∷ l) z.parts }

-- n digits were taken off the number's end, and this is left
pub record TakenOff (ds : Number) (rest n : ℕ) : Type 0 where
  pub left : Number
  pub gone : Number
  pub parts : ds ≡ left ++ gone
  pub many : length gone ≡ n
  pub number : rest ≡ number_code left

-- whichever the digits are
abbrev pub OffSoFar : ℕ → ℕ → ℕ → Type 0
OffSoFar code rest n = (ds : Number) → InNumber ds → code ≡ number_code ds → TakenOff ds rest n

pub off_start : (code : ℕ) → OffSoFar code code 0
off_start code ds ok e = record { left = ds; gone = []; parts = sym (append-nil ds); many = refl; number = e }

module _ (code rest n : ℕ) (o : OffSoFar code rest n) where
  -- one more is taken off
  pub off_more : 10 ≤ rest → OffSoFar code (rest / 10) (n + 1)
  off_more big ds ok e = go (o ds ok e).left (o ds ok e).parts (o ds ok e).number
    where
      gone : Number
      gone = (o ds ok e).gone

      go : (l : Number) → ds ≡ l ++ gone → rest ≡ number_code l → TakenOff ds (rest / 10) (n + 1)
      go [] p q = absurd (omega arith)
      go (x ∷ xs) p q =
          let z = ends_in x xs in
          let f : Number = z.front in
          let d : ℕ = z.last in
          let p2 : ds ≡ f ++ (d ∷ gone) = p ∙ ap (λ (l : Number). l ++ gone) z.parts ∙ append_assoc f (d ∷ []) gone in
          let low : d ≤ 9 = (all_right (◌≤ 9) f (d ∷ gone) (subst (All (◌≤ 9)) p2 ok.2)).0 in
          let c : rest ≡ number_code f * 10 + d = q ∙ ap number_code z.parts ∙ code_more 1 d f in
          let m : length gone ≡ n = (o ds ok e).many in
          record { left = f; gone = d ∷ gone; parts = p2; many = omega arith; number = omega arith }

  -- none is left
  pub off_end : n ≤ 18 → rest < 10 → DigitsIn code n
  off_end few small = (λ ds ok e. go ds ok e (o ds ok e).left (o ds ok e).parts (o ds ok e).number, few)
    where
      go : (ds : Number) (ok : InNumber ds) (e : code ≡ number_code ds) (l : Number) → ds ≡ l ++ (o ds ok e).gone → rest ≡ number_code l → n ≡ length ds
      go ds ok e [] p q = sym (o ds ok e).many ∙ sym (ap length p)
      go ds ok e (x ∷ xs) p q = let z = ends_in x xs in absurd (omega (arith, q ∙ ap number_code z.parts ∙ code_more 1 z.last z.front, code_grows 1 z.front))

  -- and none can be behind 18
  pub off_all : n ≡ 18 → DigitsIn code n
  off_all e18 = (
    λ ds ok e.
        let t = o ds ok e in
        omega (arith, e18, ok.1, ap length t.parts, length-append t.left t.gone, t.many),
    omega arith,
  )

-- ---- written

-- a line's digits were written
pub line_written : (code n : ℕ) (s t : List ℕ) (r : ℕ) → DigitsIn code n → (2 * n ≤ length s → Written (map ascii (digits 10 n code)) s t r) → LineWritten code s t r
line_written code n s t r h w ds ok e big =
    let l : n ≡ length ds = h.0 ds ok e in
    let same : digits 10 n code ≡ ds = ap₂ (λ (i x : ℕ). digits 10 i x) l e ∙ code_digits ds ok.2 in
    subst (λ (l : List ℕ). Written (map ascii l) s t r) same (w (omega (arith, h.1)))
