-- The number plan: its bounds, that it goes both ways, and what the code's parts of a number are. Assumes nothing.
use Rattle.lists.proofs.Kit.{ℕ, ◌+◌, ◌/◌, ◌%◌, ◌≤◌, ◌<◌, ◌≡◌, refl, sym, ◌∙◌, subst, subst₂, arith}
use Rattle.plan.specs.Answers.{Answered, has, none, Back, answer, dialled}
use Rattle.plan.specs.Numbers.{IndividualShort, of_700, of_350, GroupShort, of_100, Numbered}
use Rattle.plan.specs.Inner.{AddressOf, DialledOf}
use Rattle.std.specs.Prelude.{Option, Some, None}
use Rattle.plan.specs.declared.numbers.DialledNumber.{DialledNumber}
use Rattle.plan.proofs.AnswerLaws.{One}

-- ---- a kind's plan: what fleets, members and short addresses it has

-- a member of a fleet has this short address: both fit their digits, and the short address its 15 bits
pub record Bounds (fleet member short : ℕ) : Type 0 where
  pub two_digits : fleet < 100
  pub three_digits : member < 1000
  pub not_0 : 1 ≤ short
  pub fits_15 : short < 32768

-- a plan within those bounds that goes both ways
pub record Sound (Short : ℕ → ℕ → ℕ → Type 0) : Type 0 where
  pub bounds : {f m s : ℕ} → Short f m s → Bounds f m s
  pub one_short : {f m s t : ℕ} → Short f m s → Short f m t → s ≡ t
  pub one_fleet : {f g m n s : ℕ} → Short f m s → Short g n s → f ≡ g
  pub one_member : {f g m n s : ℕ} → Short f m s → Short g n s → m ≡ n

-- short addresses of individuals are 1 to 32200
pub individual_to : {f m s : ℕ} → IndividualShort f m s → (1 ≤ s) × (s ≤ 32200)
individual_to (of_700 a b c d e) = omega arith
individual_to (of_350 a b c d e) = omega arith

-- short addresses of groups are 1 to 7000
pub group_to : {f m s : ℕ} → GroupShort f m s → (1 ≤ s) × (s ≤ 7000)
group_to (of_100 a b c d e) = omega arith

individual_bounds : {f m s : ℕ} → IndividualShort f m s → Bounds f m s
individual_bounds (of_700 a b c d e) = omega arith
individual_bounds (of_350 a b c d e) = omega arith

group_bounds : {f m s : ℕ} → GroupShort f m s → Bounds f m s
group_bounds (of_100 a b c d e) = omega arith

individual_short : {f m s t : ℕ} → IndividualShort f m s → IndividualShort f m t → s ≡ t
individual_short (of_700 a b c d e) (of_700 a' b' c' d' e') = omega arith
individual_short (of_700 a b c d e) (of_350 a' b' c' d' e') = omega arith
individual_short (of_350 a b c d e) (of_700 a' b' c' d' e') = omega arith
individual_short (of_350 a b c d e) (of_350 a' b' c' d' e') = omega arith

individual_both : {f g m n s : ℕ} → IndividualShort f m s → IndividualShort g n s → (f ≡ g) × (m ≡ n)
individual_both (of_700 a b c d e) (of_700 a' b' c' d' e') = omega arith
individual_both (of_700 a b c d e) (of_350 a' b' c' d' e') = omega arith
individual_both (of_350 a b c d e) (of_700 a' b' c' d' e') = omega arith
individual_both (of_350 a b c d e) (of_350 a' b' c' d' e') = omega arith

group_short : {f m s t : ℕ} → GroupShort f m s → GroupShort f m t → s ≡ t
group_short (of_100 a b c d e) (of_100 a' b' c' d' e') = omega arith

group_both : {f g m n s : ℕ} → GroupShort f m s → GroupShort g n s → (f ≡ g) × (m ≡ n)
group_both (of_100 a b c d e) (of_100 a' b' c' d' e') = omega arith

-- the individual plan is sound
pub individuals : Sound IndividualShort
individuals = record {
  bounds = λ p. individual_bounds p;
  one_short = λ p q. individual_short p q;
  one_fleet = λ p q. (individual_both p q).0;
  one_member = λ p q. (individual_both p q).1;
}

-- the group plan is sound
pub groups : Sound GroupShort
groups = record {
  bounds = λ p. group_bounds p;
  one_short = λ p q. group_short p q;
  one_fleet = λ p q. (group_both p q).0;
  one_member = λ p q. (group_both p q).1;
}

-- no short address where no rule's ranges hold
pub no_individual : {f m : ℕ} → (20 ≤ f → f ≤ 41 → 200 ≤ m → m ≤ 899 → ⊥) → (42 ≤ f → f ≤ 89 → 200 ≤ m → m ≤ 549 → ⊥)
    → (s : ℕ) → IndividualShort f m s → ⊥
no_individual h k s (of_700 a b c d e) = h a b c d
no_individual h k s (of_350 a b c d e) = k a b c d

pub no_group : {f m : ℕ} → (20 ≤ f → f ≤ 89 → 900 ≤ m → m ≤ 999 → ⊥) → (s : ℕ) → GroupShort f m s → ⊥
no_group h s (of_100 a b c d e) = h a b c d

-- ---- numbers and addresses of a sound plan

module _ (Short : ℕ → ℕ → ℕ → Type 0) (sound : Sound Short) where
  -- the parts of a dialled number are its digits
  pub digits : {d a : ℕ} (n : Numbered Short d a) → (n.NP ≡ d / 100000) × (n.fleet ≡ d / 1000 % 100) × (n.member ≡ d % 1000)
  digits n = let b = sound.bounds n.in_plan in let e = n.eight_digits in let p = b.two_digits in let q = b.three_digits in
      (omega arith, omega arith, omega arith)

  -- the area and the short address are an address's high and low part
  pub halves : {d a : ℕ} (n : Numbered Short d a) → (n.NP ≡ a / 32768 + 296) × (n.short ≡ a % 32768)
  halves n = let b = sound.bounds n.in_plan in let e = n.address in let q = b.fits_15 in
      let r = n.from_328 in (omega arith, omega arith)

  -- a dialled number has one address
  pub one_address : One (Numbered Short)
  one_address d a b n k =
      let (p, f, m) = digits n in
      let (p', f', m') = digits k in
      let z : Short n.fleet n.member k.short
      = subst₂ (λ (x y : ℕ). Short x y k.short) (f' ∙ sym f) (m' ∙ sym m) k.in_plan in
      let s : n.short ≡ k.short = sound.one_short n.in_plan z in
      omega (arith, n.address, k.address)

  -- an address has one dialled number
  pub one_dialled : One (Back (Numbered Short))
  one_dialled a d e n k =
      let (p, s) = halves n in
      let (p', s') = halves k in
      let z : Short k.fleet k.member n.short = subst (λ (x : ℕ). Short k.fleet k.member x) (s' ∙ sym s) k.in_plan in
      let f : n.fleet ≡ k.fleet = sound.one_fleet n.in_plan z in
      let m : n.member ≡ k.member = sound.one_member n.in_plan z in
      omega (arith, n.eight_digits, k.eight_digits)

  -- ---- what the code answers, by the parts that it cuts and what the plan said of them

  -- no address where the plan has no short address for the number's member
  pub no_address : (d : ℕ) → ((s : ℕ) → Short (d / 1000 % 100) (d % 1000) s → ⊥) → (a : ℕ) → Numbered Short d a → ⊥
  no_address d h a n = let (_, f, m) = digits n in h n.short (subst₂ (λ (x y : ℕ). Short x y n.short) f m n.in_plan)

  -- nor outside the areas
  pub no_area : (d : ℕ) → (328 ≤ d / 100000 → d / 100000 ≤ 806 → ⊥) → (a : ℕ) → Numbered Short d a → ⊥
  no_area d h a n = let (e, f, m) = digits n in let l = n.from_328 in let k = n.to_806 in h (omega arith) (omega arith)

  -- the address of a dialled number's member in its area is the number's
  pub numbered : (d s a : ℕ) → Short (d / 1000 % 100) (d % 1000) s → AddressOf (d / 100000) s (Some a) → Numbered Short d a
  numbered d s a p (l, h, e) = record {
    NP = d / 100000;
    fleet = d / 1000 % 100;
    member = d % 1000;
    short = s;
    from_328 = l;
    to_806 = h;
    in_plan = p;
    eight_digits = omega arith;
    address = e;
  }

  -- no number where nobody has the address's short address
  pub no_member : (a : ℕ) → ((f m : ℕ) → Short f m (a % 32768) → ⊥) → (d : ℕ) → Numbered Short d a → ⊥
  no_member a h d n = let (_, s) = halves n in h n.fleet n.member (subst (λ (x : ℕ). Short n.fleet n.member x) s n.in_plan)

  -- the digits of an address's member in its area are the address's, or it has none
  pub addressed : (a f m : ℕ) (r : Option DialledNumber) → Short f m (a % 32768) → DialledOf (a / 32768) f m r
      → Answered (Back (Numbered Short)) 21 a (answer (dialled r))
  addressed a f m (Some d) p (l, h, e) = has d.0 (record {
    NP = a / 32768 + 296;
    fleet = f;
    member = m;
    short = a % 32768;
    from_328 = omega arith;
    to_806 = omega arith;
    in_plan = p;
    eight_digits = e;
    address = omega arith;
  }) refl
  addressed a f m None p h =
      none (λ d n. let (e, s) = halves n in let l = n.from_328 in let k = n.to_806 in h (omega arith) (omega arith)) refl
