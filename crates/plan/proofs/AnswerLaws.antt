-- Which answers are right: one at most, and the same under another name of the question. Assumes nothing.
use Rattle.lists.proofs.Kit.{ℕ, ◌≡◌, sym, ap, ◌∙◌, [], ◌∷◌, get_or}
use Rattle.lists.proofs.OneToOne.{decoded}
use Rattle.plan.specs.Answers.{Said, Answer, answer, Answered, has, none, given, Back, BothWays}

-- x has one value at most
abbrev pub One : (ℕ → ℕ → Type 0) → Type 0
One Has = (x y z : ℕ) → Has x y → Has x z → y ≡ z

-- two right answers are equal
pub determined : (Has : ℕ → ℕ → Type 0) → One Has → (refusal x : ℕ) (a b : Answer) → Answered Has refusal x a → Answered Has refusal x b → a ≡ b
determined Has one refusal x a b (has y p e) (has z q d) = e ∙ ap given (one x y z p q) ∙ sym d
determined Has one refusal x a b (has y p e) (none n d) = absurd (n y p)
determined Has one refusal x a b (none n e) (has z q d) = absurd (n z q)
determined Has one refusal x a b (none n e) (none k d) = e ∙ sym d

-- the case of an answer with this number and value
abbrev pub case_of : {A : Type 0} → (ℕ → A) → A → Answer → A
case_of give refuse a = get_or (give a.value ∷ []) a.number refuse

-- two right answers of the code are the same case, where number and value say which it is
pub case_determined : (Has : ℕ → ℕ → Type 0) → One Has → (refusal : ℕ) {A : Type 0} (say : A → Said) (give : ℕ → A) (refuse : A)
    → ((a : A) → case_of give refuse (answer (say a)) ≡ a) → (x : ℕ) (a b : A) → Answered Has refusal x (answer (say a)) → Answered Has refusal x (answer (say b)) → a ≡ b
case_determined Has one refusal say give refuse back x a b p q =
    decoded (λ c. answer (say c)) (case_of give refuse) back a b (determined Has one refusal x (answer (say a)) (answer (say b)) p q)

-- a right answer to a question is right of another that has the same values
pub carried : {Has Has' : ℕ → ℕ → Type 0} {refusal x x' : ℕ} {a : Answer}
    → ((y : ℕ) → Has x y → Has' x' y) → ((y : ℕ) → Has' x' y → Has x y) → Answered Has refusal x a → Answered Has' refusal x' a
carried to from (has y p e) = has y (to y p) e
carried to from (none n e) = none (λ y p. n y (from y p)) e

-- 0 is answered only with a value that x has
pub value_had : (Has : ℕ → ℕ → Type 0) (refusal x : ℕ) (a : Answer) → (refusal ≡ 0 → ⊥) → Answered Has refusal x a → a.number ≡ 0 → Has x a.value
value_had Has refusal x a h (has y p e) z = rw e p
value_had Has refusal x a h (none n e) z = absurd (h (sym (ap (λ (r : Answer). r.number) e) ∙ z))

-- a value that x has is answered, with 0
pub had_value : (Has : ℕ → ℕ → Type 0) → One Has → (refusal x y : ℕ) (a : Answer) → Answered Has refusal x a → Has x y → a ≡ given y
had_value Has one refusal x y a (has z p e) q = e ∙ ap given (one x z y p q)
had_value Has one refusal x y a (none n e) q = absurd (n y q)

-- one value each way is all that going both ways needs
pub both_ways : (Has : ℕ → ℕ → Type 0) (r b : ℕ) → (r ≡ 0 → ⊥) → (b ≡ 0 → ⊥) → One Has → One (Back Has) → BothWays Has r b
both_ways Has r b hr hb one back = record {
  there = λ x y a p e. rw e at (value_had Has r x a hr p (ap (λ (z : Answer). z.number) e));
  comes_back = λ x y a h p. had_value (Back Has) back b y x a p h;
  back = λ x y a p e. rw e at (value_had (Back Has) b y a hb p (ap (λ (z : Answer). z.number) e));
  goes_there = λ x y a h p. had_value Has one r x y a p h;
}
