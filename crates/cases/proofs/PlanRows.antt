-- Rows of the number plan and the channels. Assumes nothing.
use Rattle.lists.proofs.Kit.{ℕ, ◌+◌, ◌*◌, ◌-◌, ◌≡◌, refl, arith, ◌&&◌, T, leb, leb→le}
use Rattle.lists.proofs.Every.{both}
use Rattle.plan.specs.Answers.{Answer, Answered, has, none, given, refused}
use Rattle.plan.specs.Frequencies.{Transmits, simplex, paired}
use Rattle.plan.specs.Numbers.{Numbered, IndividualShort, of_700, of_350}
use Rattle.plan.proofs.AnswerLaws.{One, had_value}
use Rattle.plan.proofs.FrequencyLaws.{one_transmit}
use Rattle.plan.proofs.NumberLaws.{Sound, one_address}
use Rattle.cases.specs.Marked.{Only}

-- a value that x has is the only answer
only : (Has : ℕ → ℕ → Type 0) → One Has → (refusal x y : ℕ) → Has x y → Only (Answered Has refusal x) (given y)
only Has one refusal x y h = record { allowed = has y h refl; alone = λ a p. had_value Has one refusal x y a p h }

-- where x has no value, the refusal is
pub refusal_only : (Has : ℕ → ℕ → Type 0) (refusal x : ℕ) → ((y : ℕ) → Has x y → ⊥) → Only (Answered Has refusal x) (refused refusal)
refusal_only Has refusal x never = record { allowed = none never refl; alone = alone }
  where
    alone : (a : Answer) → Answered Has refusal x a → a ≡ refused refusal
    alone a (has y h e) = absurd (never y h)
    alone a (none n e) = e

-- the member of area NP whose short address a plan gives
pub member : (Short : ℕ → ℕ → ℕ → Type 0) → Sound Short → (NP fleet member short : ℕ) → T (leb 328 NP && leb NP 806) → Short fleet member short
    → Only (Answered (Numbered Short) 20 (NP * 100000 + fleet * 1000 + member)) (given ((NP - 328) * 32768 + 1048576 + short))
member Short sound NP fleet number short t p =
    let (a, b) = both (leb 328 NP) (leb NP 806) t in
    only (Numbered Short) (one_address Short sound) 20 _ _ (record {
      NP = NP;
      fleet = fleet;
      member = number;
      short = short;
      from_328 = leb→le 328 NP a;
      to_806 = leb→le NP 806 b;
      in_plan = p;
      eight_digits = refl;
      address = refl;
    })

-- a channel's transmit frequency
pub channel : (n f : ℕ) → Transmits n f → Only (Answered Transmits 22 n) (given f)
channel = only Transmits one_transmit 22

-- 0 and 641 are no channels
pub no_channel_0 : (f : ℕ) → Transmits 0 f → ⊥
no_channel_0 f (simplex a b e) = omega arith
no_channel_0 f (paired a b e) = omega arith

pub no_channel_641 : (f : ℕ) → Transmits 641 f → ⊥
no_channel_641 f (simplex a b e) = omega arith
no_channel_641 f (paired a b e) = omega arith

-- 32819200 is of fleet 19; 32842550 is one past the last member of fleet 42
pub no_fleet_19 : (a : ℕ) → Numbered IndividualShort 32819200 a → ⊥
no_fleet_19 a n = by n.in_plan
  where
    by : IndividualShort n.fleet n.member n.short → ⊥
    by (of_700 p q r s e) = omega (arith, n.eight_digits)
    by (of_350 p q r s e) = omega (arith, n.eight_digits)

pub no_member_550 : (a : ℕ) → Numbered IndividualShort 32842550 a → ⊥
no_member_550 a n = by n.in_plan
  where
    by : IndividualShort n.fleet n.member n.short → ⊥
    by (of_700 p q r s e) = omega (arith, n.eight_digits)
    by (of_350 p q r s e) = omega (arith, n.eight_digits)
