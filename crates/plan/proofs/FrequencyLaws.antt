-- Channels and frequencies: one each way, and what the code's parts of a frequency are. Assumes nothing.
use Rattle.lists.proofs.Kit.{ℕ, ◌-◌, ◌≤◌, ◌<◌, arith}
use Rattle.plan.specs.Answers.{Back}
use Rattle.plan.specs.Frequencies.{Transmits, simplex, paired, Receives, both_ways, above}
use Rattle.plan.specs.Frequencies.{Steps}
use Rattle.plan.proofs.AnswerLaws.{One}

-- a channel has one transmit frequency
pub one_transmit : One Transmits
one_transmit n f g (simplex a b e) (simplex a' b' e') = omega arith
one_transmit n f g (simplex a b e) (paired a' b' e') = omega arith
one_transmit n f g (paired a b e) (simplex a' b' e') = omega arith
one_transmit n f g (paired a b e) (paired a' b' e') = omega arith

-- no two channels share a transmit frequency
pub one_channel : One (Back Transmits)
one_channel f n m (simplex a b e) (simplex a' b' e') = omega arith
one_channel f n m (simplex a b e) (paired a' b' e') = omega arith
one_channel f n m (paired a b e) (simplex a' b' e') = omega arith
one_channel f n m (paired a b e) (paired a' b' e') = omega arith

-- a channel has one receive frequency
pub one_receive : One Receives
one_receive n f g (both_ways a t) (both_ways b u) = one_transmit n f g t u
one_receive n f g (both_ways a t) (above b u e) = omega arith
one_receive n f g (above a t e) (both_ways b u) = omega arith
one_receive n f g (above a t e) (above b u d) = omega (arith, one_transmit n _ _ t u)

-- channels that transmit are 1 to 640, from 3510125 to 3610000
pub transmits_in : {n f : ℕ} → Transmits n f → (1 ≤ n) × (n ≤ 640) × (f < 4000000)
transmits_in (simplex a b e) = omega arith
transmits_in (paired a b e) = omega arith

pub receives_in : {n f : ℕ} → Receives n f → (1 ≤ n) × (n ≤ 640)
receives_in (both_ways a t) = let (p, q, r) = transmits_in t in (p, q)
receives_in (above a t e) = let (p, q, r) = transmits_in t in (p, q)

-- ---- the way back: a band's channels stand 125 apart above its channel 0

pub paired_steps : (f : ℕ) → 3510125 ≤ f → f ≤ 3560000 → (n : ℕ) → Steps (f - 3480000) n → Transmits n f
paired_steps f a b n e = paired (omega arith) (omega arith) (omega arith)

pub steps_paired : (f : ℕ) → 3510125 ≤ f → f ≤ 3560000 → (n : ℕ) → Transmits n f → Steps (f - 3480000) n
steps_paired f a b n (simplex p q e) = omega arith
steps_paired f a b n (paired p q e) = omega arith

pub simplex_steps : (f : ℕ) → 3580125 ≤ f → f ≤ 3610000 → (n : ℕ) → Steps (f - 3580000) n → Transmits n f
simplex_steps f a b n e = simplex (omega arith) (omega arith) (omega arith)

pub steps_simplex : (f : ℕ) → 3580125 ≤ f → f ≤ 3610000 → (n : ℕ) → Transmits n f → Steps (f - 3580000) n
steps_simplex f a b n (simplex p q e) = omega arith
steps_simplex f a b n (paired p q e) = omega arith

-- between and outside the bands nothing transmits
pub no_band : (f : ℕ) → (3510125 ≤ f → f ≤ 3560000 → ⊥) → (3580125 ≤ f → f ≤ 3610000 → ⊥) → (n : ℕ) → Transmits n f → ⊥
no_band f h k n (simplex p q e) = k (omega arith) (omega arith)
no_band f h k n (paired p q e) = h (omega arith) (omega arith)
