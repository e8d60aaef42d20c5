-- What a conversion answers, in document 01's numbers and values, and which answer is right.
use Rattle.std.specs.Prelude.{ℕ, ◌≡◌, Option, Some, None}
use Rattle.plan.specs.declared.numbers.IndividualAddress.{IndividualAddress}
use Rattle.plan.specs.declared.numbers.GroupAddress.{GroupAddress}
use Rattle.plan.specs.declared.numbers.DialledNumber.{DialledNumber}
use Rattle.plan.specs.declared.channels.Frequency.{Frequency}
use Rattle.plan.specs.declared.channels.ChannelNumber.{ChannelNumber}

-- "Numbers returned": a number, and a value
pub record Answer : Type 0 where
  pub number : ℕ
  pub value : ℕ

-- 0, and what was asked for
abbrev pub given : ℕ → Answer
given v = record { number = 0; value = v }

-- "20 to 22 return 0"
abbrev pub refused : ℕ → Answer
refused n = record { number = n; value = 0 }

-- the answers of the calls
pub data Said : Type 0 where
  individual : Option IndividualAddress → Said
  group : Option GroupAddress → Said
  dialled : Option DialledNumber → Said
  frequency : Option Frequency → Said
  channel : Option ChannelNumber → Said

-- each case's number and value: 20 dialled number outside the plan, 21 address outside its kind's plan, 22 no channel
abbrev pub answer : Said → Answer
answer (individual (Some a)) = given a.0
answer (individual None) = refused 20
answer (group (Some a)) = given a.0
answer (group None) = refused 20
answer (dialled (Some d)) = given d.0
answer (dialled None) = refused 21
answer (frequency (Some f)) = given f.0
answer (frequency None) = refused 22
answer (channel (Some n)) = given n.0
answer (channel None) = refused 22

-- 0 with a value that x has, or the refusal's number where it has none
pub data Answered (Has : ℕ → ℕ → Type 0) (refusal x : ℕ) (a : Answer) : Type 0 where
  has : (y : ℕ) → Has x y → a ≡ given y → Answered Has refusal x a
  none : ((y : ℕ) → Has x y → ⊥) → a ≡ refused refusal → Answered Has refusal x a

-- the way back
abbrev pub Back : (ℕ → ℕ → Type 0) → ℕ → ℕ → Type 0
Back Has y x = Has x y

-- what is answered with 0 comes back from its value, and nothing else is answered with 0
pub record BothWays (Has : ℕ → ℕ → Type 0) (refusal back_refusal : ℕ) : Type 0 where
  pub there : (x y : ℕ) (a : Answer) → Answered Has refusal x a → a ≡ given y → Has x y
  pub comes_back : (x y : ℕ) (b : Answer) → Has x y → Answered (Back Has) back_refusal y b → b ≡ given x
  pub back : (x y : ℕ) (b : Answer) → Answered (Back Has) back_refusal y b → b ≡ given x → Has x y
  pub goes_there : (x y : ℕ) (a : Answer) → Has x y → Answered Has refusal x a → a ≡ given y
