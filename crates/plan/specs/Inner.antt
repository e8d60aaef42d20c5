-- What the inner steps of the conversions answer. No promise cites these.
use Rattle.std.specs.Prelude.{ℕ, ◌+◌, ◌*◌, ◌-◌, ◌≤◌, ◌≡◌, Option, Some, None}
use Rattle.plan.specs.declared.numbers.DialledNumber.{DialledNumber}

-- the short address of this fleet's member in a kind's plan, or that it has none
abbrev pub ShortIs : (ℕ → ℕ → ℕ → Type 0) → ℕ → ℕ → Option ℕ → Type 0
ShortIs Plan fleet member (Some short) = Plan fleet member short
ShortIs Plan fleet member None = (short : ℕ) → Plan fleet member short → ⊥

-- the fleet and member that have this short address in a kind's plan, or that none has
abbrev pub MemberIs : (ℕ → ℕ → ℕ → Type 0) → ℕ → Option (ℕ × ℕ) → Type 0
MemberIs Plan short (Some who) = Plan who.0 who.1 short
MemberIs Plan short None = (fleet member : ℕ) → Plan fleet member short → ⊥

-- the address of a short address in area NP, or that there is none
abbrev pub AddressOf : ℕ → ℕ → Option ℕ → Type 0
AddressOf NP short (Some ID) = (328 ≤ NP) × (NP ≤ 806) × (ID ≡ (NP - 328) * 32768 + 1048576 + short)
AddressOf NP short None = 328 ≤ NP → NP ≤ 806 → ⊥

-- the eight digits of a member in area NP = area + 296, or that there are none
abbrev pub DialledOf : ℕ → ℕ → ℕ → Option DialledNumber → Type 0
DialledOf area fleet member (Some d) = (32 ≤ area) × (area ≤ 510) × (d.0 ≡ (area + 296) * 100000 + fleet * 1000 + member)
DialledOf area fleet member None = 32 ≤ area → area ≤ 510 → ⊥
