-- What comes of sending requests to a store: docs/RULES.md, D3 to D6.
use Rattle.std.specs.Prelude.{ℕ, ◌+◌, ◌≤◌, ◌≡◌, ◌⊎◌, List, [], ◌∷◌, length}
use Rattle.lists.specs.Bytes.{Bytes}
use Rattle.lists.specs.Ladder.{Answers}
use Rattle.writing.specs.Settings.{Setting}
use Rattle.tables.specs.declared.limits.Limits.{Limits}
use Rattle.station.specs.Taking.{AfterTaking, taken}

-- a message of bytes, taken with a reply buffer of 20 or more bytes that holds anything, comes to x
pub record Sent (lim : Limits) (message store : List ℕ) (x : AfterTaking) : Type 0 where
  pub bytes : Bytes message
  pub reply : List ℕ
  pub long : 20 ≤ length reply
  pub comes_to : Answers (taken lim message store reply) x

-- "is taken", and leaves this store
abbrev pub TakenWith : List ℕ → AfterTaking → Type 0
TakenWith store x = (x.answer.number ≡ 0) × (x.store ≡ store)

-- "is refused with 2", with this failed ID, and the store stays
abbrev pub LacksRoom : List ℕ → ℕ → AfterTaking → Type 0
LacksRoom store failed x = (x.answer.number ≡ 2) × (x.answer.failed ≡ failed) × (x.store ≡ store)

-- "the second's counted through: with the first's settings before it"
abbrev pub counted_through : List Setting → ℕ → ℕ
counted_through before failed = length before + failed

-- one of the three holds, and the others do not
abbrev pub OneOf : Type 0 → Type 0 → Type 0 → Type 0
OneOf A B C = (A × (B → ⊥) × (C → ⊥)) ⊎ ((A → ⊥) × B × (C → ⊥)) ⊎ ((A → ⊥) × (B → ⊥) × C)

-- a request of one setting that adds channel 241
abbrev pub add_241 : List ℕ
add_241 = 0x02 ∷ 0x02 ∷ 0x00 ∷ 0x0B ∷ 0x08 ∷ 0x07 ∷ 0x08 ∷ 0x01 ∷ 0xCE ∷ 0x00 ∷ 0x06 ∷ 0x40 ∷ 0x01 ∷ 0x0F ∷ 0x1F ∷ []
