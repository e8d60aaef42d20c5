-- TEXT ROOMS: room for so many bytes of texts, whatever the form in which a set keeps them. Assumes nothing.
use Rattle.lists.proofs.Kit.{ℕ, ◌≤◌, ◌<◌, ◌≡◌, refl, true, false, ◌⊎◌, inl, inr, arith, le-leb}
use borrow.Author.Tests.{lt-leb}
use native.Mathlib.Decide.{dec_le}
use Rattle.tables.specs.declared.limits.Texts.{Texts}
use Rattle.tables.specs.declared.limits.Texts.TheVariants.{Placed, Shared}
use Rattle.tables.specs.Texts.{TextRoom, Passes, WhereShared}
use Rattle.tables.proofs.FormLaws.{shared_too}
use Rattle.restore.specs.Restored.{room?}

-- fewer bytes have room where more have, and need to be fewer only where texts share an area
pub room_if : (x : Texts) (m n : ℕ) → WhereShared x (m ≤ n) → TextRoom x n → TextRoom x m
room_if Placed m n h r = tt
room_if (Shared a) m n h r = omega arith

-- more bytes have none where fewer have none
pub past_if : (x : Texts) (m n : ℕ) → WhereShared x (m ≤ n) → Passes x m → Passes x n
past_if Placed m n h r = r
past_if (Shared a) m n h r = omega arith

-- LESS ROOM: so fewer bytes have room
pub less_room : (x : Texts) (m n : ℕ) → m ≤ n → TextRoom x n → TextRoom x m
less_room x m n h r = room_if x m n (shared_too x h) r

-- MORE PAST: and more have none
pub more_past : (x : Texts) (m n : ℕ) → m ≤ n → Passes x m → Passes x n
more_past x m n h r = past_if x m n (shared_too x h) r

-- ROOM OR PAST: they have room, or pass the area
pub room_or_past : (x : Texts) (n : ℕ) → TextRoom x n ⊎ Passes x n
room_or_past Placed n = inl tt
room_or_past (Shared a) n = by (dec_le n a)
  where
    by : Dec (n ≤ a) → (n ≤ a) ⊎ (a < n)
    by (yes h) = inl h
    by (no h) = inr (omega (arith, h))

-- NOT BOTH: and not both
pub not_both : (x : Texts) (n : ℕ) → TextRoom x n → Passes x n → ⊥
not_both Placed n r h = h
not_both (Shared a) n r h = omega arith

-- the test says which
pub room_yes : (x : Texts) (n : ℕ) → TextRoom x n → room? x n ≡ true
room_yes Placed n r = refl
room_yes (Shared a) n r = le-leb n a r

pub room_no : (x : Texts) (n : ℕ) → Passes x n → room? x n ≡ false
room_no Placed n h = absurd h
room_no (Shared a) n h = lt-leb n a h
