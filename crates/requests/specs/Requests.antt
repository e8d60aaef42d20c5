-- What a request's settings come to, and its last item: document 01, "Order for a message" and the last item FF.
use Rattle.std.specs.Prelude.{ℕ, ◌≡◌, false, List, [], ◌∷◌}
use Rattle.std.proofs.Math.Option.{Option, none, some}
use Rattle.lists.specs.Bytes.{Bytes}
use Rattle.writing.specs.declared.Coding.{Coding}
use Rattle.writing.specs.declared.Kind.{Kind}
use Rattle.writing.specs.declared.LastFlags.{LastFlags}
use Rattle.writing.specs.Ranges.{text_limits, InRange}
use Rattle.writing.specs.Settings.{Setting, Hash, group_contacts, individual_contacts, lines, key, quick_texts, home, channels, system, status_texts, group, individual, line_slot, last}
use Rattle.writing.specs.Writing.{Written, type_byte}
use Rattle.tables.specs.declared.limits.Limits.{Limits}
use Rattle.tables.specs.Apply.{apply}
use Rattle.tables.specs.Tables.{Tables, no_hash}
use Rattle.writing.specs.declared.Kind.TheVariants.{Last}
use Rattle.tables.specs.Owns.{put_own}
use Rattle.requests.specs.Judge as Judge
use Rattle.requests.specs.Judge.{Outcome}

-- ---- a request's settings

-- these bytes are a writing of the setting under the request's coding type, reserved bits aside
abbrev pub WrittenIn : Coding → Setting → List ℕ → Type 0
WrittenIn c s bs = Written c s bs × Bytes bs

-- a type byte is one of the thirteen
abbrev pub Known : ℕ → Type 0
Known b = (k : Kind) × (type_byte k ≡ b)

-- these settings stand at the start of the bytes, in range and with room in turn
abbrev pub Runs : Coding → Limits → ℕ → Tables → List ℕ → List Setting → Tables → List ℕ → Type 0
Runs c lim = Judge.Runs Setting Tables (WrittenIn c) (InRange text_limits) (apply lim) Known

-- what is at fault where the next setting should stand
abbrev pub Fault : Coding → Limits → ℕ → Tables → List ℕ → ℕ → Type 0
Fault c lim = Judge.Fault Setting Tables (WrittenIn c) (InRange text_limits) (apply lim) Known

-- what a request of so many settings in these bytes comes to, from these tables
abbrev pub Judged : Coding → Limits → ℕ → Tables → List ℕ → Outcome Setting Tables → Type 0
Judged c lim = Judge.Judged Setting Tables (WrittenIn c) (InRange text_limits) (apply lim) Known

-- "After each taken request the hash kept is that request's own; with code 0 or no FF, none"
abbrev pub forget : Tables → Tables
forget t = put_own Last t no_hash

-- ---- FF, the last item

-- its reboot and reply bits, and its hash
pub record LastItem : Type 0 where
  pub flags : LastFlags
  pub hash : Hash

abbrev pub item_of : Setting → Option LastItem
item_of (group_contacts o f es) = none
item_of (individual_contacts o f es) = none
item_of (lines o f es) = none
item_of (key t f) = none
item_of (quick_texts o es) = none
item_of (home h) = none
item_of (channels o ns) = none
item_of (system s) = none
item_of (status_texts o es) = none
item_of (group o f s) = none
item_of (individual o f s) = none
item_of (line_slot o f s) = none
item_of (last f h) = some (record { flags = f; hash = h })

abbrev pub or_else : {A : Type 0} → Option A → A → A
or_else none b = b
or_else (some a) b = a

-- the FF of a request's settings; without one: no, no, and no hash
abbrev pub last_item : List Setting → LastItem
last_item [] = record { flags = record { reboot = false; reply = false }; hash = no_hash }
last_item (s ∷ l) = or_else (item_of s) (last_item l)
