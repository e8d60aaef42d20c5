-- What taking the exported requests leaves of another set's tables, "the same tables", and how long the requests are.
use Rattle.std.specs.Prelude.{ℕ, suc, ◌+◌, ◌-◌, ◌*◌, ◌/◌, ◌≤◌, ◌≡◌, Bool, true, cond, ◌||◌, List, [], ◌∷◌, map, length, take, leb}
use Rattle.std.proofs.Math.Option.{some}
use Rattle.lists.specs.Ladder.{Answers}
use Rattle.slots.specs.Slots.{sum}
use Rattle.writing.specs.declared.Kind.{Kind}
use Rattle.writing.specs.declared.Kind.TheVariants as Kind
use Rattle.writing.specs.Settings.{Setting, texts}
use Rattle.tables.specs.declared.limits.Limits.{Limits}
use Rattle.tables.specs.declared.limits.Texts.{Texts}
use Rattle.tables.specs.declared.limits.Texts.TheVariants.{Placed, Shared}
use Rattle.tables.specs.Apply.{in_turn, apply}
use Rattle.tables.specs.Owns.{mix, only, Agree}
use Rattle.tables.specs.Tables.{Tables, fresh}
use Rattle.tables.specs.Texts.{units_of, TextRoom, WhereShared}
use Rattle.requests.specs.Requests.{forget}
use Rattle.station.specs.Taking.{AfterTaking, taken}
use Rattle.export.specs.declared.parts.Part.{Part}
use Rattle.export.specs.declared.parts.Part.TheVariants.{Lines, Fixed, QuickTexts, Channels, StatusTexts, Groups, Individuals, GroupContacts, IndividualContacts, LineSlots}
use Rattle.export.specs.Exported.{ten, part_number, exported, request_bytes}

-- the kinds of setting whose tables a part writes out
abbrev pub part_kinds : Part → Kind → Bool
part_kinds Lines k = only Kind.Lines k
part_kinds Fixed k = only Kind.Key k || only Kind.Home k || only Kind.System k
part_kinds QuickTexts k = only Kind.QuickTexts k
part_kinds Channels k = only Kind.Channels k
part_kinds StatusTexts k = only Kind.StatusTexts k
part_kinds Groups k = only Kind.Group k
part_kinds Individuals k = only Kind.Individual k
part_kinds GroupContacts k = only Kind.GroupContacts k
part_kinds IndividualContacts k = only Kind.IndividualContacts k
part_kinds LineSlots k = only Kind.LineSlot k

-- the tables u, with those of one part as t has them
abbrev pub with_part : Part → Tables → Tables → Tables
with_part p t u = mix (part_kinds p) u t

-- what taking these parts of t in turn makes of the tables u: each request forgets the hash kept before
abbrev pub with_parts : Tables → List Part → Tables → Tables
with_parts t [] u = u
with_parts t (p ∷ ps) u = with_parts t ps (with_part p t (forget u))

-- "The same tables" leaves the kept hash aside
abbrev pub SameTables : Tables → Tables → Type 0
SameTables t u = forget t ≡ forget u

-- ---- which set is to take an export

-- "From here on demand 2's restoring and A10's condition hold for a fresh set, since another table's texts can take the room in a used one"; where each text has a place of its own, whatever was held
abbrev pub Ready : Texts → Tables → Type 0
Ready x u = WhereShared x (SameTables u fresh)

-- ---- the ten requests, taken in turn

-- the requests of these parts, as exporting the tables writes them
abbrev pub requests : Tables → List Part → List (List ℕ)
requests t ps = map (λ p. request_bytes (exported p t)) ps

-- a set that takes these messages one after the other, each with a long enough reply buffer, may have its store go from one to the other
abbrev pub TakenInTurn : Limits → List (List ℕ) → List ℕ → List ℕ → Type 0
TakenInTurn lim [] store after = after ≡ store
TakenInTurn lim (message ∷ messages) store after =
    (reply : List ℕ) × (a : AfterTaking) × (20 ≤ length reply) × Answers (taken lim message store reply) a × TakenInTurn lim messages a.store after

-- ---- when another set has room for a part

-- the other set has places for the part's entries: but for lines and channels, all sets have as many
abbrev pub PlacesFor : Limits → Tables → Part → Type 0
PlacesFor to t Lines = length t.lines ≤ to.lines
PlacesFor to t Fixed = Unit {0}
PlacesFor to t QuickTexts = Unit {0}
PlacesFor to t Channels = length t.channels ≤ to.channels
PlacesFor to t StatusTexts = Unit {0}
PlacesFor to t Groups = Unit {0}
PlacesFor to t Individuals = Unit {0}
PlacesFor to t GroupContacts = Unit {0}
PlacesFor to t IndividualContacts = Unit {0}
PlacesFor to t LineSlots = Unit {0}

-- the bytes of the texts that settings carry, two a unit
abbrev pub carried : List Setting → ℕ
carried [] = 0
carried (s ∷ l) = 2 * units_of (texts s) + carried l

-- the bytes of the texts that the requests of these parts carry
abbrev pub carried_by : Tables → List Part → ℕ
carried_by t ps = sum (map (λ p. carried (exported p t)) ps)

-- of the requests before that of part p: what a fresh set holds of texts when it comes to p
abbrev pub texts_before : Tables → Part → ℕ
texts_before t p = carried_by t (take (part_number p - 1) ten)

-- and with it: what it would hold then
abbrev pub texts_upto : Tables → Part → ℕ
texts_upto t p = texts_before t p + carried (exported p t)

-- its request is no longer than the other set's messages are, its entries have places, and the texts up to it have room
pub record PartFits (to : Limits) (t : Tables) (p : Part) : Type 0 where
  pub request : length (request_bytes (exported p t)) ≤ to.message
  pub places : PlacesFor to t p
  pub texts : TextRoom to.texts (texts_upto t p)

-- ---- where texts run out of room

-- whether so many bytes of texts have room
abbrev pub room? : Texts → ℕ → Bool
room? Placed n = true
room? (Shared a) n = leb n a

-- the place, from 1, of the first setting with which n bytes of texts and those that the settings carry have no room, or the one behind the last
abbrev pub first_past : Texts → ℕ → List Setting → ℕ
first_past x n [] = 1
first_past x n (s ∷ l) = cond (room? x (n + 2 * units_of (texts s))) (suc (first_past x (n + 2 * units_of (texts s)) l)) 1

-- ---- room for an export

-- the most bytes of a part's settings
abbrev pub longest_settings : Limits → Part → ℕ
longest_settings lim Lines = 5 + 49 * lim.lines
longest_settings lim Fixed = 7 + 6 + 6
longest_settings lim QuickTexts = (4 + 63 * 49) + (4 + 49)
longest_settings lim Channels = 5 + (3 * lim.channels + 1) / 2
longest_settings lim StatusTexts = 5 + 96 * 35
longest_settings lim Groups = 16 * 42
longest_settings lim Individuals = 16 * 42
longest_settings lim GroupContacts = 6 + 64 * 43
longest_settings lim IndividualContacts = 5 + 64 * 42
longest_settings lim LineSlots = 16 * 49

-- the most bytes of a part's request: start bytes, carrier and ParamSum are 8
abbrev pub longest : Limits → Part → ℕ
longest lim p = 8 + longest_settings lim p

-- ---- inner steps: no promise cites these

-- the tables of the part's kinds are those of a fresh set
abbrev pub FreshPart : Part → Tables → Type 0
FreshPart p u = Agree (part_kinds p) u fresh

-- a part's settings have room in turn in a set that holds u, and leave the part's tables as t has them
abbrev pub HasRoom : Limits → Tables → Part → Tables → Type 0
HasRoom lim t p u = in_turn (apply lim) (exported p t) (forget u) ≡ some (with_part p t (forget u))
