-- When a set takes what another has exported: document 02, A10.
use Rattle.std.specs.Prelude.{ℕ, ◌≤◌, ◌<◌, ◌≡◌, cond, List, [], ◌∷◌, ◌++◌, map, length, take, leb}
use Rattle.lists.specs.Every.{All}
use Rattle.lists.specs.Ladder.{Answers}
use Rattle.writing.specs.declared.Operation.TheVariants.{Replace}
use Rattle.writing.specs.Settings.{Setting, lines}
use Rattle.tables.specs.declared.limits.Limits.{Limits}
use Rattle.tables.specs.Tables.{Tables}
use Rattle.tables.specs.Texts.{text_sum, TextRoom}
use Rattle.station.specs.Taking.{AfterTaking, taken}
use Rattle.export_write.specs.LineSettings.{no_line_flags, line_add}
use Rattle.export.specs.declared.parts.Part.{Part}
use Rattle.export.specs.declared.parts.Part.TheVariants.{Lines, Fixed, QuickTexts, Channels, StatusTexts, Groups, Individuals, GroupContacts, IndividualContacts, LineSlots}
use Rattle.export.specs.Exported.{ten, exported, request_bytes}
use Rattle.restore.specs.Restored.{requests, texts_before, PartFits, first_past}

-- "when its lines and channels fit the handheld's room and no written request passes 4,096 bytes", of any set that is to take them; "demand 3's 'has room' and A10's condition include the sum"
pub record FitsIn (to : Limits) (t : Tables) : Type 0 where
  pub lines : length t.lines ≤ to.lines
  pub channels : length t.channels ≤ to.channels
  pub requests : (p : Part) → length (request_bytes (exported p t)) ≤ to.message
  pub texts : TextRoom to.texts (text_sum t)

-- these messages may be taken in turn, each with a reply buffer that is long enough and answered 0, and leave this store
abbrev pub AllTaken : Limits → List (List ℕ) → (store after : List ℕ) → Type 0
AllTaken lim [] store after = after ≡ store
AllTaken lim (message ∷ messages) store after =
    (reply : List ℕ) × (a : AfterTaking) × (20 ≤ length reply) × Answers (taken lim message store reply) a × (a.answer.number ≡ 0) × AllTaken lim messages a.store after

-- ---- "may be refused by a handheld with 2 or 12": at which part

-- the settings of a part before the first that lacks a place: of lines a replace and an add for each place, of channels none, and no other part lacks places
abbrev pub with_places : Limits → Tables → Part → List Setting
with_places to t Lines = lines Replace no_line_flags [] ∷ map line_add (take to.lines t.lines)
with_places to t Fixed = exported Fixed t
with_places to t QuickTexts = exported QuickTexts t
with_places to t Channels = cond (leb (length t.channels) to.channels) (exported Channels t) []
with_places to t StatusTexts = exported StatusTexts t
with_places to t Groups = exported Groups t
with_places to t Individuals = exported Individuals t
with_places to t GroupContacts = exported GroupContacts t
with_places to t IndividualContacts = exported IndividualContacts t
with_places to t LineSlots = exported LineSlots t

-- the place of a part's first setting without room: the first of these with which the texts pass the area, else the one behind them
abbrev pub first_without : Limits → Tables → Part → ℕ
first_without to t p = first_past to.texts (texts_before t p) (with_places to t p)

-- 12 where the request is over the message size, 2 with the setting's place otherwise, and the store stays
pub record Refuses (to : Limits) (t : Tables) (p : Part) (store : List ℕ) (a : AfterTaking) : Type 0 where
  pub too_long : to.message < length (request_bytes (exported p t)) → (a.answer.number ≡ 12) × (a.answer.failed ≡ 0)
  pub no_room : length (request_bytes (exported p t)) ≤ to.message → (a.answer.number ≡ 2) × (a.answer.failed ≡ first_without to t p)
  pub stays : a.store ≡ store

-- the parts before one that does not fit are taken, and it is refused: each answer that taking allows is so, whatever reply buffer is lent, and there is one
pub record StopsAt (to : Limits) (t : Tables) (p : Part) (store : List ℕ) : Type 0 where
  pub before : List Part
  pub behind : List Part
  pub order : before ++ (p ∷ behind) ≡ ten
  pub fit : All (PartFits to t) before
  pub misfit : PartFits to t p → ⊥
  pub held : List ℕ
  pub taken_before : AllTaken to (requests t before) store held
  pub refuses : (reply : List ℕ) (a : AfterTaking) → 20 ≤ length reply → Answers (taken to (request_bytes (exported p t)) held reply) a → Refuses to t p held a
  pub comes : (reply : List ℕ) → 20 ≤ length reply → (a : AfterTaking) × Answers (taken to (request_bytes (exported p t)) held reply) a
