-- The stores that a start and any messages leave, with the settings taken on the way, and what was last sent for a place.
use Rattle.std.specs.Prelude.{ℕ, ◌≡◌, cond, List, [], ◌∷◌, ◌++◌, eqb, length}
use Rattle.std.proofs.Math.Option.{Option, none, some}
use Rattle.lists.specs.Bytes.{Bytes}
use Rattle.lists.specs.Every.{All}
use Rattle.lists.specs.Ladder.{Answers}
use Rattle.writing.specs.declared.Coding.{Coding}
use Rattle.writing.specs.Settings.{Setting, group_contacts, individual_contacts, lines, key, quick_texts, home, channels, system, status_texts, group, individual, line_slot, last}
use Rattle.writing.specs.Writing.{WrittenAs}
use Rattle.tables.specs.declared.limits.Limits.{Limits}
use Rattle.tables.specs.declared.start.Started.TheVariants.{Fresh}
use Rattle.tables.specs.Apply.{slot_after}
use Rattle.tables.specs.Store.{starting, begins}
use Rattle.tables.specs.Tables.{Tables, Line, GroupMember, IndividualMember}
use Rattle.laws_taking.specs.Demands.{InTurn, Passes}
use Rattle.requests.specs.Requests.{forget}
use Rattle.station.specs.Taking.{AfterTaking, taken}

-- ---- messages, one after another

-- the message is a request that is taken, with these settings under its own coding type: demand 3
pub record Takes (lim : Limits) (message store reply : List ℕ) (l : List Setting) : Type 0 where
  pub coding : Coding
  pub before : Tables
  pub after : Tables
  pub data_bytes : List ℕ
  pub passes : Passes coding lim message store reply before data_bytes
  pub written : WrittenAs coding l data_bytes
  pub in_turn : InTurn lim (length l) (forget before) l after

-- what a message adds to the lists of settings taken: a taken request its own, any other message nothing
pub data Adds (lim : Limits) (message store reply : List ℕ) : List (List Setting) → Type 0 where
  its_settings : {l : List Setting} → Takes lim message store reply l → Adds lim message store reply (l ∷ [])
  nothing : ((l : List Setting) → Takes lim message store reply l → ⊥) → Adds lim message store reply []

-- "any sequence of messages from a start" took these lists of settings and left this store
pub data Reached (lim : Limits) : List (List Setting) → List ℕ → Type 0 where
  from_start : (before : List ℕ) {store : List ℕ} → Answers (starting lim before) (begins Fresh store) → Reached lim [] store
  then_message : {log added : List (List Setting)} {store message reply : List ℕ} (x : AfterTaking) → Reached lim log store → Bytes message
      → Answers (taken lim message store reply) x → Adds lim message store reply added → Reached lim (log ++ added) x.store

-- "the settings taken, in order" make the tables t the tables u; each request first forgets the hash
abbrev pub InOrder : Limits → Tables → List (List Setting) → Tables → Type 0
InOrder lim t [] u = t ≡ u
InOrder lim t (l ∷ log) u = (after : Tables) × InTurn lim (length l) (forget t) l after × InOrder lim after log u

-- all of them, in one list
abbrev pub all_of : List (List Setting) → List Setting
all_of [] = []
all_of (l ∷ log) = l ++ all_of log

-- ---- what was sent for a slot

-- what a setting leaves in group slot i, if it is one for that slot
abbrev pub to_group : ℕ → Setting → Option (Option GroupMember)
to_group i (group_contacts o f es) = none
to_group i (individual_contacts o f es) = none
to_group i (lines o f es) = none
to_group i (key t f) = none
to_group i (quick_texts o es) = none
to_group i (home h) = none
to_group i (channels o ns) = none
to_group i (system s) = none
to_group i (status_texts o es) = none
to_group i (group o f s) = cond (eqb s.index i) (some (slot_after o (record { flags = f; address = s.address; text = s.text }))) none
to_group i (individual o f s) = none
to_group i (line_slot o f s) = none
to_group i (last f h) = none

-- and in individual slot i
abbrev pub to_individual : ℕ → Setting → Option (Option IndividualMember)
to_individual i (group_contacts o f es) = none
to_individual i (individual_contacts o f es) = none
to_individual i (lines o f es) = none
to_individual i (key t f) = none
to_individual i (quick_texts o es) = none
to_individual i (home h) = none
to_individual i (channels o ns) = none
to_individual i (system s) = none
to_individual i (status_texts o es) = none
to_individual i (group o f s) = none
to_individual i (individual o f s) = cond (eqb s.index i) (some (slot_after o (record { flags = f; address = s.address; text = s.text }))) none
to_individual i (line_slot o f s) = none
to_individual i (last f h) = none

-- and in line slot i
abbrev pub to_line_slot : ℕ → Setting → Option (Option Line)
to_line_slot i (group_contacts o f es) = none
to_line_slot i (individual_contacts o f es) = none
to_line_slot i (lines o f es) = none
to_line_slot i (key t f) = none
to_line_slot i (quick_texts o es) = none
to_line_slot i (home h) = none
to_line_slot i (channels o ns) = none
to_line_slot i (system s) = none
to_line_slot i (status_texts o es) = none
to_line_slot i (group o f s) = none
to_line_slot i (individual o f s) = none
to_line_slot i (line_slot o f s) = cond (eqb s.index i) (some (slot_after o (record { flags = f; number = s.address; text = s.text }))) none
to_line_slot i (last f h) = none

-- the last of the settings that is for a place put this entry there: its name and its address, or number, were sent together
pub record LastSent {A : Type 0} (to : Setting → Option (Option A)) (l : List Setting) (a : A) : Type 0 where
  pub before : List Setting
  pub setting : Setting
  pub after : List Setting
  pub split : l ≡ before ++ (setting ∷ after)
  pub sent : to setting ≡ some (some a)
  pub untouched : All (λ s. to s ≡ none) after
