-- What checking a proposed request and proposing one answer: document 02, "Short updates".
use Rattle.std.specs.Prelude.{ℕ, ◌≤◌, ◌<◌, ◌≡◌, ◌≢◌, ◌⊎◌, ◌↔◌, Bool, true, false, List, length, drop}
use Rattle.lists.specs.Ladder.{Ladder, rung, foot, Answers}
use Rattle.slots.specs.Slots.{written_over}
use Rattle.writing.specs.declared.Coding.{Coding}
use Rattle.writing.specs.Carrier.{RequestOf, InSize}
use Rattle.writing.specs.Settings.{Setting}
use Rattle.tables.specs.declared.limits.Limits.{Limits}
use Rattle.tables.specs.Forms.{Roomy}
use Rattle.tables.specs.Layout.{hash_size}
use Rattle.tables.specs.Owns.{Agree}
use Rattle.tables.specs.Store.{StoreOf, Holds}
use Rattle.tables.specs.Tables.{Tables}
use Rattle.working.specs.Seen.{Lends}
use Rattle.requests.specs.Judge.{kept}
use Rattle.requests.specs.Requests.{Judged, forget}
use Rattle.station.specs.Taking.{AfterTaking, taken}
use Rattle.export.specs.declared.parts.Part.{Part}
use Rattle.export.specs.declared.parts.Part.TheVariants.{Lines, Fixed, QuickTexts, Channels, StatusTexts, Groups, Individuals, GroupContacts, IndividualContacts, LineSlots}
use Rattle.export.specs.Exportable.{Exportable}
use Rattle.export.specs.Exported.{part_number, exported, request_bytes}
use Rattle.export.specs.Exporting.{Told}
use Rattle.restore.specs.Restored.{part_kinds, SameTables}
use Rattle.updating.specs.declared.answers.Check.{Check}
use Rattle.updating.specs.declared.answers.Check.TheVariants.{Yes, No, FirstNotAStore, SecondNotAStore}
use Rattle.updating.specs.declared.answers.Proposal.{Proposal}
use Rattle.updating.specs.declared.answers.Proposal.TheVariants as P
use Rattle.updating.specs.declared.proposing.Differing.{Differing}
use Rattle.updating.specs.declared.proposing.Differing.TheVariants.{Nothing, One, Several}

-- ---- the check

-- "the first store would take the request and then has the second's tables, the kept hash aside"; a result query, a malformed or a too long message is no such request
pub record Updates (lim : Limits) (first second message : List ℕ) : Type 0 where
  pub coding : Coding
  pub count : ℕ
  pub settings_bytes : List ℕ
  pub request : RequestOf coding count settings_bytes message
  pub in_size : InSize lim.message message
  pub before : Tables
  pub held : Holds lim before first
  pub settings : List Setting
  pub after : Tables
  pub judged : Judged coding lim count (forget before) settings_bytes (kept settings after)
  pub wanted : Tables
  pub asked : Holds lim wanted second
  pub same : SameTables after wanted

module _ (lim : Limits) (first second message : List ℕ) where
  -- "says yes exactly when"
  abbrev pub Says : Check → Type 0
  Says Yes = Updates lim first second message
  Says No = Updates lim first second message → ⊥
  Says FirstNotAStore = ⊥
  Says SecondNotAStore = ⊥

  -- "Refusals: 11 for either store, first store first"
  abbrev pub checking : Ladder Check
  checking =
      rung (StoreOf lim first → ⊥) FirstNotAStore
      (rung (StoreOf lim second → ⊥) SecondNotAStore
      (foot Says))

-- each case's number, and whether it says yes
pub record Checked : Type 0 where
  pub number : ℕ
  pub says_yes : Bool

abbrev pub checked : Check → Checked
checked Yes = record { number = 0; says_yes = true }
checked No = record { number = 0; says_yes = false }
checked FirstNotAStore = record { number = 11; says_yes = false }
checked SecondNotAStore = record { number = 11; says_yes = false }

-- ---- the proposer

-- the tables of the kinds of a part are equal
abbrev pub SamePart : Part → Tables → Tables → Type 0
SamePart p t u = Agree (part_kinds p) t u

-- "sets whose tables differ in one export part only"
abbrev pub Sole : Part → Tables → Tables → Type 0
Sole p t u = (SamePart p t u → ⊥) × ((q : Part) → q ≢ p → SamePart q t u)

-- "of no export part, or of several, differ"
abbrev pub NoneOrSeveral : Tables → Tables → Type 0
NoneOrSeveral t u = ((q : Part) → SamePart q t u) ⊎ ((p : Part) × (q : Part) × (p ≢ q) × (SamePart p t u → ⊥) × (SamePart q t u → ⊥))

-- the parts whose request first empties its table, or has no texts: at none of their settings do texts take more room than at the end. A slot may grow before another shrinks
abbrev pub never_between : Part → Bool
never_between Lines = true
never_between Fixed = true
never_between QuickTexts = true
never_between Channels = true
never_between StatusTexts = true
never_between Groups = false
never_between Individuals = false
never_between GroupContacts = true
never_between IndividualContacts = true
never_between LineSlots = false

-- the answer, and the buffer afterwards
pub record AfterProposal : Type 0 where
  pub answer : Proposal
  pub buffer : List ℕ

module _ (lim : Limits) (first second buffer : List ℕ) where
  -- nothing is written
  abbrev pub stays : Proposal → AfterProposal
  stays a = record { answer = a; buffer = buffer }

  -- bytes past the request's length stay
  abbrev pub writes : List ℕ → AfterProposal
  writes bytes = record { answer = P.Written (length bytes); buffer = written_over bytes buffer }

  -- no part of the tables held is the only one that differs
  abbrev pub NoSingle : Type 0
  NoSingle = (t u : Tables) → Holds lim t first → Holds lim u second → (p : Part) → Sole p t u → ⊥

  -- "it writes the second's part"
  pub record Proposes (a : AfterProposal) : Type 0 where
    pub before : Tables
    pub held : Holds lim before first
    pub wanted : Tables
    pub asked : Holds lim wanted second
    pub which : Part
    pub sole : Sole which before wanted
    pub outcome : a ≡ writes (request_bytes (exported which wanted))

  -- "11 for either store, first store first; then, from the proposer, 15 .., then 19, with nothing written"
  abbrev pub proposing : Ladder AfterProposal
  proposing =
      rung (StoreOf lim first → ⊥) (stays P.FirstNotAStore)
      (rung (StoreOf lim second → ⊥) (stays P.SecondNotAStore)
      (rung (length buffer < lim.message) (stays P.Buffer)
      (rung NoSingle (stays P.NoSinglePart)
      (foot Proposes))))

-- each case's number and length
abbrev pub told : Proposal → Told
told (P.Written n) = record { number = 0; request_length = n }
told P.FirstNotAStore = record { number = 11; request_length = 0 }
told P.SecondNotAStore = record { number = 11; request_length = 0 }
told P.Buffer = record { number = 15; request_length = 0 }
told P.NoSinglePart = record { number = 19; request_length = 0 }

-- ---- inner steps: no promise cites these

-- a request in size
abbrev pub RequestIn : ℕ → List ℕ → Type 0
RequestIn most message = InSize most message × (c : Coding) × (count : ℕ) × (settings : List ℕ) × RequestOf c count settings message

-- committing a message with some reply buffer made the store so, and was answered 0 or not
pub record Took (lim : Limits) (message store after : List ℕ) (r : Bool) : Type 0 where
  pub reply : List ℕ
  pub long : 20 ≤ length reply
  pub outcome : AfterTaking
  pub allowed : Answers (taken lim message store reply) outcome
  pub left : after ≡ outcome.store
  pub answered : (r ≡ true) ↔ (outcome.answer.number ≡ 0)

-- whether the bytes behind the hash are the same, where there are such
abbrev pub TailsSame : List ℕ → List ℕ → Bool → Type 0
TailsSame a b r = hash_size ≤ length a → hash_size ≤ length b → (r ≡ true) ↔ (drop hash_size a ≡ drop hash_size b)

-- what is lent to compare exports in
pub record Lent (lim : Limits) (a b work : List ℕ) : Type 0 where
  pub one : lim.message ≤ length a
  pub other : lim.message ≤ length b
  pub copy : Lends lim work

-- two stores of sets with these limits hold these tables, and what is lent has its size
pub record Both (lim : Limits) (first second a b work : List ℕ) (t u : Tables) : Type 0 where
  pub able : Exportable lim
  pub roomy : Roomy lim
  pub here : Holds lim t first
  pub there : Holds lim u second
  pub lent : Lent lim a b work

-- whether the part with this number is the same in both
abbrev pub Compared : Limits → ℕ → (first second a b work : List ℕ) → Bool → Type 0
Compared lim n first second a b work r = (p : Part) (t u : Tables) → part_number p ≡ n → Both lim first second a b work t u → (r ≡ true) ↔ SamePart p t u

-- with the part of this number, which is the same or not
abbrev pub noted : Differing → ℕ → Bool → Differing
noted d n true = d
noted Nothing n false = One n
noted (One m) n false = Several
noted Several n false = Several

-- what is known of the parts with numbers up to k
abbrev pub Known : Tables → Tables → ℕ → Differing → Type 0
Known t u k Nothing = (q : Part) → part_number q ≤ k → SamePart q t u
Known t u k (One n) = (p : Part) × (part_number p ≡ n) × (n ≤ k) × (SamePart p t u → ⊥) × ((q : Part) → part_number q ≤ k → q ≢ p → SamePart q t u)
Known t u k Several = (p : Part) × (q : Part) × (p ≢ q) × (SamePart p t u → ⊥) × (SamePart q t u → ⊥)

-- and of all ten
abbrev pub AllCompared : Limits → (first second a b work : List ℕ) → Differing → Type 0
AllCompared lim first second a b work d = (t u : Tables) → Both lim first second a b work t u → Known t u 10 d
