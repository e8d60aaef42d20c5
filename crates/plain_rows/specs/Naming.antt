-- How a row's text is found and written: inner steps, no promise cites these.
use Rattle.std.specs.Prelude.{ℕ, ◌-◌, ◌≤◌, ◌<◌, ◌≡◌, List, [], map, length, take}
use Rattle.std.proofs.Math.Option.{none, some}
use Rattle.std.specs.declared.option.Option.{Option as Maybe}
use Rattle.std.specs.declared.option.Option.TheVariants.{Some, None}
use Rattle.std.specs.declared.result.Result.{Result}
use Rattle.std.specs.declared.result.Result.TheVariants.{Ok, Err}
use Rattle.std.specs.Borrow.{Bor}
use Rattle.lists.specs.Ladder.{Ladder}
use Rattle.writing.specs.declared.Kind.{Kind}
use Rattle.writing.specs.declared.Kind.TheVariants as kinds
use Rattle.writing.specs.Ranges.{InNumber}
use Rattle.writing.specs.Settings.{Text, Number}
use Rattle.read_fields.specs.declared.texts.TextPlace.{TextPlace}
use Rattle.tables.specs.Limits.{handheld}
use Rattle.tables.specs.Tables.{Tables}
use Rattle.events.specs.Deeds.{number_code}
use Rattle.events.specs.Deeds as D
use Rattle.events.specs.Knowing.{row_seen, Telling}
use Rattle.read_deeds.specs.declared.deeds.Put.{Put}
use Rattle.read_deeds.specs.Cursors.{Follow}
use Rattle.read_deeds.specs.ReadDeeds.{TextSeen}
use Rattle.plain_look.specs.Looking.{SeenIs}
use Rattle.plain_weigh.specs.Weighing.{log_start}
use Rattle.screen.specs.declared.answers.Place.{Place}
use Rattle.screen.specs.declared.rows.Refusal.{Refusal}
use Rattle.screen.specs.declared.rows.Refusal.TheVariants.{ScratchSize, NotAStore, Absent}
use Rattle.screen.specs.declared.rows.Row.{Row}
use Rattle.screen.specs.declared.rows.Row.TheVariants.{Line, QuickText, StatusText, Group, Individual, GroupContact, IndividualContact, LineSlot, NoTable}
use Rattle.screen.specs.Rows.{Caption, line, group, individual, caption, text_of, Displays, stored, ascii}
use Rattle.screen.specs.Steps.{Written}
use Rattle.plain_log.specs.Area.{AreaOf}
use Rattle.plain_rows.specs.declared.names.Name.{Name}
use Rattle.plain_rows.specs.declared.names.Name.TheVariants.{Text as TextAt, Line as LineNumber, Group as GroupNumber, Individual as IndividualNumber}
use Rattle.plain_rows.specs.PlainRows.{plain_judged, bytes_in}

-- ---- which row of which table

-- a table and its row, or that no table has it
abbrev pub Spot : Type 0
Spot = Maybe (Kind × ℕ)

abbrev pub PlacedIn : Kind → (n places : ℕ) → Spot → Type 0
PlacedIn k n places (Some p) = (p.0 ≡ k) × (p.1 ≡ n) × (n < places)
PlacedIn k n places None = places ≤ n

abbrev pub SpotIs : Row → Spot → Type 0
SpotIs (Line n) r = r ≡ Some (kinds.Lines, n)
SpotIs (QuickText n) r = PlacedIn kinds.QuickTexts n 64 r
SpotIs (StatusText n) (Some p) = (32 ≤ n) × PlacedIn kinds.StatusTexts (n - 32) 96 (Some p)
SpotIs (StatusText n) None = 32 ≤ n → 96 ≤ n - 32
SpotIs (Group n) r = PlacedIn kinds.Group n 16 r
SpotIs (Individual n) r = PlacedIn kinds.Individual n 16 r
SpotIs (GroupContact n) r = r ≡ Some (kinds.GroupContacts, n)
SpotIs (IndividualContact n) r = r ≡ Some (kinds.IndividualContacts, n)
SpotIs (LineSlot n) r = PlacedIn kinds.LineSlot n 16 r
SpotIs NoTable r = r ≡ None

-- ---- names

-- what was found is what the deeds have in the row
abbrev pub SpotSeen : List ℕ → Spot → List D.Deed → Maybe Put → Type 0
SpotSeen s (Some p) ds r = SeenIs s r (row_seen p.0 ds p.1)
SpotSeen s None ds r = r ≡ None

abbrev pub FoundIn : List ℕ → ℕ → Row → Maybe Put → Type 0
FoundIn s n row r = (ds : List D.Deed) → Follow s log_start ds → length ds ≡ n → n < 0x100000000 → (p : Spot) × SpotIs row p × SpotSeen s p ds r

abbrev pub AddressOf : ℕ → ℕ → Type 0
AddressOf n r = (n < 0x1000000 → r ≡ n) × (r < 0x1000000)

-- what a row shows, or why it is refused
abbrev pub Naming : Type 0
Naming = Result Name Refusal

-- what stands in a row of these tables, and what was found there
abbrev pub Named : Tables → List ℕ → Row → Naming → Type 0
Named t s row (Err ScratchSize) = ⊥
Named t s row (Err NotAStore) = ⊥
Named t s row (Err Absent) = caption t row ≡ none
Named t s row (Ok (TextAt p)) = (c : Caption) × (caption t row ≡ some c) × Displays c (stored (text_of c)) × TextSeen s p (text_of c) × (length (text_of c) ≤ 23)
Named t s row (Ok (LineNumber n)) = (ds : Number) × (caption t row ≡ some (line [] ds)) × InNumber ds × (n ≡ number_code ds)
Named t s row (Ok (GroupNumber a)) = caption t row ≡ some (group [] a)
Named t s row (Ok (IndividualNumber a)) = caption t row ≡ some (individual [] a)

-- by what was found in an area of these requests
abbrev pub NameFound : Row → Maybe Put → Naming → Type 0
NameFound row found r =
    (s : List ℕ) (log : List (List ℕ)) (t : Tables) (ds : List D.Deed) (p : Spot) → AreaOf s log t → Telling handheld ds t → SpotIs row p → SpotSeen s p ds found → Named t s row r

-- the tests of both calls, and then what was found
abbrev pub plain_naming : List ℕ → ℕ → Row → Ladder Naming
plain_naming area room row = plain_judged area room row Err (λ r. (log : List (List ℕ)) × (t : Tables) × AreaOf area log t × Named t area row r)

-- ---- writing

-- how many digits stand behind the 1
abbrev pub DigitsIn : ℕ → ℕ → Type 0
DigitsIn n r = ((ds : Number) → InNumber ds → n ≡ number_code ds → r ≡ length ds) × (r ≤ 18)

abbrev pub LineWritten : ℕ → List ℕ → List ℕ → ℕ → Type 0
LineWritten n s t r = (ds : Number) → InNumber ds → n ≡ number_code ds → 36 ≤ length s → Written (map ascii ds) s t r

abbrev pub TextWritten : List ℕ → TextPlace → List ℕ → List ℕ → ℕ → Type 0
TextWritten area p s t r = (us : Text) → TextSeen area p us → length us ≤ 23 → 64 ≤ length s → Written us s t r

-- the part of a place of the scratch
pub record ScratchPicked (scratch : Bor (List ℕ)) (place : Place) (r : Bor (List ℕ)) : Type 0 where
  pub ptr : r.ref_ptr ≡ scratch.ref_ptr
  pub bytes : bytes_in place ≤ length scratch.now → r.now ≡ take (bytes_in place) scratch.now
