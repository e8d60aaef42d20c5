-- The digits that a line's slot keeps, written into a buffer, and what is answered of them. Assumes nothing.
use Rattle.lists.proofs.Kit.{ℕ, ◌+◌, ◌-◌, ◌≤◌, ◌<◌, ◌≡◌, ◌≢◌, refl, sym, ap, ap₂, ◌∙◌, subst, inr, List, ◌++◌, map, none, some, arith, mid_of, length, take, drop, get_or, set, take_all}
use Rattle.lists.specs.Ladder.{Answers}
use Rattle.slots.specs.Slots.{written_over}
use Rattle.slots.proofs.Runs.{copy_more}
use Rattle.writing.specs.Ranges.{InNumber}
use Rattle.writing.specs.Settings.{Number}
use Rattle.tables.specs.declared.limits.Limits.{Limits}
use Rattle.tables.specs.Apply.{and_then}
use Rattle.tables.specs.Layout.{digit_bytes, digits_at}
use Rattle.tables.specs.Store.{StoreOf, Holds}
use Rattle.tables.specs.Tables.{Line as LineEntry, Tables}
use Rattle.tables.proofs.TextCodes.{digits_length}
use Rattle.screen.specs.declared.names.Slot.{Slot}
use Rattle.std.specs.Prelude.{Option as Maybe, Some, None}
use Rattle.screen.specs.declared.rows.Row.{Row}
use Rattle.screen.specs.declared.rows.Row.TheVariants.{Line, QuickText, StatusText, Group, Individual, GroupContact, IndividualContact, LineSlot, NoTable}
use Rattle.screen.specs.Rows.{of}
use Rattle.screen.proofs.NumberLaws.{kept_here, more_digits}
use Rattle.std.specs.Prelude.{Result, Ok, Err}
use Rattle.values.specs.declared.answers.NoValue.{NoValue}
use Rattle.values.specs.declared.answers.NoValue.TheVariants.{Absent}
use Rattle.values.specs.Digits.{number_at, digits_told, writing_digits}
use Rattle.values.specs.Entries.{line, group, individual, standing, number_of, kind_of, text, entry, Filled, DigitsWritten, digits_said, DigitsAre}
use Rattle.values.proofs.EntryLaws.{own_part, answered, seen_of}

-- ---- digits one by one

-- the first i digits are written
pub record WrittenSoFar (ds : Number) (before after : List ℕ) (i : ℕ) : Type 0 where
  pub within : i ≤ length ds
  pub bytes : after ≡ take i ds ++ drop i before

module _ (kept before : List ℕ) (ds : Number) (ok : InNumber ds) (e : kept ≡ digit_bytes ds) (after : List ℕ) (i : ℕ) (g : WrittenSoFar ds before after i) where
  -- one digit more
  pub digit_more : i < 18 → i < length before → get_or kept i 0 ≢ 0 → WrittenSoFar ds before (set after i (get_or kept i 0 - 1)) (i + 1)
  digit_more h l n =
      let m : i < length ds = more_digits kept before ds ok e i (get_or kept i 0) h refl n in
      let d : get_or kept i 0 - 1 ≡ get_or ds i 0 = omega (arith, kept_here kept before ds ok e i h m) in
      record { within = omega arith; bytes = ap₂ (λ y x. set y i x) g.bytes d ∙ copy_more ds before i m l }

  -- all are written
  pub digits_done : length ds ≤ i → (i ≡ length ds) × (after ≡ written_over ds before)
  digits_done l =
      let n : i ≡ length ds = omega (arith, g.within) in
      (n, g.bytes ∙ ap₂ (λ y j. y ++ drop j before) (take_all i ds l) n)

  -- the end was met
  pub digits_stop : i < 18 → get_or kept i 0 ≡ 0 → (i ≡ length ds) × (after ≡ written_over ds before)
  digits_stop h z = digits_done (omega (arith, no_digit))
    where
      no_digit : i < length ds → ⊥
      no_digit y = omega (arith, kept_here kept before ds ok e i h y)

-- ---- a slot's digits

-- a line's slot
pub line_digits : (row : Row) (slot before after : List ℕ) (n : ℕ) → kind_of row ≡ 1 → DigitsWritten (mid_of digits_at 18 slot) before after n → DigitsAre row slot before after (Ok n)
line_digits row slot before after n k w o (text z) = absurd (omega arith)
line_digits row slot before after n k w o (entry (line l) e ok b) =
    let (p, q) = w l.number ok.number (ap (mid_of digits_at 18) b ∙ take_all 18 (digit_bytes l.number) (omega (arith, digits_length l.number))) in
    (λ i. record { number = 0; count = p i; buffer = q i })
line_digits row slot before after n k w o (entry (group g) e ok b) = absurd (omega arith)
line_digits row slot before after n k w o (entry (individual x) e ok b) = absurd (omega arith)

-- any other
pub no_digits : (row : Row) (slot buffer : List ℕ) → (kind_of row ≡ 1 → ⊥) → DigitsAre row slot buffer buffer (Err Absent)
no_digits row slot buffer k o (text z) = refl
no_digits row slot buffer k o (entry (line l) e ok b) = absurd (k e)
no_digits row slot buffer k o (entry (group g) e ok b) = refl
no_digits row slot buffer k o (entry (individual x) e ok b) = refl

-- ---- the answer

number_stands : (t : Tables) (row : Row) → number_at t row ≡ and_then (standing t row) number_of
number_stands t (Line n) = seen_of line (of (λ (l : LineEntry). l.number)) (λ o. and_then o number_of) refl (λ l. refl) (get_or (map some t.lines) n none)
number_stands t (QuickText n) = refl
number_stands t (StatusText n) = refl
number_stands t (Group n) = seen_of group (λ o. none) (λ o. and_then o number_of) refl (λ g. refl) (get_or t.groups n none)
number_stands t (Individual n) = seen_of individual (λ o. none) (λ o. and_then o number_of) refl (λ i. refl) (get_or t.individuals n none)
number_stands t (GroupContact n) = seen_of group (λ o. none) (λ o. and_then o number_of) refl (λ g. refl) (get_or (map some t.group_contacts) n none)
number_stands t (IndividualContact n) = seen_of individual (λ o. none) (λ o. and_then o number_of) refl (λ i. refl) (get_or (map some t.individual_contacts) n none)
number_stands t (LineSlot n) = seen_of line (of (λ (l : LineEntry). l.number)) (λ o. and_then o number_of) refl (λ l. refl) (get_or t.line_slots n none)
number_stands t NoTable = refl

module _ {lim : Limits} {s : List ℕ} (row : Row) (before : List ℕ) (big : 18 ≤ length before) (store : StoreOf lim s) (place : Maybe Slot) (f : Filled lim s row place) where
  told_digits : (r : Result ℕ NoValue) (after : List ℕ) → ((t : Tables) → Holds lim t s → digits_told r after ≡ digits_said before (and_then (standing t row) number_of)) → Answers (writing_digits lim row s before) (digits_told r after)
  told_digits r after is =
      inr (λ h. omega arith, inr (λ m. m store, answered lim (λ t. number_at t row) s store _ _ (digits_told r after) (λ t h. is t h ∙ ap (digits_said before) (sym (number_stands t row)))))

  -- DIGITS-NONE: nothing stands there
  pub digits_none : place ≡ None → Answers (writing_digits lim row s before) (digits_told (Err Absent) before)
  digits_none e = let g = subst (Filled lim s row) e f in told_digits (Err Absent) before (λ t h. ap (λ o. digits_said before (and_then o number_of)) (sym (g t h)))

  -- DIGITS-THERE: what was written of the slot
  pub digits_there : (slot : Slot) → place ≡ Some slot → (r : Result ℕ NoValue) (after : List ℕ) → DigitsAre row (own_part slot s) before after r → Answers (writing_digits lim row s before) (digits_told r after)
  digits_there slot e r after is = let g = subst (Filled lim s row) e f in told_digits r after (λ t h. is (standing t row) (g.2 t h))
