-- What stands in a row of tables that deeds tell, by what the deeds have there. Assumes nothing.
use Rattle.lists.proofs.Kit.{ℕ, zero, suc, ◌-◌, ◌≤◌, ◌<◌, ◌≡◌, refl, sym, ap, subst, Bool, true, false, false≢true, cond, List, [], ◌∷◌, map, Option, none, some, arith, ltb, le-ltb, ltb-false, length, get_or}
use denote.Enum.Declared.{tag_of}
use Rattle.lists.specs.Every.{All}
use Rattle.slots.specs.Slots.{Present}
use Rattle.writing.specs.declared.Kind.{Kind}
use Rattle.writing.specs.declared.Kind.TheVariants as kinds
use Rattle.writing.specs.Ranges.{InNumber}
use Rattle.writing.specs.Settings.{Text}
use Rattle.tables.specs.Allowed.{Allowed, QuickOk, StatusOk, GroupOk, IndividualOk, LineOk}
use Rattle.tables.specs.Apply.{and_then}
use Rattle.tables.specs.Limits.{handheld}
use Rattle.tables.specs.Owns.{own}
use Rattle.tables.specs.Tables.{Line as LineEntry, GroupMember, IndividualMember, Tables}
use Rattle.events.specs.Deeds.{number_code}
use Rattle.events.specs.Deeds as D
use Rattle.events.specs.Rows.{in_row}
use Rattle.events.specs.Knowing.{Shown, shown_of, cell_shown, InRow, row_seen, Telling}
use Rattle.events.proofs.SeenRows.{row_shown}
use Rattle.screen.specs.declared.rows.Row.{Row}
use Rattle.screen.specs.declared.rows.Row.TheVariants.{Line, QuickText, StatusText, Group, Individual, GroupContact, IndividualContact, LineSlot, NoTable}
use Rattle.screen.specs.Rows.{Caption, text, line, group, individual, line_row, individual_row, group_row, caption, text_of, of}
use Rattle.screen.specs.contracts.rows.Row.{the_type}
use Rattle.screen.proofs.EntryLaws.{kind_at, kind_of, none_past}
use Rattle.std.specs.declared.option.Option.TheVariants.{Some, None}
use Rattle.plain_rows.specs.Naming.{Spot, PlacedIn, SpotIs}

-- ---- captions

-- the number that a caption is named by
abbrev pub NamedBy : Caption → ℕ → Type 0
NamedBy (text us) n = Unit {0}
NamedBy (line us ds) n = InNumber ds × (n ≡ number_code ds)
NamedBy (group us a) n = (n ≡ a.0) × (n < 0x1000000)
NamedBy (individual us a) n = (n ≡ a.0) × (n < 0x1000000)

-- what is shown of an entry is this caption, of this kind
pub record Captions (o : Option Caption) (kind : ℕ) (h : Shown) : Type 0 where
  pub row_is : Caption
  pub there : o ≡ some row_is
  pub of_kind : kind ≡ kind_of row_is
  pub same_text : text_of row_is ≡ h.text
  pub named : NamedBy row_is h.name
  pub short : length (text_of row_is) ≤ 23

-- nothing is shown of no entry, nor of a hidden one
abbrev pub Captioned : Option Caption → ℕ → Option Shown → Type 0
Captioned o k none = o ≡ none
Captioned o k (some h) = (h.hidden ≡ true → o ≡ none) × (h.hidden ≡ false → Captions o k h)

-- ---- entries as captions

-- a text
text_cell : (P : Text → Type 0) → ((us : Text) → P us → length us ≤ 23) → (o : Option Text) → Present P o → Captioned (of text o) 0 (mathlib.Core.Option.map (cell_shown kinds.QuickTexts) o)
text_cell P h none p = refl
text_cell P h (some us) p =
    (λ e. absurd (false≢true e), λ e. record { row_is = text us; there = refl; of_kind = refl; same_text = refl; named = tt; short = h us p })

-- a line
line_cell : (o : Option LineEntry) → Present LineOk o → Captioned (of line_row o) 1 (mathlib.Core.Option.map (cell_shown kinds.Lines) o)
line_cell none p = refl
line_cell (some l) p = (
  λ e. absurd (false≢true e),
  λ e. record { row_is = line_row l; there = refl; of_kind = refl; same_text = refl; named = (p.number, refl); short = omega (arith, p.text.short) },
)

-- an individual
individual_cell : (o : Option IndividualMember) → Present IndividualOk o → Captioned (of individual_row o) 3 (mathlib.Core.Option.map (cell_shown kinds.Individual) o)
individual_cell none p = refl
individual_cell (some i) p = (
  λ e. absurd (false≢true e),
  λ e. record { row_is = individual_row i; there = refl; of_kind = refl; same_text = refl; named = (refl, p.address.1); short = omega (arith, p.text.short) },
)

-- a group, which may be hidden
group_cell : (o : Option GroupMember) → Present GroupOk o → Captioned (and_then o group_row) 2 (mathlib.Core.Option.map (cell_shown kinds.Group) o)
group_cell none p = refl
group_cell (some g) p = (
  λ e. ap (λ (b : Bool). cond b none (some (group g.text g.address))) e,
  λ e. record {
    row_is = group g.text g.address;
    there = ap (λ (b : Bool). cond b none (some (group g.text g.address))) e;
    of_kind = refl;
    same_text = refl;
    named = (refl, p.address.1);
    short = omega (arith, p.text.short);
  },
)

-- ---- entries of the tables

-- an entry of a list, and one of a table of places
present_listed : {A : Type 0} (P : A → Type 0) (xs : List A) (n : ℕ) → All P xs → Present P (get_or (map some xs) n none)
present_listed P [] n p = tt
present_listed P (x ∷ xs) zero p = p.0
present_listed P (x ∷ xs) (suc n) p = present_listed P xs n p.1

present_placed : {A : Type 0} (P : A → Type 0) (os : List (Option A)) (n : ℕ) → All (Present P) os → Present P (get_or os n none)
present_placed P [] n p = tt
present_placed P (o ∷ os) zero p = p.0
present_placed P (o ∷ os) (suc n) p = present_placed P os n p.1

-- ---- rows

-- what the deeds have at a spot
abbrev pub shown_at : List D.Deed → Spot → Option Shown
shown_at ds (Some p) = mathlib.Core.Option.map shown_of (row_seen p.0 ds p.1)
shown_at ds None = none

-- the kind of a row's captions
abbrev pub kind_in : Row → ℕ
kind_in row = kind_at (tag_of the_type row)

module _ (ds : List D.Deed) (t : Tables) (tells : Telling handheld ds t) where
  -- what the table has in a row, the deeds have there
  listed_at : (row : Row) (k : Kind) (i : ℕ) (p : Spot) → p ≡ Some (k, i) → InRow k i → Captioned (caption t row) (kind_in row) (mathlib.Core.Option.map (cell_shown k) (in_row k (own k t) i)) → Captioned (caption t row) (kind_in row) (shown_at ds p)
  listed_at row k i p e r c = subst (λ (q : Spot). Captioned (caption t row) (kind_in row) (shown_at ds q)) (sym e) (subst (Captioned (caption t row) (kind_in row)) (row_shown handheld ds t k i tells r) c)

  -- and so in a table of places, past which there is none
  placed_at : (row : Row) (k : Kind) (i places : ℕ) (p : Spot) → PlacedIn k i places p → (i < places → InRow k i) → (places ≤ i → caption t row ≡ none)
      → Captioned (caption t row) (kind_in row) (mathlib.Core.Option.map (cell_shown k) (in_row k (own k t) i)) → Captioned (caption t row) (kind_in row) (shown_at ds p)
  placed_at row k i places (Some (j, n)) h r past c =
      listed_at row j n (Some (j, n)) refl (subst (λ (x : Kind). InRow x n) (sym h.0) (subst (InRow k) (sym h.1) (r h.2)))
      (subst (λ (x : Kind). Captioned (caption t row) (kind_in row) (mathlib.Core.Option.map (cell_shown x) (in_row x (own x t) n))) (sym h.0)
      (subst (λ (x : ℕ). Captioned (caption t row) (kind_in row) (mathlib.Core.Option.map (cell_shown k) (in_row k (own k t) x))) (sym h.1) c))
  placed_at row k i places None h r past c = past h

  -- a status text, whose codes start at 32
  status_at : (ok : Allowed handheld t) (n : ℕ) (p : Spot) → SpotIs (StatusText n) p → Captioned (caption t (StatusText n)) 0 (shown_at ds p)
  status_at ok n p h = go (ltb n 32) refl p h
    where
      past : 96 ≤ n - 32 → of text (get_or t.status (n - 32) none) ≡ none
      past q = none_past (of text) t.status (n - 32) refl (omega (arith, ok.status.0))

      here : ltb n 32 ≡ false → Captioned (caption t (StatusText n)) 0 (mathlib.Core.Option.map (cell_shown kinds.StatusTexts) (get_or t.status (n - 32) none))
      here e = rw e (text_cell StatusOk (λ us q. omega (arith, q.short)) (get_or t.status (n - 32) none) (present_placed StatusOk t.status (n - 32) ok.status.1))

      go : (b : Bool) → ltb n 32 ≡ b → (q : Spot) → SpotIs (StatusText n) q → Captioned (caption t (StatusText n)) 0 (shown_at ds q)
      go b e (Some (j, i)) x = placed_at (StatusText n) kinds.StatusTexts (n - 32) 96 (Some (j, i)) x.1 (λ l. l) (λ l. rw (le-ltb n 32 x.0) (past l)) (here (le-ltb n 32 x.0))
      go true e None x = rw e
      go false e None x = rw e (past (x (ltb-false n 32 e)))

  -- ROW-CAPTIONED: what stands in a row of allowed tables is what the deeds have at its spot
  pub row_captioned : Allowed handheld t → (row : Row) (p : Spot) → SpotIs row p → Captioned (caption t row) (kind_in row) (shown_at ds p)
  row_captioned ok (Line n) p h = listed_at (Line n) kinds.Lines n p h tt (line_cell (get_or (map some t.lines) n none) (present_listed LineOk t.lines n ok.lines.1))
  row_captioned ok (QuickText n) p h =
      placed_at (QuickText n) kinds.QuickTexts n 64 p h (λ l. l) (λ l. none_past (of text) t.quick n refl (omega (arith, ok.quick.0)))
      (text_cell QuickOk (λ us q. q.text.short) (get_or t.quick n none) (present_placed QuickOk t.quick n ok.quick.1))
  row_captioned ok (StatusText n) p h = status_at ok n p h
  row_captioned ok (Group n) p h =
      placed_at (Group n) kinds.Group n 16 p h (λ l. l) (λ l. none_past (λ (o : Option GroupMember). and_then o group_row) t.groups n refl (omega (arith, ok.groups.0)))
      (group_cell (get_or t.groups n none) (present_placed GroupOk t.groups n ok.groups.1))
  row_captioned ok (Individual n) p h =
      placed_at (Individual n) kinds.Individual n 16 p h (λ l. l) (λ l. none_past (of individual_row) t.individuals n refl (omega (arith, ok.individuals.0)))
      (individual_cell (get_or t.individuals n none) (present_placed IndividualOk t.individuals n ok.individuals.1))
  row_captioned ok (GroupContact n) p h =
      listed_at (GroupContact n) kinds.GroupContacts n p h tt (group_cell (get_or (map some t.group_contacts) n none) (present_listed GroupOk t.group_contacts n ok.group_contacts.1))
  row_captioned ok (IndividualContact n) p h =
      listed_at (IndividualContact n) kinds.IndividualContacts n p h tt (individual_cell (get_or (map some t.individual_contacts) n none) (present_listed IndividualOk t.individual_contacts n ok.individual_contacts.1))
  row_captioned ok (LineSlot n) p h =
      placed_at (LineSlot n) kinds.LineSlot n 16 p h (λ l. l) (λ l. none_past (of line_row) t.line_slots n refl (omega (arith, ok.line_slots.0)))
      (line_cell (get_or t.line_slots n none) (present_placed LineOk t.line_slots n ok.line_slots.1))
  row_captioned ok NoTable p h = subst (λ (q : Spot). Captioned none 0 (shown_at ds q)) (sym h) refl
