-- What the desk emulator's calls answer, packed: where a row's part starts and how long it is have 16 bits each. Assumes nothing.
use Rattle.lists.proofs.Kit.{ℕ, ◌+◌, ◌*◌, ◌≤◌, ◌<◌, ◌≡◌, refl, sym, ap, subst, ◌⊎◌, inl, inr, List, [], some, arith, length}
use Rattle.lists.specs.Ladder.{Answers}
use Rattle.tables.specs.declared.limits.Limits.{Limits}
use Rattle.tables.specs.Allowed.{Allowed}
use Rattle.tables.specs.Forms.{Roomy, layout}
use Rattle.tables.specs.Limits.{handheld}
use Rattle.tables.specs.Tables.{Tables}
use Rattle.tables.proofs.RoomyLaws.{handheld_roomy}
use Rattle.screen.specs.declared.answers.Answer.{Answer}
use Rattle.screen.specs.declared.answers.Place.{Place}
use Rattle.screen.specs.declared.answers.Place.TheVariants.{Store, Scratch, Refused as NoPlace}
use Rattle.screen.specs.declared.rows.Refusal.{Refusal}
use Rattle.screen.specs.declared.rows.Refusal.TheVariants.{ScratchSize, NotAStore, Absent}
use Rattle.screen.specs.declared.rows.Row.{Row}
use Rattle.screen.specs.Rows.{row_named, Caption, caption, text_of, Display, stored, written, Displays, units, text_start}
use Rattle.screen.specs.Screen.{RowPart, of_store, of_scratch, AfterRow, refusal, refused, number, leaves, shows, RowShown}
use Rattle.screen.proofs.Scratch.{written_short}
use Rattle.screen.proofs.TextPlaces.{text_inside}
use Rattle.screen.proofs.Theorems.{stored_text}
use Rattle.packing.specs.Packing.{part_of, start_of, length_of, PacksPart}
use Rattle.plain_log.specs.declared.areas.Started.{Started}
use Rattle.plain_log.specs.declared.areas.Started.TheVariants.{Fresh, WrongSize}
use Rattle.plain_log.specs.Area.{area_starting, area_begins}
use Rattle.plain_rows.specs.PlainRows.{in_scratch, PlainShown, plain_showing, plain_numbering}
use Rattle.plain_rows.proofs.AreaTables.{area_allowed}
use Rattle.packing_desk.specs.PackedDesk.{area_started, AreaStarts, PlainNumbers, PlainParts}

-- ---- starting

-- STARTS: what the call answers, by its number
pub area_starts_packed : (before after : List ℕ) (a : Started) (r : ℕ) → r ≡ area_started a → Answers (area_starting before) (area_begins a after) → AreaStarts before after r
area_starts_packed before after Fresh r e x = subst (λ (n : ℕ). AreaStarts before after n) (sym e) x
area_starts_packed before after WrongSize r e x = subst (λ (n : ℕ). AreaStarts before after n) (sym e) x

-- ---- how long a part is

-- what is shown of allowed tables is a text that a store has room for, or a number
shown_short : (lim : Limits) → Roomy lim → lim.size ≤ 65535 → (t : Tables) → Allowed lim t → (row : Row) (c : Caption) → caption t row ≡ some c → (d : Display) → Displays c d → 2 * length (units d) < 65536
shown_short lim roomy size t ok row c there (stored us) shown =
    let u : us ≡ text_of c = stored_text c us shown in
    let h : text_start lim t row + 2 * length (text_of c) ≤ lim.size = text_inside lim t (layout lim t) (ok, refl) row c there roomy in
    let l : length us ≡ length (text_of c) = ap length u in
    omega arith
shown_short lim roomy size t ok row c there (written us) shown =
    let p : RowShown lim (layout lim t) [] row (shows lim t [] row (written us)) = record { tables = t; holds = (ok, refl); row_is = c; there = there; display = written us; shown = shown; after = refl } in
    omega (arith, written_short lim (layout lim t) [] row _ p us refl)

-- a part of the scratch whose length has 16 bits where the row is shown, and none where it is not
abbrev pub InScratch : AfterRow → Type 0
InScratch a = ((a.number ≡ 0) × (bytes : ℕ) × (bytes < 65536) × (a.part ≡ of_scratch bytes)) ⊎ ((10 < a.number) × (a.part ≡ of_store 0 0))

-- a refusal's number is not 0
refusal_above : (why : Refusal) → 10 < refusal why
refusal_above ScratchSize = omega arith
refusal_above NotAStore = omega arith
refusal_above Absent = omega arith

-- where a part starts and how long it is have 16 bits
abbrev Small : RowPart → Type 0
Small p = (start_of p < 65536) × (length_of p < 65536)

-- so it is of such a part
small : (a : AfterRow) → InScratch a → Small a.part
small a (inl (_, n, h, e)) = subst Small (sym e) (omega arith, h)
small a (inr (_, e)) = subst Small (sym e) (omega arith, omega arith)

module _ (area scratch : List ℕ) (row : Row) where
  -- an answer is a refusal, or what is shown
  plain_by : (X : AfterRow → Type 0) → ((why : Refusal) → X (refused (refusal why) scratch))
      → ((a : AfterRow) (p : PlainShown area scratch row a) → X (in_scratch scratch (units p.display)))
      → (a : AfterRow) → Answers (plain_showing area scratch row) a → X a
  plain_by X refuse there a (inl (l, e)) = subst X (sym e) (refuse ScratchSize)
  plain_by X refuse there a (inr (l, inl (n, e))) = subst X (sym e) (refuse NotAStore)
  plain_by X refuse there a (inr (l, inr (n, inl (k, e)))) = subst X (sym e) (refuse Absent)
  plain_by X refuse there a (inr (l, inr (n, inr (k, p)))) = subst X (sym p.after) (there a p)

  -- PART IN SCRATCH: whatever is answered, its part is such
  pub part_in_scratch : (a : AfterRow) → Answers (plain_showing area scratch row) a → InScratch a
  part_in_scratch =
      plain_by InScratch (λ why. inr (refusal_above why, refl))
      (λ a p. inl (
        refl,
        2 * length (units p.display),
        shown_short handheld handheld_roomy (omega arith) p.tables (area_allowed area p.log p.tables p.area_is) row p.row_is p.there p.display p.shown,
        refl,
      ))

  -- both calls judge alike
  pub plain_number_same : (a : AfterRow) → Answers (plain_showing area scratch row) a → Answers (plain_numbering area scratch row) a.number
  plain_number_same a (inl (l, e)) = inl (l, ap (λ (x : AfterRow). x.number) e)
  plain_number_same a (inr (l, inl (n, e))) = inr (l, inl (n, ap (λ (x : AfterRow). x.number) e))
  plain_number_same a (inr (l, inr (n, inl (k, e)))) = inr (l, inr (n, inl (k, ap (λ (x : AfterRow). x.number) e)))
  plain_number_same a (inr (l, inr (n, inr (k, p)))) = inr (l, inr (n, inr (k, ap (λ (x : AfterRow). x.number) p.after)))

-- ---- what the calls answer

module _ (table row : ℕ) (area scratch : List ℕ) (which : Row) (named : which ≡ row_named table row) where
  -- NUMBERS: the number of a row
  pub plain_numbers_packed : (a : Answer) (r : ℕ) → r ≡ number a → Answers (plain_numbering area scratch which) (number a) → PlainNumbers table row area scratch r
  plain_numbers_packed a r e x =
      subst (λ (w : Row). Answers (plain_numbering area scratch w) r) named (subst (Answers (plain_numbering area scratch which)) (sym e) x)

  module _ (after : List ℕ) where
    -- an answer of the code, by its name for C
    moved : (p : Place) → Answers (plain_showing area scratch which) (leaves p after) → Answers (plain_showing area scratch (row_named table row)) (leaves p after)
    moved p a = subst (λ (w : Row). Answers (plain_showing area scratch w) (leaves p after)) named a

    -- its part has so many bits
    fits : (p : Place) → Answers (plain_showing area scratch which) (leaves p after) → Small (leaves p after).part
    fits p a = small (leaves p after) (part_in_scratch area scratch which (leaves p after) a)

    -- PARTS: what the call answers is packed whole
    pub plain_parts_packed : (p : Place) (r : ℕ) → Answers (plain_showing area scratch which) (leaves p after)
        → (start_of (part_of p) < 65536 → length_of (part_of p) < 65536 → PacksPart (part_of p) r) → PlainParts table row area scratch after r
    plain_parts_packed (Store start bytes) r a packs =
        let (h, k) = fits (Store start bytes) a in
        record { number = _; part = of_store start bytes; allowed = moved (Store start bytes) a; packs = packs h k }
    plain_parts_packed (Scratch bytes) r a packs =
        let (h, k) = fits (Scratch bytes) a in
        record { number = _; part = of_scratch bytes; allowed = moved (Scratch bytes) a; packs = packs h k }
    plain_parts_packed (NoPlace why) r a packs =
        let (h, k) = fits (NoPlace why) a in
        record { number = _; part = of_store 0 0; allowed = moved (NoPlace why) a; packs = packs h k }
