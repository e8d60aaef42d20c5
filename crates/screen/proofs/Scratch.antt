-- "Scratch bytes not in a written number stay": and a number has at most 18 units. Assumes nothing.
use Rattle.lists.proofs.Kit.{ℕ, zero, suc, ◌+◌, ◌*◌, ◌-◌, ◌/◌, ◌%◌, ◌≤◌, ◌≡◌, refl, sym, ap, ◌∙◌, subst, List, [], ◌∷◌, ◌++◌, map, arith, length, drop, get_or, length-append, length-drop, length-map, get_or-append-add, get_or-drop}
use Rattle.lists.specs.Ladder.{Answers}
use Rattle.plan.specs.Numbers.{Individual as IndividualPlan, Group as GroupPlan}
use Rattle.writing.specs.Settings.{Text}
use Rattle.tables.specs.declared.limits.Limits.{Limits}
use Rattle.tables.specs.Tables.{Tables}
use Rattle.screen.specs.declared.rows.Row.{Row}
use Rattle.screen.specs.Rows.{Caption, text, line, group, individual, ascii, digits, AddressText, dialled, outside, Display, stored, written, Displays, unit_bytes}
use Rattle.screen.proofs.AnswerLaws.{shown_by}
use Rattle.screen.proofs.EntryLaws.{HeadIn, row_captioned, row_there}
use Rattle.screen.specs.Screen.{AfterRow, RowPart, of_store, of_scratch, shows, RowShown, showing}
use Rattle.screen.proofs.NumberLaws.{unit_length}
use Rattle.screen.proofs.Theorems.{not_written, number_of_empty}

-- ---- how long numbers are

-- so many digits
digits_many : (base n x : ℕ) → length (digits base n x) ≡ n
digits_many base zero x = refl
digits_many base (suc n) x = length-append (digits base n (x / base)) (x % base ∷ []) ∙ omega (arith, digits_many base n (x / base))

-- eight or six
address_short : (Plan : ℕ → ℕ → Type 0) (a : ℕ) (us : Text) → AddressText Plan a us → length us ≤ 18
address_short Plan a us (dialled n p e) = omega (arith, ap length e, length-map (digits 10 8 n) ascii, digits_many 10 8 n)
address_short Plan a us (outside n e) = omega (arith, ap length e, length-map (digits 16 6 a) ascii, digits_many 16 6 a)

-- or as many as a line's number has
number_short : (store : List ℕ) (start : ℕ) (c : Caption) (us : Text) → HeadIn store start c → Displays c (written us) → length us ≤ 18
number_short store start (text vs) us h s = absurd (not_written (sym s))
number_short store start (line vs ds) us h s = let (_, e) = number_of_empty (λ ns. ns ≡ map ascii ds) vs us s in omega (arith, ap length e, length-map ds ascii, h.0.1)
number_short store start (group vs a) us h s = address_short GroupPlan a.0 us (number_of_empty (AddressText GroupPlan a.0) vs us s).1
number_short store start (individual vs a) us h s = address_short IndividualPlan a.0 us (number_of_empty (AddressText IndividualPlan a.0) vs us s).1

-- ---- the scratch afterwards

-- how many bytes of the scratch a part takes
abbrev pub in_scratch : RowPart → ℕ
in_scratch (of_store start bytes) = 0
in_scratch (of_scratch bytes) = bytes

-- as many bytes, and past the number the same
abbrev pub Stays : List ℕ → AfterRow → Type 0
Stays scratch a = (length a.scratch ≡ length scratch) × ((i : ℕ) → in_scratch a.part ≤ i → get_or a.scratch i 0 ≡ get_or scratch i 0)

module _ (lim : Limits) (store scratch : List ℕ) (row : Row) where
  -- a number that is shown has at most 18 units
  pub written_short : (a : AfterRow) (p : RowShown lim store scratch row a) (us : Text) → p.display ≡ written us → length us ≤ 18
  written_short a p us e =
      let (slot, is) = row_there lim p.tables p.holds.0 row p.row_is p.there in
      let (c, d) = row_captioned lim p.tables store row slot p.holds is p.row_is p.there in
      number_short store slot.start p.row_is us (subst (HeadIn store slot.start) d c.head) (subst (Displays p.row_is) e p.shown)

  -- what is shown leaves them
  display_stays : (t : Tables) (d : Display) → 36 ≤ length scratch → ((us : Text) → d ≡ written us → length us ≤ 18) → Stays scratch (shows lim t scratch row d)
  display_stays t (stored us) big short = (refl, λ i h. refl)
  display_stays t (written us) big short =
      let l : length (unit_bytes us) ≡ 2 * length us = unit_length us in
      let k : length us ≤ 18 = short us refl in (
        omega (arith, length-append (unit_bytes us) (drop (2 * length us) scratch), length-drop (2 * length us) scratch),
        λ i h.
            let j : i ≡ length (unit_bytes us) + (i - 2 * length us) = omega arith in
            let n : 2 * length us + (i - 2 * length us) ≡ i = omega arith in
            ap (λ x. get_or (unit_bytes us ++ drop (2 * length us) scratch) x 0) j ∙ get_or-append-add (unit_bytes us) (drop (2 * length us) scratch) (i - 2 * length us) 0
            ∙ get_or-drop (2 * length us) scratch (i - 2 * length us) 0 ∙ ap (λ x. get_or scratch x 0) n,
      )

  -- SCRATCH STAYS: as many bytes, and those past a written number as they were
  pub scratch_stays : (a : AfterRow) → Answers (showing lim store scratch row) a → Stays scratch a
  scratch_stays = shown_by lim store scratch row (Stays scratch) (λ why. (refl, λ i h. refl)) (λ a p big. display_stays p.tables p.display big (written_short a p))
