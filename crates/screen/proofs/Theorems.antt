-- What the screen's calls promise: the whole text of the row or its number, nothing else, and nothing touched on a refusal. Assumes nothing.
use Rattle.lists.proofs.Kit.{ℕ, ◌*◌, ◌≤◌, ◌≡◌, refl, sym, ap, ap₂, ◌∙◌, subst, ◌≢◌, inl, inr, Bool, true, false, cond, List, [], ◌∷◌, map, Option, none, some, option_some_injective, option_none_ne_some, arith, eqb, eqb-false, length, take, drop, get_or, take_at}
use denote.Ref.{Bor}
use Rattle.lists.specs.Ladder.{Answers}
use Rattle.writing.specs.Settings.{Text}
use Rattle.tables.specs.declared.limits.Limits.{Limits}
use Rattle.tables.specs.Apply.{and_then}
use Rattle.tables.specs.Store.{StoreOf, Holds}
use Rattle.tables.specs.Tables.{Tables, GroupMember, IndividualMember}
use Rattle.screen.specs.declared.rows.Row.{Row}
use Rattle.screen.specs.declared.rows.Row.TheVariants.{Group, Individual, GroupContact, IndividualContact}
use Rattle.screen.specs.Rows.{Caption, text, line, group, individual, individual_row, group_row, caption, of, text_of, ascii, digits, GroupText, IndividualText, Display, stored, written, units, text_or, Displays, text_start, unit_bytes}
use Rattle.screen.proofs.TextPlaces.{text_stands as stands}
use Rattle.screen.specs.Screen.{AfterRow, of_store, refused, shows, RowShown, showing, numbering, bytes_of, RowBytes, PartGiven}
use Rattle.screen.proofs.AnswerLaws.{shown_number, one_tables, shown_by, number_same}
use Rattle.screen.proofs.Determined.{one_display, number_one}
use Rattle.screen.proofs.NumberLaws.{unit_length}

-- ---- the bytes of a part

-- a stored text is no number
pub not_written : {us ns : Text} → stored us ≡ written ns → ⊥
not_written e = let z : ◌≡◌ {A = ℕ} 0 1 = cc in omega arith

-- a stored text is the row's
pub stored_text : (c : Caption) (us : Text) → Displays c (stored us) → us ≡ text_of c
stored_text (text vs) us e = ap units e
stored_text (line [] ds) us (ns, p, e) = absurd (not_written e)
stored_text (line (v ∷ vs) ds) us e = ap units e
stored_text (group [] a) us (ns, p, e) = absurd (not_written e)
stored_text (group (v ∷ vs) a) us e = ap units e
stored_text (individual [] a) us (ns, p, e) = absurd (not_written e)
stored_text (individual (v ∷ vs) a) us e = ap units e

module _ (lim : Limits) (store : List ℕ) (row : Row) where
  -- TEXT STANDS: the row's text stands at its start, unit for unit
  pub text_stands : (t : Tables) (c : Caption) → Holds lim t store → caption t row ≡ some c → take (2 * length (text_of c)) (drop (text_start lim t row) store) ≡ unit_bytes (text_of c)
  text_stands t c h e = stands lim t store h row c e

  module _ (scratch : List ℕ) where
    -- the part of what is shown has its units and nothing else
    display_bytes : (t : Tables) (c : Caption) (d : Display) → Holds lim t store → caption t row ≡ some c → Displays c d
        → bytes_of (shows lim t scratch row d).part store (shows lim t scratch row d).scratch ≡ unit_bytes (units d)
    display_bytes t c (stored us) h e s =
        let u : us ≡ text_of c = stored_text c us s in
        ap (λ v. take (2 * length v) (drop (text_start lim t row) store)) u ∙ text_stands t c h e ∙ ap unit_bytes (sym u)
    display_bytes t c (written us) h e s = take_at (unit_bytes us) (drop (2 * length us) scratch) (2 * length us) (unit_length us)

    shown_bytes : (a : AfterRow) (p : RowShown lim store scratch row a) → bytes_of a.part store a.scratch ≡ unit_bytes (units p.display)
    shown_bytes a p =
        ap (λ (x : AfterRow). bytes_of x.part store x.scratch) p.after ∙ display_bytes p.tables p.row_is p.display p.holds p.there p.shown

    module _ (a : AfterRow) (x : Answers (showing lim store scratch row) a) where
      -- WHOLE TEXT: of a store of these tables, the row's text or number, and nothing of an absent row
      pub whole_text : (t : Tables) → StoreOf lim store → Holds lim t store → 36 ≤ length scratch → RowBytes (caption t row) (bytes_of a.part store a.scratch)
      whole_text t s h big = by x
        where
          by : Answers (showing lim store scratch row) a → RowBytes (caption t row) (bytes_of a.part store a.scratch)
          by (inl (l, e)) = absurd (omega arith)
          by (inr (l, inl (n, e))) = absurd (n s)
          by (inr (l, inr (n, inl (k, e)))) =
              subst (λ (o : Option Caption). RowBytes o (bytes_of a.part store a.scratch)) (sym (k t h)) (ap (λ (y : AfterRow). bytes_of y.part store y.scratch) e)
          by (inr (l, inr (n, inr (k, p)))) =
              let e : caption t row ≡ some p.row_is = ap (λ u. caption u row) (one_tables lim store t p.tables h p.holds) ∙ p.there in
              subst (λ (o : Option Caption). RowBytes o (bytes_of a.part store a.scratch)) (sym e) (p.display, p.shown, shown_bytes a p)

      -- NOTHING TOUCHED: on a refusal the part is empty and the scratch stays
      pub refused_untouched : a.number ≢ 0 → (a.part ≡ of_store 0 0) × (a.scratch ≡ scratch)
      refused_untouched =
          shown_by lim store scratch row (λ y. y.number ≢ 0 → (y.part ≡ of_store 0 0) × (y.scratch ≡ scratch)) (λ why n. (refl, refl))
          (λ y p big n. absurd (n (shown_number lim p.tables scratch row p.display))) a x

      -- JUDGED ALIKE: both calls give one number
      pub alike : (n : ℕ) → Answers (numbering lim store scratch row) n → a.number ≡ n
      alike n y = number_one lim store scratch row a.number n (number_same lim store scratch row a x) y

-- ---- equal stores

-- EQUAL STORES: what is shown of a store does not depend on what the scratch held
pub equal_stores : (lim : Limits) (store x y : List ℕ) (row : Row) (a b : AfterRow) → 36 ≤ length x → 36 ≤ length y → Answers (showing lim store x row) a → Answers (showing lim store y row) b
    → (a.number ≡ b.number) × (a.part ≡ b.part) × (bytes_of a.part store a.scratch ≡ bytes_of b.part store b.scratch)
equal_stores lim store x y row a b big large = by
  where
    Goal : Type 0
    Goal = (a.number ≡ b.number) × (a.part ≡ b.part) × (bytes_of a.part store a.scratch ≡ bytes_of b.part store b.scratch)

    -- both were refused with one number
    both : (n : ℕ) → a ≡ refused n x → b ≡ refused n y → Goal
    both n e d = (
      ap (λ (z : AfterRow). z.number) e ∙ sym (ap (λ (z : AfterRow). z.number) d),
      ap (λ (z : AfterRow). z.part) e ∙ sym (ap (λ (z : AfterRow). z.part) d),
      ap (λ (z : AfterRow). bytes_of z.part store z.scratch) e ∙ sym (ap (λ (z : AfterRow). bytes_of z.part store z.scratch) d),
    )

    -- a part does not depend on the scratch
    part_of : (t : Tables) (d : Display) → (shows lim t x row d).part ≡ (shows lim t y row d).part
    part_of t (stored us) = refl
    part_of t (written us) = refl

    by : Answers (showing lim store x row) a → Answers (showing lim store y row) b → Goal
    by (inl (l, e)) q = absurd (omega arith)
    by (inr p) (inl (l, e)) = absurd (omega arith)
    by (inr (l, inl (n, e))) (inr (k, inl (j, d))) = both 11 e d
    by (inr (l, inl (n, e))) (inr (k, inr (j, d))) = absurd (j n)
    by (inr (l, inr (n, e))) (inr (k, inl (j, d))) = absurd (n j)
    by (inr (l, inr (n, inl (i, e)))) (inr (k, inr (j, inl (h, d)))) = both 17 e d
    by (inr (l, inr (n, inl (i, e)))) (inr (k, inr (j, inr (h, d)))) = absurd (h i)
    by (inr (l, inr (n, inr (i, e)))) (inr (k, inr (j, inl (h, d)))) = absurd (i h)
    by (inr (l, inr (n, inr (i, p)))) (inr (k, inr (j, inr (h, q)))) =
        let d : p.display ≡ q.display = one_display lim store x row y a b p q in
        let t : p.tables ≡ q.tables = one_tables lim store p.tables q.tables p.holds q.holds in (
          ap (λ (z : AfterRow). z.number) p.after ∙ shown_number lim p.tables x row p.display ∙ sym (ap (λ (z : AfterRow). z.number) q.after ∙ shown_number lim q.tables y row q.display),
          ap (λ (z : AfterRow). z.part) p.after ∙ ap₂ (λ u z. (shows lim u x row z).part) t d ∙ part_of q.tables q.display ∙ sym (ap (λ (z : AfterRow). z.part) q.after),
          shown_bytes lim store row x a p ∙ ap (λ z. unit_bytes (units z)) d ∙ sym (shown_bytes lim store row y b q),
        )

-- EQUAL ROWS: the same of the parts that two calls gave
pub equal_rows : (lim : Limits) (row : Row) (s u x y r q : Bor (List ℕ)) → s.now ≡ u.now → 36 ≤ length x.now → 36 ≤ length y.now → PartGiven lim s x row r → PartGiven lim u y row q → r.now ≡ q.now
equal_rows lim row s u x y r q e big large g h =
    let k = subst (λ (l : List ℕ). Answers (showing lim l y.now row) h.after) (sym e) h.allowed in
    g.bytes ∙ (equal_stores lim s.now x.now y.now row g.after h.after big large g.allowed k).2 ∙ ap (λ l. bytes_of h.after.part l h.after.scratch) e ∙ sym h.bytes

-- ---- kinds

-- what stands in a row of a table is an entry of that table
pub from_entry : {A B : Type 0} (g : A → B) (o : Option A) {c : B} → of g o ≡ some c → (a : A) × (o ≡ some a) × (c ≡ g a)
from_entry g none {c} e = absurd (option_none_ne_some c e)
from_entry g (some a) {c} e = (a, refl, sym (option_some_injective (g a) c e))

-- and in a row of groups it is one that is not in the background
pub from_group : (o : Option GroupMember) {c : Caption} → and_then o group_row ≡ some c → (g : GroupMember) × (o ≡ some g) × (g.flags.attribute ≢ 1) × (c ≡ group g.text g.address)
from_group none {c} e = absurd (option_none_ne_some c e)
from_group (some g) {c} e = go (eqb g.flags.attribute 1) refl e
  where
    go : (b : Bool) → eqb g.flags.attribute 1 ≡ b → cond b none (some (group g.text g.address)) ≡ some c
        → (x : GroupMember) × (some g ≡ some x) × (x.flags.attribute ≢ 1) × (c ≡ group x.text x.address)
    go true h k = absurd (option_none_ne_some c k)
    go false h k = (g, refl, eqb-false g.flags.attribute 1 h, sym (option_some_injective (group g.text g.address) c k))

-- a number is shown only where the text is empty
pub number_of_empty : (Number : Text → Type 0) (us ns : Text) → text_or us Number (written ns) → (us ≡ []) × Number ns
number_of_empty Number [] ns (vs, p, e) = (refl, subst Number (sym (ap units e)) p)
number_of_empty Number (u ∷ us) ns e = absurd (not_written (sym e))

-- a row of groups shows the number of its group's address, by the group plan
group_written : (o : Option GroupMember) (c : Caption) (us : Text) → and_then o group_row ≡ some c → Displays c (written us) → (g : GroupMember) × (o ≡ some g) × (g.text ≡ []) × GroupText g.address us
group_written o c us e s =
    let (g, is, shown, d) = from_group o e in
    let (empty, p) = number_of_empty (GroupText g.address) g.text us (subst (λ (x : Caption). Displays x (written us)) d s) in
    (g, is, empty, p)

-- and a row of individuals that of its individual's, by the individual plan
individual_written : (o : Option IndividualMember) (c : Caption) (us : Text) → of individual_row o ≡ some c → Displays c (written us)
    → (g : IndividualMember) × (o ≡ some g) × (g.text ≡ []) × IndividualText g.address us
individual_written o c us e s =
    let (g, is, d) = from_entry individual_row o e in
    let (empty, p) = number_of_empty (IndividualText g.address) g.text us (subst (λ (x : Caption). Displays x (written us)) d s) in
    (g, is, empty, p)

-- GROUP ROW: a group row shows the number of that slot's group address, by the group plan
pub group_number : (t : Tables) (n : ℕ) (c : Caption) (us : Text) → caption t (Group n) ≡ some c → Displays c (written us)
    → (g : GroupMember) × (get_or t.groups n none ≡ some g) × (g.text ≡ []) × GroupText g.address us
group_number t n = group_written (get_or t.groups n none)

-- INDIVIDUAL ROW: an individual row shows that slot's individual address, by the individual plan
pub individual_number : (t : Tables) (n : ℕ) (c : Caption) (us : Text) → caption t (Individual n) ≡ some c → Displays c (written us)
    → (g : IndividualMember) × (get_or t.individuals n none ≡ some g) × (g.text ≡ []) × IndividualText g.address us
individual_number t n = individual_written (get_or t.individuals n none)

-- CONTACT ROWS: so do the rows of contacts
pub group_contact_number : (t : Tables) (n : ℕ) (c : Caption) (us : Text) → caption t (GroupContact n) ≡ some c → Displays c (written us)
    → (g : GroupMember) × (get_or (map some t.group_contacts) n none ≡ some g) × (g.text ≡ []) × GroupText g.address us
group_contact_number t n = group_written (get_or (map some t.group_contacts) n none)

pub individual_contact_number : (t : Tables) (n : ℕ) (c : Caption) (us : Text) → caption t (IndividualContact n) ≡ some c → Displays c (written us)
    → (g : IndividualMember) × (get_or (map some t.individual_contacts) n none ≡ some g) × (g.text ≡ []) × IndividualText g.address us
individual_contact_number t n = individual_written (get_or (map some t.individual_contacts) n none)

-- ---- numbers as they are read

-- the address 103C28 hex, and the dialled number 32841899
pub hex_read : map ascii (digits 16 6 0x103C28) ≡ 49 ∷ 48 ∷ 51 ∷ 67 ∷ 50 ∷ 56 ∷ []
hex_read = refl

pub dialled_read : map ascii (digits 10 8 32841899) ≡ 51 ∷ 50 ∷ 56 ∷ 52 ∷ 49 ∷ 56 ∷ 57 ∷ 57 ∷ []
dialled_read = refl
