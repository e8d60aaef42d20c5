-- WHAT THE OFFICER PRESSES IS WHAT THE OFFICER SEES: name and address of a row that is shown were sent in one entry of one setting. Assumes nothing.
use Rattle.lists.proofs.Kit.{ℕ, ◌≤◌, ◌≡◌, refl, sym, ap, ◌∙◌, subst, ◌≢◌, ◌⊎◌, inl, inr, Bool, true, false, List, [], map, Option, none, some, option_some_injective, option_none_ne_some, arith, eqb, eqb-true, eqb-false, length, get_or}
use denote.Ref.{Bor}
use Rattle.lists.specs.Ladder.{Answers}
use Rattle.slots.specs.Slots.{written_over}
use Rattle.writing.specs.Settings.{Number, Setting}
use Rattle.tables.specs.declared.limits.Limits.{Limits}
use Rattle.tables.specs.declared.members.Members.TheVariants.{OfGroups, OfIndividuals}
use Rattle.tables.specs.Apply.{and_then}
use Rattle.tables.specs.Store.{StoreOf, Holds}
use Rattle.tables.specs.Tables.{Tables, fresh}
use Rattle.screen.specs.declared.rows.Row.{Row}
use Rattle.screen.specs.declared.rows.Row.TheVariants.{Line, QuickText, StatusText, Group, Individual, GroupContact, IndividualContact, LineSlot, NoTable}
use Rattle.screen.specs.Rows.{Caption, line_row, individual_row, group_row, caption, of}
use Rattle.screen.specs.Screen.{AfterRow, RowShown, bytes_of, RowBytes, showing, numbering, PartGiven}
use Rattle.screen.proofs.AnswerLaws.{one_tables}
use Rattle.screen.proofs.Theorems.{from_entry, whole_text, refused_untouched, alike}
use Rattle.values.specs.declared.answers.Target.{Target}
use Rattle.values.specs.Digits.{number_at}
use Rattle.values.specs.Values.{Asked, asking, given, entry_at, entering, line_target, group_target, individual_target}
use Rattle.laws_screen.specs.Reached.{Reached, InOrder, all_of}
use Rattle.laws_screen.proofs.Callers.{line_held}
use Rattle.laws_screen.proofs.Contacts.{contact_held}
use Rattle.laws_screen.proofs.Joins.{reached_tables, group_shows, group_held, individual_held, line_slot_held}
use Rattle.laws_screen.proofs.Reaching.{reached_holds}
use Rattle.laws_values.specs.Called.{OneCalled, group_caption, Dials, Called}
use Rattle.laws_values.specs.Sent.{GroupSent, IndividualSent, LineSlotSent, GroupContactSent, IndividualContactSent, LineSent}
use Rattle.laws_values.proofs.Entries.{group_together, individual_together, line_slot_together, group_contact_together, individual_contact_together, line_together}

-- ---- what the calls answer of a store of these tables

-- the number 0 is that of a row that is shown
shown_0 : (lim : Limits) (store scratch : List ℕ) (row : Row) (a : AfterRow) → Answers (showing lim store scratch row) a → a.number ≡ 0
    → (36 ≤ length scratch) × ((StoreOf lim store → ⊥) → ⊥) × RowShown lim store scratch row a
shown_0 lim store scratch row a (inl (_, e)) n = absurd (omega (arith, ap (λ (y : AfterRow). y.number) e))
shown_0 lim store scratch row a (inr (_, inl (_, e))) n = absurd (omega (arith, ap (λ (y : AfterRow). y.number) e))
shown_0 lim store scratch row a (inr (_, inr (_, inl (_, e)))) n = absurd (omega (arith, ap (λ (y : AfterRow). y.number) e))
shown_0 lim store scratch row a (inr (l, inr (s, inr (_, p)))) n = (omega (arith, l), s, p)

module _ (lim : Limits) (store : List ℕ) (t : Tables) (s : StoreOf lim store) (h : Holds lim t store) where
  -- it stands in the tables, and its bytes show what stands there
  seen : (scratch : List ℕ) (row : Row) (a : AfterRow) → Answers (showing lim store scratch row) a → a.number ≡ 0
      → (c : Caption) × (caption t row ≡ some c) × RowBytes (some c) (bytes_of a.part store a.scratch)
  seen scratch row a x n =
      let (big, _, p) = shown_0 lim store scratch row a x n in
      let there : caption t row ≡ some p.row_is = ap (λ u. caption u row) (one_tables lim store t p.tables h p.holds) ∙ p.there in
      (p.row_is, there, subst (λ (o : Option Caption). RowBytes o (bytes_of a.part store a.scratch)) there (whole_text lim store row scratch a x t s h big))

  -- a value that is given is what they have there
  asked : {A : Type 0} (what : Tables → Option A) (x : A) → Answers (asking lim what store) (given x) → what t ≡ some x
  asked what x (inl (never, e)) = absurd (never s)
  asked {A} what x (inr (_, inl (_, e))) = absurd (omega (arith, ap (λ (y : Asked A). y.number) e))
  asked {A} what x (inr (_, inr (_, (u, k, v, is, e)))) = ap what (one_tables lim store t u h k) ∙ is ∙ sym (ap (λ (y : Asked A). y.value) e)

  -- and the digits that are written are those that they have there
  dials : (row : Row) (ds : Number) → number_at t row ≡ some ds → Dials lim store row ds
  dials row ds there buffer d big (inl (small, e)) = absurd (omega arith)
  dials row ds there buffer d big (inr (_, inl (never, e))) = absurd (never s)
  dials row ds there buffer d big (inr (_, inr (_, inl (none_there, e)))) = absurd (option_none_ne_some ds (sym (none_there t h) ∙ there))
  dials row ds there buffer d big (inr (_, inr (_, inr (_, (u, k, vs, is, e))))) =
      let same : vs ≡ ds = option_some_injective vs ds (sym is ∙ ap (λ v. number_at v row) (one_tables lim store u t k h) ∙ there) in
      e ∙ ap (λ (ns : Number). record { number = 0; count = length ns; buffer = written_over ns buffer }) same

-- ---- one entry

-- what is looked up twice in one place, for its target and for its row, is one entry
one_called : {A : Type 0} (o : Option A) (target : A → Target) (row : A → Caption) (look : Option A → Option Caption) → ((a : A) (c : Caption) → look (some a) ≡ some c → c ≡ row a)
    → (Sent : A → Type 0) → ((a : A) → o ≡ some a → Sent a)
    → (x : Target) (c : Caption) (shown : List ℕ) → of target o ≡ some x → look o ≡ some c → RowBytes (some c) shown → OneCalled Sent target row x shown
one_called o target row look reads Sent sent x c shown e there b =
    let (a, is, called) = from_entry target o e in
    record { entry = a; sent = sent a is; called = called; shows = subst (λ (d : Caption). RowBytes (some d) shown) (reads a c (sym (ap look is) ∙ there)) b }

-- of a table whose every entry has a row
plain : {A : Type 0} (row : A → Caption) (a : A) (c : Caption) → some (row a) ≡ some c → c ≡ row a
plain row a c e = sym (option_some_injective (row a) c e)

module _ (lim : Limits) (log : List (List Setting)) (store : List ℕ) (r : Reached lim log store) (t : Tables) (o : InOrder lim fresh log t) where
  -- the digits behind a row of these tables
  dialled : (row : Row) (ds : Number) → number_at t row ≡ some ds → Dials lim store row ds
  dialled = let (s, h) = reached_tables lim log store r t o in dials lim store t s h

  -- by the row's kind
  row_called : (row : Row) (x : Target) (c : Caption) (shown : List ℕ) → entry_at t row ≡ some x → caption t row ≡ some c → RowBytes (some c) shown → Called lim store (all_of log) row x shown
  row_called (Line n) =
      one_called (get_or (map some t.lines) n none) line_target line_row (of line_row) (plain line_row) (λ m. LineSent (all_of log) m × Dials lim store (Line n) m.number)
      (λ m is. (line_together (all_of log) m (line_held lim log store r t o n m is), dialled (Line n) m.number (ap (of (λ l. l.number)) is)))
  row_called (QuickText n) = λ x c shown e. absurd (option_none_ne_some x e)
  row_called (StatusText n) = λ x c shown e. absurd (option_none_ne_some x e)
  row_called (Group i) =
      one_called (get_or t.groups i none) group_target group_caption (λ p. and_then p group_row) group_shows (GroupSent (all_of log) i)
      (λ g is. group_together (all_of log) i g (group_held lim log store r t o i g is))
  row_called (Individual i) =
      one_called (get_or t.individuals i none) individual_target individual_row (of individual_row) (plain individual_row) (IndividualSent (all_of log) i)
      (λ g is. individual_together (all_of log) i g (individual_held lim log store r t o i g is))
  row_called (GroupContact n) =
      one_called (get_or (map some t.group_contacts) n none) group_target group_caption (λ p. and_then p group_row) group_shows (GroupContactSent (all_of log))
      (λ g is. group_contact_together (all_of log) g (contact_held lim log store r t o OfGroups n g is))
  row_called (IndividualContact n) =
      one_called (get_or (map some t.individual_contacts) n none) individual_target individual_row (of individual_row) (plain individual_row) (IndividualContactSent (all_of log))
      (λ g is. individual_contact_together (all_of log) g (contact_held lim log store r t o OfIndividuals n g is))
  row_called (LineSlot i) =
      one_called (get_or t.line_slots i none) line_target line_row (of line_row) (plain line_row) (λ m. LineSlotSent (all_of log) i m × Dials lim store (LineSlot i) m.number)
      (λ m is. (line_slot_together (all_of log) i m (line_slot_held lim log store r t o i m is), dialled (LineSlot i) m.number (ap (of (λ l. l.number)) is)))
  row_called NoTable = λ x c shown e. absurd (option_none_ne_some x e)

-- ---- after any messages

-- PLACE CALLED: of the call that answers where the row's part is, with the number 0
pub place_called : (lim : Limits) (log : List (List Setting)) (store scratch : List ℕ) (row : Row) (a : AfterRow) (x : Target)
    → Reached lim log store → Answers (showing lim store scratch row) a → a.number ≡ 0 → Answers (entering lim row store) (given x)
    → Called lim store (all_of log) row x (bytes_of a.part store a.scratch)
place_called lim log store scratch row a x r y n e =
    let (t, _, _, order) = reached_holds lim log store r in
    let (s, h) = reached_tables lim log store r t order in
    let (c, there, shown) = seen lim store t s h scratch row a y n in
    row_called lim log store r t order row x c (bytes_of a.part store a.scratch) (asked lim store t s h (λ u. entry_at u row) x e) there shown

-- a part that is not empty is no refusal's
full_shown : (lim : Limits) (store scratch : Bor (List ℕ)) (row : Row) (r : Bor (List ℕ)) (p : PartGiven lim store scratch row r) → r.now ≢ [] → p.after.number ≡ 0
full_shown lim store scratch row r p full = by (eqb p.after.number 0) refl
  where
    by : (b : Bool) → eqb p.after.number 0 ≡ b → p.after.number ≡ 0
    by true k = eqb-true p.after.number 0 k
    by false k =
        let (part, _) = refused_untouched lim store.now row scratch.now p.after p.allowed (eqb-false p.after.number 0 k) in
        absurd (full (p.bytes ∙ ap (λ q. bytes_of q store.now p.after.scratch) part))

part_called : (lim : Limits) (log : List (List Setting)) (store scratch : Bor (List ℕ)) (row : Row) (r : Bor (List ℕ)) (x : Target) → Reached lim log store.now
    → (p : PartGiven lim store scratch row r) → p.after.number ≡ 0 → Answers (entering lim row store.now) (given x) → Called lim store.now (all_of log) row x r.now
part_called lim log store scratch row r x reached p n e =
    subst (Called lim store.now (all_of log) row x) (sym p.bytes) (place_called lim log store.now scratch.now row p.after x reached p.allowed n e)

-- SHOWN CALLED: after any messages from a start, where the screen shows a row, so that the part that it gives is not empty, and what stands behind that row is x: the name shown
-- and the address called were sent in ONE entry of ONE setting, the last that was sent for that slot or key; of lines the name and the digits
pub shown_called : (lim : Limits) (log : List (List Setting)) (store scratch : Bor (List ℕ)) (row : Row) (r : Bor (List ℕ)) (x : Target) → Reached lim log store.now
    → PartGiven lim store scratch row r → r.now ≢ [] → Answers (entering lim row store.now) (given x) → Called lim store.now (all_of log) row x r.now
shown_called lim log store scratch row r x reached p full = part_called lim log store scratch row r x reached p (full_shown lim store scratch row r p full)

-- NUMBER CALLED: the same where the call of the row's number says 0
pub number_called : (lim : Limits) (log : List (List Setting)) (store scratch : Bor (List ℕ)) (row : Row) (r : Bor (List ℕ)) (x : Target) → Reached lim log store.now
    → PartGiven lim store scratch row r → Answers (numbering lim store.now scratch.now row) 0 → Answers (entering lim row store.now) (given x) → Called lim store.now (all_of log) row x r.now
number_called lim log store scratch row r x reached p n =
    part_called lim log store scratch row r x reached p (alike lim store.now row scratch.now p.after p.allowed 0 n)

-- ---- that there is something to call

-- nothing is looked up in one place for its target, and something for its row: never
both_there : {A : Type 0} (o : Option A) (target : A → Target) (look : Option A → Option Caption) (c : Caption) → look none ≡ none → of target o ≡ none → look o ≡ some c → ⊥
both_there none target look c empty e there = option_none_ne_some c (sym empty ∙ there)
both_there (some a) target look c empty e there = option_none_ne_some (target a) (sym e)

text_row : (t : Tables) (row : Row) (c : Caption) → entry_at t row ≡ none → caption t row ≡ some c → (n : ℕ) × ((row ≡ QuickText n) ⊎ (row ≡ StatusText n))
text_row t (Line n) c e there = absurd (both_there (get_or (map some t.lines) n none) line_target (of line_row) c refl e there)
text_row t (QuickText n) c e there = (n, inl refl)
text_row t (StatusText n) c e there = (n, inr refl)
text_row t (Group i) c e there = absurd (both_there (get_or t.groups i none) group_target (λ p. and_then p group_row) c refl e there)
text_row t (Individual i) c e there = absurd (both_there (get_or t.individuals i none) individual_target (of individual_row) c refl e there)
text_row t (GroupContact n) c e there = absurd (both_there (get_or (map some t.group_contacts) n none) group_target (λ p. and_then p group_row) c refl e there)
text_row t (IndividualContact n) c e there = absurd (both_there (get_or (map some t.individual_contacts) n none) individual_target (of individual_row) c refl e there)
text_row t (LineSlot i) c e there = absurd (both_there (get_or t.line_slots i none) line_target (of line_row) c refl e there)
text_row t NoTable c e there = absurd (option_none_ne_some c there)

-- SHOWN ANSWERED: behind a row that is shown something stands, unless it is a quick text's or a status text's
pub shown_answered : (lim : Limits) (store scratch : Bor (List ℕ)) (row : Row) (r : Bor (List ℕ)) (a : Asked Target) → PartGiven lim store scratch row r → r.now ≢ []
    → Answers (entering lim row store.now) a → ((x : Target) × (a ≡ given x)) ⊎ ((n : ℕ) × ((row ≡ QuickText n) ⊎ (row ≡ StatusText n)))
shown_answered lim store scratch row r a p full = by (shown_0 lim store.now scratch.now row p.after p.allowed (full_shown lim store scratch row r p full))
  where
    by : (36 ≤ length scratch.now) × ((StoreOf lim store.now → ⊥) → ⊥) × RowShown lim store.now scratch.now row p.after → Answers (entering lim row store.now) a
        → ((x : Target) × (a ≡ given x)) ⊎ ((n : ℕ) × ((row ≡ QuickText n) ⊎ (row ≡ StatusText n)))
    by (_, s, q) (inl (never, _)) = absurd (s never)
    by (_, s, q) (inr (_, inl (none_there, _))) = inr (text_row q.tables row q.row_is (none_there q.tables q.holds) q.there)
    by (_, s, q) (inr (_, inr (_, (_, _, x, _, e)))) = inl (x, e)
