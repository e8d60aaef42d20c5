-- From what was found in a row to the answer of the calls. Assumes nothing.
use Rattle.lists.proofs.Kit.{ℕ, ◌+◌, ◌*◌, ◌-◌, ◌≤◌, ◌≡◌, refl, sym, ap, ap₂, ◌∙◌, subst, inl, inr, List, [], map, some, arith, length, take, drop, length-append}
use Rattle.lists.specs.Ladder.{Answers}
use Rattle.std.specs.Prelude.{Option, Some, None}
use Rattle.plan.specs.declared.numbers.DialledNumber.{DialledNumber}
use Rattle.plan.specs.Answers.{Answer, Answered, has, none, Back, answer, dialled}
use Rattle.slots.specs.Slots.{EntryOf}
use Rattle.writing.specs.Ranges.{InNumber}
use Rattle.writing.specs.Settings.{Text}
use Rattle.tables.specs.declared.limits.Limits.{Limits}
use Rattle.tables.specs.Layout.{digit_bytes}
use Rattle.tables.specs.Store.{Holds}
use Rattle.tables.specs.Tables.{Tables}
use Rattle.shared_texts.proofs.Forms.{layout_one}
use Rattle.screen.specs.declared.rows.Refusal.{Refusal}
use Rattle.screen.specs.declared.rows.Refusal.TheVariants.{ScratchSize, NotAStore, Absent}
use Rattle.screen.specs.declared.names.Name.{Name}
use Rattle.screen.specs.declared.names.Name.TheVariants.{Refused, Text as TextAt, Digits, Group as GroupNumber, Individual as IndividualNumber}
use Rattle.screen.specs.declared.rows.Row.{Row}
use Rattle.screen.specs.Naming.{Named, naming}
use Rattle.screen.specs.Rows.{Caption, line, caption, text_of, ascii, AddressText, dialled as by_plan, outside, Display, Displays, stored, written, unit_bytes}
use Rattle.screen.specs.declared.answers.Place.TheVariants.{Store, Scratch}
use Rattle.screen.specs.Steps.{Written, DigitsWritten, dialled_digits, Placed}
use Rattle.screen.specs.Screen.{AfterRow, refusal, refused, leaves, shows, RowShown, showing, numbering}
use Rattle.screen.proofs.NumberLaws.{unit_length}

-- what is shown has the number 0
pub shown_number : (lim : Limits) (t : Tables) (scratch : List ℕ) (row : Row) (d : Display) → (shows lim t scratch row d).number ≡ 0
shown_number lim t scratch row (stored us) = refl
shown_number lim t scratch row (written us) = refl

-- ---- the number of an address

-- the plan's answer is the number that is shown
address_text : (Plan : ℕ → ℕ → Type 0) (d : Option DialledNumber) (x : ℕ) → Answered (Back Plan) 21 x (answer (dialled d)) → AddressText Plan x (map ascii (dialled_digits d x))
address_text Plan (Some n) x (has y p e) = by_plan n.0 (subst (λ (i : ℕ). Plan i x) (sym (ap (λ (a : Answer). a.value) e)) p) refl
address_text Plan (Some n) x (none k e) = absurd (omega (arith, ap (λ (a : Answer). a.number) e))
address_text Plan None x (has y p e) = absurd (omega (arith, ap (λ (a : Answer). a.number) e))
address_text Plan None x (none k e) = outside k refl

-- ---- from what was found to the answer

-- bytes are the store of one set of tables
pub one_tables : (lim : Limits) (s : List ℕ) (t u : Tables) → Holds lim t s → Holds lim u s → t ≡ u
one_tables lim s t u h k = layout_one lim t u h.0 k.0 (sym h.1 ∙ k.1)

-- the number of what was found
abbrev name_number : Name → ℕ
name_number (Refused why) = refusal why
name_number (TextAt at n) = 0
name_number (Digits at) = 0
name_number (GroupNumber a) = 0
name_number (IndividualNumber a) = 0

-- a name that is not a refusal
abbrev pub Kept : Name → Type 0
Kept (Refused why) = ⊥
Kept (TextAt at n) = Unit {0}
Kept (Digits at) = Unit {0}
Kept (GroupNumber a) = Unit {0}
Kept (IndividualNumber a) = Unit {0}

module _ (lim : Limits) (s scratch : List ℕ) (row : Row) where
  -- a row that is refused
  pub refused_as : (why : Refusal) → Answers (naming lim s (length scratch) row) (Refused why) → Answers (showing lim s scratch row) (refused (refusal why) scratch)
  refused_as why (inl (h, e)) = inl (h, ap (λ x. refused (name_number x) scratch) e)
  refused_as why (inr (h, inl (k, e))) = inr (h, inl (k, ap (λ x. refused (name_number x) scratch) e))
  refused_as why (inr (h, inr (k, inl (l, e)))) = inr (h, inr (k, inl (l, ap (λ x. refused (name_number x) scratch) e)))
  refused_as ScratchSize (inr (h, inr (k, inr (l, (t, holds, y))))) = absurd y
  refused_as NotAStore (inr (h, inr (k, inr (l, (t, holds, y))))) = absurd y
  refused_as Absent (inr (h, inr (k, inr (l, (t, holds, y))))) =
      absurd (l (λ u is. ap (λ v. caption v row) (one_tables lim s u t is holds) ∙ y))

  -- what was found in a row that is not refused
  pub record InRow (x : Name) : Type 0 where
    pub big : 36 ≤ length scratch
    pub tables : Tables
    pub holds : Holds lim tables s
    pub is : Named lim tables s row x
    pub answers : (a : AfterRow) → RowShown lim s scratch row a → Answers (showing lim s scratch row) a

  pub in_row : (x : Name) → Kept x → Answers (naming lim s (length scratch) row) x → InRow x
  in_row x n (inl (h, e)) = absurd (subst Kept e n)
  in_row x n (inr (h, inl (k, e))) = absurd (subst Kept e n)
  in_row x n (inr (h, inr (k, inl (l, e)))) = absurd (subst Kept e n)
  in_row x n (inr (h, inr (k, inr (l, (t, holds, y))))) =
      record { big = omega (arith, h); tables = t; holds = holds; is = y; answers = λ a z. inr (h, inr (k, inr (l, z))) }

  -- ---- both calls

  -- an answer is a refusal, or what is shown
  pub shown_by : (X : AfterRow → Type 0) → ((why : Refusal) → X (refused (refusal why) scratch))
      → ((a : AfterRow) (p : RowShown lim s scratch row a) → 36 ≤ length scratch → X (shows lim p.tables scratch row p.display))
      → (a : AfterRow) → Answers (showing lim s scratch row) a → X a
  shown_by X refuse there a (inl (l, e)) = subst X (sym e) (refuse ScratchSize)
  shown_by X refuse there a (inr (l, inl (n, e))) = subst X (sym e) (refuse NotAStore)
  shown_by X refuse there a (inr (l, inr (n, inl (k, e)))) = subst X (sym e) (refuse Absent)
  shown_by X refuse there a (inr (l, inr (n, inr (k, p)))) = subst X (sym p.after) (there a p (omega (arith, l)))

  -- they judge alike
  pub number_same : (a : AfterRow) → Answers (showing lim s scratch row) a → Answers (numbering lim s scratch row) a.number
  number_same a (inl (l, e)) = inl (l, ap (λ (x : AfterRow). x.number) e)
  number_same a (inr (l, inl (n, e))) = inr (l, inl (n, ap (λ (x : AfterRow). x.number) e))
  number_same a (inr (l, inr (n, inl (k, e)))) = inr (l, inr (n, inl (k, ap (λ (x : AfterRow). x.number) e)))
  number_same a (inr (l, inr (n, inr (k, p)))) = inr (l, inr (n, inr (k, ap (λ (x : AfterRow). x.number) p.after ∙ shown_number lim p.tables scratch row p.display)))

-- ---- where what was found is placed

-- 18 bytes from a place on
eighteen : (s : List ℕ) (at : ℕ) → take (at + 18 - at) (drop at s) ≡ take 18 (drop at s)
eighteen s at = let e : at + 18 - at ≡ 18 = omega arith in ap (λ n. take n (drop at s)) e

module _ {lim : Limits} {s scratch : List ℕ} {row : Row} where
  -- what was found, by its case
  pub row_found : {x : Name} (case : Name) → Kept case → x ≡ case → Answers (naming lim s (length scratch) row) x → InRow lim s scratch row case
  row_found case k e a = in_row lim s scratch row case k (subst (Answers (naming lim s (length scratch) row)) e a)

  -- a stored text
  pub text_placed : {at n : ℕ} → InRow lim s scratch row (TextAt at n) → Placed lim s scratch scratch row (Store at n)
  text_placed {at} {n} x =
      let (c, there, shown, p, q, fits) = x.is in
      record {
        allowed = x.answers (leaves (Store at n) scratch) (record {
          tables = x.tables;
          holds = x.holds;
          row_is = c;
          there = there;
          display = stored (text_of c);
          shown = shown;
          after = ap₂ (λ i j. leaves (Store i j) scratch) p q;
        });
        fits = fits;
      }

  -- a number that was written
  number_placed : {x : Name} (i : InRow lim s scratch row x) (c : Caption) {us : Text} {after : List ℕ} {r : ℕ} → caption i.tables row ≡ some c → Displays c (written us)
      → Written us scratch after r → Placed lim s scratch after row (Scratch r)
  number_placed i c {us} {after} {r} e shown w = record {
    allowed = i.answers (leaves (Scratch r) after) (record {
      tables = i.tables;
      holds = i.holds;
      row_is = c;
      there = e;
      display = written us;
      shown = shown;
      after = ap₂ (λ k l. leaves (Scratch k) l) w.many w.bytes;
    });
    fits = omega (arith, w.many, ap length w.bytes, length-append (unit_bytes us) (drop (2 * length us) scratch), unit_length us);
  }

  -- a line's digits
  pub digits_kept : {at : ℕ} → InRow lim s scratch row (Digits at) → EntryOf InNumber digit_bytes (take (at + 18 - at) (drop at s))
  digits_kept {at} x = let (ds, e, ok, b, fits) = x.is in record { entry = ds; holds = ok; bytes = eighteen s at ∙ b }

  pub digits_placed : {at : ℕ} {after : List ℕ} {r : ℕ} → InRow lim s scratch row (Digits at) → DigitsWritten (take (at + 18 - at) (drop at s)) scratch after r → Placed lim s scratch after row (Scratch r)
  digits_placed {at} x w =
      let (ds, e, ok, b, fits) = x.is in
      number_placed x (line [] ds) e (map ascii ds, refl, refl) (w ds ok (eighteen s at ∙ b))

  -- a group's or an individual's number, by its plan
  pub address_placed : (Plan : ℕ → ℕ → Type 0) {x : Name} (i : InRow lim s scratch row x) (c : Caption) (d : Option DialledNumber) (n : ℕ) {after : List ℕ} {r : ℕ} → caption i.tables row ≡ some c
      → ((ns : Text) → AddressText Plan n ns → Displays c (written ns)) → Answered (Back Plan) 21 n (answer (dialled d)) → Written (map ascii (dialled_digits d n)) scratch after r → Placed lim s scratch after row (Scratch r)
  address_placed Plan i c d n e shown p w = number_placed i c e (shown (map ascii (dialled_digits d n)) (address_text Plan d n p)) w
