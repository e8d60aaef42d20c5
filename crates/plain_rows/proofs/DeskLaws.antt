-- From what was found in a row to the answers of the calls, and the part of the scratch. Assumes nothing.
use Rattle.lists.proofs.Kit.{ℕ, ◌*◌, ◌≤◌, ◌≡◌, refl, sym, ap, ap₂, ◌∙◌, subst, inl, inr, List, [], ◌∷◌, map, some, arith, length, take, drop, length-append}
use denote.Enum.Declared.{tag_of}
use denote.Ref.{Bor}
use types.Run.{OneOf, miss}
use Rattle.lists.specs.Ladder.{Answers}
use Rattle.std.specs.Prelude.{Option, Some, None}
use Rattle.plan.specs.declared.numbers.DialledNumber.{DialledNumber}
use Rattle.plan.specs.Answers.{Answer, Answered, has, none, Back, answer, dialled}
use Rattle.writing.specs.Settings.{Text}
use Rattle.read_fields.specs.declared.texts.TextPlace.{TextPlace}
use Rattle.tables.specs.Tables.{Tables}
use Rattle.plain_log.specs.Area.{AreaOf}
use Rattle.screen.specs.declared.answers.Place.{Place}
use Rattle.screen.specs.declared.answers.Place.TheVariants.{Store, Scratch, Refused as NoPlace}
use Rattle.screen.specs.declared.rows.Refusal.{Refusal}
use Rattle.screen.specs.declared.rows.Refusal.TheVariants.{ScratchSize, NotAStore, Absent}
use Rattle.screen.specs.declared.rows.Row.{Row}
use Rattle.screen.specs.Rows.{Caption, line, caption, text_of, ascii, AddressText, dialled as by_plan, outside, Display, Displays, stored, written, units, unit_bytes}
use Rattle.screen.specs.Screen.{AfterRow, refusal, refused, leaves}
use Rattle.screen.specs.Steps.{Written, dialled_digits}
use Rattle.screen.proofs.NumberLaws.{unit_length}
use Rattle.screen.specs.contracts.answers.Place.{the_type as place_type}
use Rattle.plain_rows.specs.declared.names.Name.{Name}
use Rattle.plain_rows.specs.declared.names.Name.TheVariants.{Text as TextAt, Line as LineNumber}
use Rattle.std.specs.declared.result.Result.TheVariants.{Ok, Err}
use Rattle.plain_rows.specs.Naming.{Naming, Named, plain_naming, LineWritten, TextWritten, ScratchPicked}
use Rattle.plain_rows.specs.PlainRows.{PlainShown, plain_showing, plain_numbering, part_bytes, PlainPart, bytes_in, PlainPlaced}
use Rattle.plain_rows.proofs.AreaTables.{area_tables}

-- the plan's answer is the number that is shown
address_text : (Plan : ℕ → ℕ → Type 0) (d : Option DialledNumber) (x : ℕ) → Answered (Back Plan) 21 x (answer (dialled d)) → AddressText Plan x (map ascii (dialled_digits d x))
address_text Plan (Some n) x (has y p e) = by_plan n.0 (subst (λ (i : ℕ). Plan i x) (sym (ap (λ (a : Answer). a.value) e)) p) refl
address_text Plan (Some n) x (none k e) = absurd (omega (arith, ap (λ (a : Answer). a.number) e))
address_text Plan None x (has y p e) = absurd (omega (arith, ap (λ (a : Answer). a.number) e))
address_text Plan None x (none k e) = outside k refl

-- ---- the tests

-- the number of what was found
abbrev name_number : Naming → ℕ
name_number (Err why) = refusal why
name_number (Ok x) = 0

-- a name that is not a refusal
abbrev pub Kept : Naming → Type 0
Kept (Err why) = ⊥
Kept (Ok x) = Unit {0}

-- a name is no refusal
kept_name : (x : Naming) (n : Name) → x ≡ Ok n → {why : Refusal} → x ≡ Err why → ⊥
kept_name x n k e = subst Kept (sym k ∙ e) tt

module _ (s scratch : List ℕ) (row : Row) where
  -- a row that is refused
  refused_as : (why : Refusal) → Answers (plain_naming s (length scratch) row) (Err why) → Answers (plain_showing s scratch row) (refused (refusal why) scratch)
  refused_as why (inl (h, e)) = inl (h, ap (λ (x : Naming). refused (name_number x) scratch) e)
  refused_as why (inr (h, inl (k, e))) = inr (h, inl (k, ap (λ (x : Naming). refused (name_number x) scratch) e))
  refused_as why (inr (h, inr (k, inl (l, e)))) = inr (h, inr (k, inl (l, ap (λ (x : Naming). refused (name_number x) scratch) e)))
  refused_as ScratchSize (inr (h, inr (k, inr (l, (log, t, area, y))))) = absurd y
  refused_as NotAStore (inr (h, inr (k, inr (l, (log, t, area, y))))) = absurd y
  refused_as Absent (inr (h, inr (k, inr (l, (log, t, area, y))))) =
      absurd (l (λ other u is. ap (λ (v : Tables). caption v row) (area_tables s other log u t is area) ∙ y))

  -- the number alone
  number_as : (why : Refusal) → Answers (plain_showing s scratch row) (refused (refusal why) scratch) → Answers (plain_numbering s scratch row) (refusal why)
  number_as why (inl (l, e)) = inl (l, ap (λ (x : AfterRow). x.number) e)
  number_as why (inr (l, inl (n, e))) = inr (l, inl (n, ap (λ (x : AfterRow). x.number) e))
  number_as why (inr (l, inr (n, inl (k, e)))) = inr (l, inr (n, inl (k, ap (λ (x : AfterRow). x.number) e)))
  number_as why (inr (l, inr (n, inr (k, p)))) = inr (l, inr (n, inr (k, ap (λ (x : AfterRow). x.number) p.after)))

  -- a row that is refused, and one that is not
  pub number_refused : (x : Naming) (why : Refusal) → x ≡ Err why → Answers (plain_naming s (length scratch) row) x → Answers (plain_numbering s scratch row) (refusal why)
  number_refused x why e a = number_as why (refused_as why (subst (Answers (plain_naming s (length scratch) row)) e a))

  pub number_shown : (x : Naming) (n : Name) → x ≡ Ok n → Answers (plain_naming s (length scratch) row) x → Answers (plain_numbering s scratch row) 0
  number_shown x n k (inl (h, e)) = absurd (kept_name x n k e)
  number_shown x n k (inr (h, inl (i, e))) = absurd (kept_name x n k e)
  number_shown x n k (inr (h, inr (i, inl (j, e)))) = absurd (kept_name x n k e)
  number_shown x n k (inr (h, inr (i, inr (j, e)))) = inr (h, inr (i, inr (j, refl)))

  pub place_refused : (x : Naming) (why : Refusal) → x ≡ Err why → Answers (plain_naming s (length scratch) row) x → PlainPlaced s scratch scratch row (NoPlace why)
  place_refused x why e a = record { allowed = refused_as why (subst (Answers (plain_naming s (length scratch) row)) e a); fits = omega arith }

  -- ---- where what was found is written

  -- what was found in a row that is not refused
  pub record InRow (x : Naming) : Type 0 where
    pub big : 64 ≤ length scratch
    pub log : List (List ℕ)
    pub tables : Tables
    pub area : AreaOf s log tables
    pub is : Named tables s row x
    pub answers : (a : AfterRow) → PlainShown s scratch row a → Answers (plain_showing s scratch row) a

  in_row : (x : Naming) → Kept x → Answers (plain_naming s (length scratch) row) x → InRow x
  in_row x n (inl (h, e)) = absurd (subst Kept e n)
  in_row x n (inr (h, inl (k, e))) = absurd (subst Kept e n)
  in_row x n (inr (h, inr (k, inl (l, e)))) = absurd (subst Kept e n)
  in_row x n (inr (h, inr (k, inr (l, (log, t, area, y))))) =
      record { big = omega (arith, h); log = log; tables = t; area = area; is = y; answers = λ a z. inr (h, inr (k, inr (l, z))) }

  -- by its case
  pub row_found : {x : Naming} (case : Naming) → Kept case → x ≡ case → Answers (plain_naming s (length scratch) row) x → InRow case
  row_found case k e a = in_row case k (subst (Answers (plain_naming s (length scratch) row)) e a)

  -- units that are shown and were written
  written_placed : {x : Naming} (i : InRow x) (c : Caption) (d : Display) {after : List ℕ} {r : ℕ} → caption i.tables row ≡ some c → Displays c d → Written (units d) scratch after r → PlainPlaced s scratch after row (Scratch r)
  written_placed i c d {after} {r} e shown w = record {
    allowed = i.answers (leaves (Scratch r) after) (record {
      log = i.log;
      tables = i.tables;
      area_is = i.area;
      row_is = c;
      there = e;
      display = d;
      shown = shown;
      after = ap₂ (λ (k : ℕ) (l : List ℕ). leaves (Scratch k) l) w.many w.bytes;
    });
    fits = omega (arith, w.many, ap length w.bytes, length-append (unit_bytes (units d)) (drop (2 * length (units d)) scratch), unit_length (units d));
  }

  -- a text
  pub text_placed : {p : TextPlace} {after : List ℕ} {r : ℕ} → InRow (Ok (TextAt p)) → TextWritten s p scratch after r → PlainPlaced s scratch after row (Scratch r)
  text_placed x w = let (c, e, shown, seen, short) = x.is in written_placed x c (stored (text_of c)) e shown (w (text_of c) seen short x.big)

  -- a line's digits
  pub line_placed : {n : ℕ} {after : List ℕ} {r : ℕ} → InRow (Ok (LineNumber n)) → LineWritten n scratch after r → PlainPlaced s scratch after row (Scratch r)
  line_placed x w =
      let (ds, e, ok, n) = x.is in
      written_placed x (line [] ds) (written (map ascii ds)) e (map ascii ds, refl, refl) (w ds ok n (omega (arith, x.big)))

  -- a group's or an individual's number, by its plan
  pub address_placed : (Plan : ℕ → ℕ → Type 0) {x : Naming} (i : InRow x) (c : Caption) (d : Option DialledNumber) (n : ℕ) {after : List ℕ} {r : ℕ} → caption i.tables row ≡ some c
      → ((ns : Text) → AddressText Plan n ns → Displays c (written ns)) → Answered (Back Plan) 21 n (answer (dialled d)) → (36 ≤ length scratch → Written (map ascii (dialled_digits d n)) scratch after r)
      → PlainPlaced s scratch after row (Scratch r)
  address_placed Plan i c d n e shown p w =
      written_placed i c (written (map ascii (dialled_digits d n))) e (shown (map ascii (dialled_digits d n)) (address_text Plan d n p)) (w (omega (arith, i.big)))

-- ---- the part

-- a place that is not of the scratch has none of its bytes
pub no_bytes : (place : Place) → OneOf (0 ∷ 2 ∷ []) (tag_of place_type place) → bytes_in place ≡ 0
no_bytes (Store at n) k = refl
no_bytes (Scratch n) k = absurd (miss (0 ∷ 2 ∷ []) 1 tt k)
no_bytes (NoPlace why) k = refl

-- as many bytes as the place's part, of the scratch that was left
part_as : (place : Place) (t : List ℕ) → bytes_in place ≡ part_bytes (leaves place t).part
part_as (Store at n) t = refl
part_as (Scratch n) t = refl
part_as (NoPlace why) t = refl

scratch_as : (place : Place) (t : List ℕ) → t ≡ (leaves place t).scratch
scratch_as (Store at n) t = refl
scratch_as (Scratch n) t = refl
scratch_as (NoPlace why) t = refl

-- the part of a place is the part of the answer
pub part_given : (s : List ℕ) (scratch after : Bor (List ℕ)) (row : Row) (place : Place) (r : Bor (List ℕ)) → after.ref_ptr ≡ scratch.ref_ptr → PlainPlaced s scratch.now after.now row place → ScratchPicked after place r
    → PlainPart s scratch row r
part_given s scratch after row place r e p q = record {
  after = leaves place after.now;
  allowed = p.allowed;
  place = q.ptr ∙ e;
  bytes = q.bytes p.fits ∙ ap₂ (λ (n : ℕ) (l : List ℕ). take n l) (part_as place after.now) (scratch_as place after.now);
}
