-- Laws of the table of line contacts: a line's slot, and what its loop is told of. Assumes nothing.
use Rattle.std.specs.Prelude.{Option as Maybe, Some, None}
use Rattle.lists.proofs.Kit.{◌≡◌, refl, sym, ap, ◌∙◌, subst, Bool, true, true≢false, List, ◌++◌, ℕ, ◌<◌, arith, mid_of, length, take, drop, replicate, length-take, length-drop}
use Rattle.slots.specs.Slots.{hit, unless}
use Rattle.counted_lists.specs.Counted.{put_keyed, Tried}
use Rattle.counted_lists.proofs.ListLaws.{tried_room}
use Rattle.orders.specs.OrderedLists.{OrderedList, OrderedPut, OrderedDrop}
use Rattle.orders.proofs.ListLaws.{ordered_fresh, ordered_length}
use Rattle.writing.specs.declared.Coding.{Coding}
use Rattle.writing.specs.declared.LineFlags.{LineFlags}
use Rattle.writing.specs.declared.Operation.{Operation}
use Rattle.writing.specs.declared.Operation.TheVariants.{Add, Delete}
use Rattle.writing.specs.Ranges.{text_limits, InContact}
use Rattle.writing.specs.Settings.{Contact}
use Rattle.writing.specs.Writing.{contact}
use Rattle.writing.proofs.Unique.{contact_ends}
use Rattle.writing.proofs.Whole.{contact_whole}
use Rattle.read_fields.specs.declared.entries.ContactPlace.{ContactPlace}
use Rattle.settings.specs.declared.settings.Entries.{Entries}
use Rattle.read_fields.specs.Entries.{ContactAt}
use Rattle.read_fields.specs.Places.{FieldsAt}
use Rattle.tables.specs.Allowed.{LineOk}
use Rattle.tables.specs.Apply.{start_from, has_key, line_of}
use Rattle.tables.specs.Changing.{SlotFilled}
use Rattle.tables.specs.Layout.{text_bytes, line_bytes, line_key_at, line_key_size, line_width}
use Rattle.tables.specs.LineHeads.{LineHead}
use Rattle.tables.specs.Tables.{Line, line_key}
use Rattle.tables.proofs.EntryCodes.{key_of, line_keyed, keys_same}
use Rattle.tables.proofs.TextLaws.{text_units}
use Rattle.store_lists.specs.Lists.{KeyedStepped, LinePlaces, LineSlot, LineSlots, LinesApplied}
use Rattle.store_lists.proofs.KeyedLaws.{ByKey, Next, KeyedDone, keyed_applied}

-- head and text make the slot
pub slot_made : (m : List ℕ) (f : LineFlags) (p : ContactPlace) (h r : List ℕ) → LineHead m f p.number h → SlotFilled m p.text h (replicate 52 0) r → LineSlot m f p r
slot_made m f p h r head fill e is range low =
    fill 16 e.text is.end is.text range.1 (omega (arith, head.long))
    ∙ ap (λ (l : List ℕ). l ++ text_bytes 16 e.text) (head.bytes low e.number is.middle is.number)

-- ---- one step

module _ (x s t : List ℕ) (m : ℕ) (places : LinePlaces (length s) m) where
  -- a region of lines has m places
  many : (n : ℕ) (xs : List (List ℕ)) → LineSlots n xs s → m ≡ n
  many n xs g = places n (ordered_length line_width line_key_at line_key_size n xs s g)

  -- the slot was put by its key
  pub line_put : (r : Bool) → OrderedPut line_width line_key_at line_key_size m x s t r → KeyedStepped LineSlots Add line_width line_key_at line_key_size x s t r
  line_put r h = record {
    kept = h.kept;
    tried = λ l i n xs g.
        let e : m ≡ n = many n xs g in
        subst (λ (j : ℕ). Tried (LineSlots j) (put_keyed (hit line_key_at (take line_key_size (drop line_key_at x))) j x xs) t r) e
        (h.tried l xs (subst (λ (j : ℕ). LineSlots j xs s) (sym e) g));
  }

  -- the slots with its key were taken out
  pub line_dropped : OrderedDrop line_width line_key_at m (mid_of line_key_at line_key_size x) s t → KeyedStepped LineSlots Delete line_width line_key_at line_key_size x s t true
  line_dropped h = record {
    kept = λ f. absurd (true≢false f);
    tried = λ l i n xs g.
        let e : m ≡ n = many n xs g in
        let k : length (mid_of line_key_at line_key_size x) ≡ line_key_size = simp (length-take, length-drop) (omega arith) in
        tried_room (LineSlots n) (unless (hit line_key_at (take line_key_size (drop line_key_at x))) xs) refl
        (subst (λ (j : ℕ). LineSlots j (unless (hit line_key_at (mid_of line_key_at line_key_size x)) xs) t) e
        (subst (λ (j : ℕ). OrderedList line_width line_key_at j m (unless (hit line_key_at (mid_of line_key_at line_key_size x)) xs) t) k
        (h xs (subst (λ (j : ℕ). OrderedList line_width line_key_at j m xs s) (sym k) (subst (λ (j : ℕ). LineSlots j xs s) (sym e) g)))));
  }

-- ---- the loop

-- line contacts under a coding make lines with these flags, which are kept by IDtype and digits
pub by_number : LineFlags → Coding → ByKey Contact Line LineSlots line_width line_key_at line_key_size
by_number f c = record {
  cleared = ordered_fresh line_width line_key_at line_key_size;
  form = contact c;
  ends = contact_ends c;
  whole = contact_whole c;
  In = InContact text_limits;
  made = line_of f;
  Ok = LineOk;
  bytes = line_bytes;
  key = key_of;
  keyed = record { inside = line_keyed.inside; long = line_keyed.long; key_long = line_keyed.key_long; stands = line_keyed.stands };
  same = λ l. has_key (line_key l);
  decides = λ a b p q. keys_same b a q p;
}

module _ (f : LineFlags) (c : Coding) (m : List ℕ) (at : ℕ) {r : Maybe (ContactPlace × ℕ)} (read : ContactAt c text_limits m at r) where
  -- none stands there
  pub no_line : r ≡ None → (e : Contact) (q : ℕ) → (by_number f c).In e → FieldsAt ((by_number f c).form e) m at q → ⊥
  unfolding by_number
  no_line z = subst (ContactAt c text_limits m at) z read

  -- one does, and x is the slot of its line
  pub next_line : (p : ContactPlace) (q : ℕ) → r ≡ Some (p, q) → (x : List ℕ) → LineSlot m f p x → f.priority < 4 → Next (by_number f c) m at q x
  unfolding by_number
  next_line p q z x slot low =
      let (e, range, is, stands) = subst (ContactAt c text_limits m at) z read in
      record {
        entry = e;
        stands = stands;
        ok = record { priority = low; number = range.0; text = record { short = range.1; units = text_units p.text.coding e.text is.text.stands } };
        slot = slot e is range low;
      }

-- what the loop did to the lines
pub lines_applied : (o : Operation) (m : List ℕ) (f : LineFlags) (p : Entries) (s t u : List ℕ) (r : Bool) → t ≡ start_from o (replicate (length s) 0) s
    → (f.priority < 4 → KeyedDone (by_number f p.coding) o m p t u r) → LinesApplied o m f p s u r
unfolding by_number
lines_applied o m f p s t u r e d low n ls es l stand range =
    keyed_applied (by_number f p.coding) o m p s t u r e (d low) n ls es l (stand.counted, (p.next, stand.stands)) range
