-- The texts of a table are written as entries, each with its index or code. Assumes nothing.
use Rattle.lists.proofs.Kit.{ℕ, suc, ◌+◌, ◌-◌, ◌*◌, ◌≤◌, ◌<◌, ◌≡◌, refl, sym, ap, ◌∙◌, subst, subst⁻¹, true, false, List, [], ◌∷◌, ◌++◌, map, map-append, append_assoc, append-nil, Option, none, some, add-zero, add-suc, mul-le-mul_right, suc-mul, add-one, arith, mid_of, length, get_or, take, drop, drop_of_length-le, length-append, take_all, take_at, drop_at, drop-cons}
use Rattle.slots.specs.Slots.{flat, slot, zeros?, Placed}
use Rattle.slots.proofs.Parts.{flat_append}
use Rattle.slots.proofs.Tables.{place_none, place_read, place_some}
use Rattle.writing.specs.Canonical.{plain}
use Rattle.writing.specs.Settings.{Text, Entry, unicode16}
use Rattle.writing.specs.Writing.{text}
use Rattle.tables.specs.Layout.{text_bytes}
use Rattle.tables.proofs.TextCodes.{text_length}
use Rattle.export_write.specs.declared.entries.TextTable.{TextTable}
use Rattle.export_write.specs.declared.entries.Entries.{Entries}
use Rattle.export_write.specs.EntryWriters.{entry_bytes, entry_size, led, Shown, Entered, WritesEntry}
use Rattle.export_write.specs.EntrySettings.{entries}
use Rattle.export_write.specs.Writers.{Wrote, TextIn, WritesText}
use Rattle.export_write.proofs.WroteLaws.{wrote_none, wrote_both, wrote_as}

-- place k of n places of w bytes stands among n * w bytes
pub place_inside : (k n w len : ℕ) → k < n → len ≡ n * w → k * w + w ≤ len
place_inside k n w len h e = let m : suc k * w ≤ n * w = mul-le-mul_right w h in omega (arith, suc-mul k w)

-- an index, then a text
pub entry_wrote : (i at m r : ℕ) (p s t u : List ℕ) → Wrote (i ∷ []) at s t m → WritesText p m t u r
    → (q : List ℕ) → q ≡ p → (us : Text) → TextIn q us → Wrote (entry_bytes (record { index = i; text = us })) at s u r
entry_wrote i at m r p s t u a b q e us k =
    wrote_both (i ∷ []) (plain (text unicode16 us)) at m r s t u a (b.wrote us (subst (λ (x : List ℕ). TextIn x us) e k))

-- ---- the walk

-- of all entries, those that are left
pub record Entering (all : List Entry) (at : ℕ) (before after : List ℕ) (r count : ℕ) (left : List Entry) : Type 0 where
  pub done : List Entry
  pub wrote : Wrote (flat (map entry_bytes done)) at before after r
  pub many : length done ≡ count
  pub whole : all ≡ done ++ left

-- the entries up to a place are written
abbrev pub Walked : TextTable → (region buffer₀ buffer : List ℕ) → (at end count next : ℕ) → Type 0
Walked t region buffer₀ buffer at end count next =
    (lead : List ℕ) (n : ℕ) (os : List (Option Text)) → length lead ≡ t.skip → t.width ≡ t.skip + 2 * n
    → Placed (Shown lead n) t.width (led lead n) t.places os region → Entering (entries t.first os) at buffer₀ buffer end count (entries (t.first + next) (drop next os))

pub walked_start : (t : TextTable) (region buffer : List ℕ) (at : ℕ) → at ≤ length buffer → Walked t region buffer buffer at at 0 0
walked_start t region buffer at h lead n os l w p = record { done = []; wrote = wrote_none at buffer h; many = refl; whole = ap (λ (i : ℕ). entries i os) (sym (add-zero t.first)) }

-- what stands from a place on: nothing there, or an entry
next_none : (i k : ℕ) (os : List (Option Text)) → k < length os → get_or os k none ≡ none → entries (i + k) (drop k os) ≡ entries (i + (k + 1)) (drop (k + 1) os)
next_none i k os h e = rw (add-one, add-suc) (ap (entries (i + k)) (drop-cons os k none h ∙ ap (λ (o : Option Text). o ∷ drop (suc k) os) e))

next_some : (i k : ℕ) (os : List (Option Text)) (us : Text) → k < length os → get_or os k none ≡ some us
    → entries (i + k) (drop k os) ≡ record { index = i + k; text = us } ∷ entries (i + (k + 1)) (drop (k + 1) os)
next_some i k os us h e = rw (add-one, add-suc) (ap (entries (i + k)) (drop-cons os k none h ∙ ap (λ (o : Option Text). o ∷ drop (suc k) os) e))

-- a slot's length
led_long : (t : TextTable) (lead : List ℕ) (n : ℕ) → length lead ≡ t.skip → t.width ≡ t.skip + 2 * n → (us : Text) → length (led lead n us) ≡ t.width
led_long t lead n l w us = omega (arith, length-append lead (text_bytes n us), text_length n us)

module _ (t : TextTable) (region buffer₀ buffer : List ℕ) (at end count next : ℕ) (g : Walked t region buffer₀ buffer at end count next) where
  -- an empty place is passed
  pub walked_none : next < t.places → zeros? (mid_of (next * t.width) (next * t.width + t.width - next * t.width) region) ≡ true
      → Walked t region buffer₀ buffer at end count (next + 1)
  walked_none h z lead n os l w p =
      let e : get_or os next none ≡ none
      = place_none (Shown lead n) t.width (led lead n) (led_long t lead n l w) t.places os region p next h (λ us s. s.1) z in
      let r = g lead n os l w p in
      record { done = r.done; wrote = r.wrote; many = r.many; whole = r.whole ∙ ap (λ (x : List Entry). r.done ++ x) (next_none t.first next os (omega (arith, p.many)) e) }

  -- an entry is written
  pub walked_some : (after : List ℕ) (r : ℕ) → next < t.places → zeros? (mid_of (next * t.width) (next * t.width + t.width - next * t.width) region) ≡ false
      → WritesEntry (t.first + next) t.skip (mid_of (next * t.width) (next * t.width + t.width - next * t.width) region) end buffer after r
      → Walked t region buffer₀ after at r (count + 1) (next + 1)
  walked_some after r h z v lead n os l w p =
      let (us, e, ok) = place_some (Shown lead n) t.width (led lead n) (led_long t lead n l w) t.places os region p next h z in
      let b = place_read (Shown lead n) t.width (led lead n) (led_long t lead n l w) t.places os region p next h in
      let s : mid_of (next * t.width) (next * t.width + t.width - next * t.width) region ≡ led lead n us = b ∙ ap (slot t.width (led lead n)) e in
      let k : drop t.skip (mid_of (next * t.width) (next * t.width + t.width - next * t.width) region) ≡ text_bytes n us
      = ap (drop t.skip) s ∙ drop_at lead (text_bytes n us) t.skip l in
      let x : Entry = record { index = t.first + next; text = us } in
      let q = g lead n os l w p in
      let d : List Entry = q.done in
      let f : flat (map entry_bytes d) ++ entry_bytes x ≡ flat (map entry_bytes (d ++ (x ∷ [])))
      = ap (λ (y : List ℕ). flat (map entry_bytes d) ++ y) (sym (append-nil (entry_bytes x))) ∙ sym (flat_append (map entry_bytes d) (entry_bytes x ∷ []))
      ∙ ap flat (sym (map-append entry_bytes d (x ∷ []))) in
      record {
        done = d ++ (x ∷ []);
        wrote = wrote_as (flat (map entry_bytes d) ++ entry_bytes x) (flat (map entry_bytes (d ++ (x ∷ [])))) at r buffer₀ after f
            (wrote_both (flat (map entry_bytes d)) (entry_bytes x) at end r buffer₀ buffer after q.wrote (v.wrote us (n, (ok.0, k))));
        many = omega (arith, q.many, length-append d (x ∷ []));
        whole = q.whole ∙ ap (λ (y : List Entry). d ++ y) (next_some t.first next os us (omega (arith, p.many)) e)
            ∙ sym (append_assoc d (x ∷ []) (entries (t.first + (next + 1)) (drop (next + 1) os)));
      }

  abbrev at_end : Entries
  at_end = record { end = end; count = count; next = next }

  abbrev pub AllEntered : Type 0
  AllEntered =
      (lead : List ℕ) (n : ℕ) (os : List (Option Text)) → length lead ≡ t.skip → t.width ≡ t.skip + 2 * n
      → Placed (Shown lead n) t.width (led lead n) t.places os region → Entered t os at buffer₀ buffer at_end

  -- what was written are the entries that one setting takes
  entered : (os : List (Option Text)) (d : List Entry) → Wrote (flat (map entry_bytes d)) at buffer₀ buffer end → length d ≡ count → take t.most (entries t.first os) ≡ d
      → drop t.most (entries t.first os) ≡ entries (t.first + next) (drop next os) → Entered t os at buffer₀ buffer at_end
  entered os d w m k r = record {
    wrote = subst⁻¹ (λ (x : List Entry). Wrote (flat (map entry_bytes x)) at buffer₀ buffer end) k w;
    counted = sym m ∙ ap length (sym k);
    rest = r;
  }

  -- the most were written
  pub entered_most : count ≡ t.most → AllEntered
  entered_most c lead n os l w p =
      let q = g lead n os l w p in
      let r : List Entry = entries (t.first + next) (drop next os) in
      let m : length q.done ≡ t.most = q.many ∙ c in
      entered os q.done q.wrote q.many (ap (take t.most) q.whole ∙ take_at q.done r t.most m) (ap (drop t.most) q.whole ∙ drop_at q.done r t.most m)

  -- all were written
  pub entered_all : t.places ≤ next → count ≤ t.most → AllEntered
  entered_all h c lead n os l w p =
      let q = g lead n os l w p in
      let z : drop next os ≡ [] = drop_of_length-le os {i = next} (omega (arith, p.many)) in
      let e : entries t.first os ≡ q.done = q.whole ∙ ap (λ (x : List (Option Text)). q.done ++ entries (t.first + next) x) z ∙ append-nil q.done in
      let m : length (entries t.first os) ≡ count = ap length e ∙ q.many in
      entered os q.done q.wrote q.many (take_all t.most (entries t.first os) (omega arith) ∙ e)
      (drop_of_length-le (entries t.first os) {i = t.most} (omega arith) ∙ ap (entries (t.first + next)) (sym z))

-- ---- the loop

-- what holds before each turn
pub record Turn (t : TextTable) (region buffer₀ : List ℕ) (at : ℕ) (buffer : List ℕ) (end count next : ℕ) : Type 0 where
  pub same : length buffer ≡ length buffer₀
  pub within : next ≤ t.places
  pub from : at ≤ end
  pub most : end ≤ at + count * entry_size t
  pub passed : count ≤ next
  pub few : count ≤ t.most
  pub walked : Walked t region buffer₀ buffer at end count next

module _ (t : TextTable) (region buffer₀ : List ℕ) (at : ℕ) where
  pub turn_start : at ≤ length buffer₀ → Turn t region buffer₀ at buffer₀ at 0 0
  turn_start h = record { same = refl; within = omega arith; from = omega arith; most = omega arith; passed = omega arith; few = omega arith; walked = walked_start t region buffer₀ at h }

  -- a turn as it ended
  pub turn_as : (b c : List ℕ) (e f k l next : ℕ) → b ≡ c → e ≡ f → k ≡ l → Turn t region buffer₀ at c f l next → Turn t region buffer₀ at b e k next
  turn_as b c e f k l next p q r z =
      subst (λ (x : List ℕ). Turn t region buffer₀ at x e k next) (sym p) (subst (λ (x : ℕ). Turn t region buffer₀ at c x k next) (sym q) (subst (λ (x : ℕ). Turn t region buffer₀ at c f x next) (sym r) z))

  module _ (buffer : List ℕ) (end count next : ℕ) (z : Turn t region buffer₀ at buffer end count next) (low : next < t.places) where
    -- where the slot is empty
    pub turn_none : zeros? (mid_of (next * t.width) (next * t.width + t.width - next * t.width) region) ≡ true → Turn t region buffer₀ at buffer end count (next + 1)
    turn_none e =
        record {
          same = z.same;
          within = omega arith;
          from = z.from;
          most = z.most;
          passed = omega (arith, z.passed);
          few = z.few;
          walked = walked_none t region buffer₀ buffer at end count next z.walked low e;
        }

    -- where it is not
    pub turn_some : (after : List ℕ) (r : ℕ) → length after ≡ length buffer → length (mid_of (next * t.width) (next * t.width + t.width - next * t.width) region) ≡ t.width → (count ≡ t.most → ⊥)
        → zeros? (mid_of (next * t.width) (next * t.width + t.width - next * t.width) region) ≡ false
        → WritesEntry (t.first + next) t.skip (mid_of (next * t.width) (next * t.width + t.width - next * t.width) region) end buffer after r
        → Turn t region buffer₀ at after r (count + 1) (next + 1)
    turn_some after r l m c e v =
        let w : (count + 1) * entry_size t ≡ count * entry_size t + entry_size t = ap (λ (i : ℕ). i * entry_size t) (add-one count) ∙ suc-mul count (entry_size t) in
        record {
          same = l ∙ z.same;
          within = omega arith;
          from = omega (arith, z.from, v.from);
          most = omega (arith, z.most, v.most, m);
          passed = omega (arith, z.passed);
          few = omega (arith, z.few, c);
          walked = walked_some t region buffer₀ buffer at end count next z.walked after r low e v;
        }
