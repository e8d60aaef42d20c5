-- Quick texts and status texts: what the functions that change a place and the table have to show. Assumes nothing.
use Rattle.std.specs.Prelude.{Option as Maybe, Some, None}
use Rattle.lists.proofs.Kit.{ℕ, ◌+◌, ◌-◌, ◌*◌, ◌≤◌, ◌<◌, ◌≡◌, refl, sym, ap, ◌∙◌, subst, subst⁻¹, true, false, List, [], ◌∷◌, Option, none, some, arith, length, set, get_or, take, drop, replicate}
use Rattle.lists.specs.Every.{All}
use Rattle.slots.specs.Slots.{zeros?, slot, Present}
use Rattle.slots.proofs.Runs.{zeros_all}
use Rattle.slots.proofs.Tables.{slot_long, place_fits}
use Rattle.writing.specs.declared.Coding.{Coding}
use Rattle.writing.specs.declared.Operation.{Operation}
use Rattle.writing.specs.declared.Operation.TheVariants.{Add, Delete, Replace}
use Rattle.writing.specs.Fields.{widths}
use Rattle.writing.specs.Ranges.{text_limits, InQuick}
use Rattle.writing.specs.Settings.{Text, Entry}
use Rattle.writing.proofs.Ends.{Ends}
use Rattle.writing.proofs.Unique.{quick_ends, status_ends}
use Rattle.read_fields.specs.Entries.{EntryAt}
use Rattle.read_fields.specs.TextsAndNumbers.{TextIs}
use Rattle.read_fields.specs.Places.{FieldsAt}
use Rattle.read_fields.proofs.EntryLaws.{quick_whole, status_whole}
use Rattle.read_fields.specs.declared.entries.EntryPlace.{EntryPlace}
use Rattle.read_fields.specs.declared.texts.TextPlace.{TextPlace}
use Rattle.settings.specs.declared.settings.Entries.{Entries}
use Rattle.tables.specs.Allowed.{QuickOk, StatusOk}
use Rattle.tables.specs.Apply.{if_absent, start_from, slot_after, quick_step, status_step}
use Rattle.tables.specs.Layout.{quick_bytes, quick_width, status_bytes, status_width}
use Rattle.tables.specs.Limits.{quick_places, status_places}
use Rattle.tables.proofs.EntryCodes.{quick_code, quick_shown, status_code}
use Rattle.tables.proofs.EntryWalk.{Applying, entry_applied}
use Rattle.tables.proofs.TextLaws.{Unit16, text_units}
use Rattle.store_places.specs.declared.texts.TextTable.{TextTable}
use Rattle.store_places.specs.declared.texts.TextTable.TheVariants.{Quick, Status}
use Rattle.store_places.specs.Changes.{entry_form, InTexts, text_step, TextIn, text_code, text_width, text_places, text_place, TextsAre, TextsApplied, Readable, TextStep, SlotPut, SlotSet, PlaceSet}
use Rattle.store_places.proofs.IndexedLaws.{place_changed, placed_done, placed_missing}
use Rattle.store_places.proofs.OverwriteLaws.{Made, place_overwritten, present_after}

-- ---- a quick text's place

-- what an operation leaves in a slot
abbrev quick_slot : Operation → Option Text → Text → Option Text
quick_slot Add q us = if_absent q us
quick_slot Delete q us = none
quick_slot Replace q us = if_absent q us

module _ (m : List ℕ) (p : TextPlace) (us : Text) (next : ℕ) (is : TextIs m p us next) (short : length us ≤ text_limits.quick) (s t : List ℕ) where
  -- a text is put where there is none
  put_absent : (q : Option Text) → Present QuickOk q → s ≡ slot quick_width quick_bytes q → SlotPut true m p [] s t → t ≡ slot quick_width quick_bytes (if_absent q us)
  put_absent none ok e set = set.filled (ap zeros? e ∙ zeros_all quick_width) text_limits.quick us next is short (ap length e ∙ slot_long quick_width quick_bytes quick_code.long none)
  put_absent (some vs) ok e set = set.kept (ap zeros? e ∙ quick_shown vs ok) ∙ e

  -- so an operation leaves what it should
  slot_changed : (o : Operation) (q : Option Text) → Present QuickOk q → s ≡ slot quick_width quick_bytes q → SlotSet true m o p [] s t → t ≡ slot quick_width quick_bytes (quick_slot o q us)
  slot_changed Add q ok e set = put_absent q ok e set
  slot_changed Delete q ok e set = set ∙ ap (λ (n : ℕ). replicate n 0) (ap length e ∙ slot_long quick_width quick_bytes quick_code.long q)
  slot_changed Replace q ok e set = put_absent q ok e set

-- a text in range is short
quick_short : (o : Operation) (e : Entry) → InQuick text_limits o e → length e.text ≤ text_limits.quick
quick_short Add e i = i.1
quick_short Delete e i = i
quick_short Replace e i = i.1

-- what an operation leaves in a slot is allowed
quick_present : (o : Operation) (e : Entry) (q : Option Text) → InQuick text_limits o e → All Unit16 e.text → Present QuickOk q → Present QuickOk (quick_slot o q e.text)
quick_present Add e none i us h = record { some_unit = i.0; text = record { short = i.1; units = us } }
quick_present Add e (some vs) i us h = h
quick_present Delete e q i us h = tt
quick_present Replace e none i us h = record { some_unit = i.0; text = record { short = i.1; units = us } }
quick_present Replace e (some vs) i us h = h

-- an entry changes its own place
quick_one : (o : Operation) (e : Entry) (qs : List (Option Text))
    → quick_step o e qs ≡ some (set qs e.index (quick_slot o (get_or qs e.index none) e.text))
quick_one Add e qs = refl
quick_one Delete e qs = refl
quick_one Replace e qs = refl

status_one : (o : Operation) (e : Entry) (ss : List (Option Text)) → status_step o e ss ≡ some (set ss (e.index - 32) (slot_after o e.text))
status_one Add e ss = refl
status_one Delete e ss = refl
status_one Replace e ss = refl

-- ---- a place

module _ (m : List ℕ) (o : Operation) (p : EntryPlace) (s t : List ℕ) where
  -- a quick text's place was set, and kept where there was one
  pub quick_stepped : (p.index * quick_width + quick_width ≤ length s → PlaceSet true m o p.text [] quick_width p.index s t) → TextStep Quick m o p s t
  quick_stepped changed e is l i qs h =
      let k : p.index < quick_places = omega (arith, is.index, l) in
      let c : PlaceSet true m o p.text [] quick_width p.index s t = changed (place_fits QuickOk quick_width quick_bytes quick_code.long quick_places qs s h p.index k) in
      let us = text_units p.text.coding e.text is.text.stands in (
        set qs e.index (quick_slot o (get_or qs e.index none) e.text),
        quick_one o e qs,
        subst⁻¹ (λ (j : ℕ). TextsAre Quick (set qs j (quick_slot o (get_or qs j none) e.text)) t) is.index
            (place_changed QuickOk quick_width quick_bytes quick_code.long quick_places qs s h p.index k (λ q. quick_slot o q e.text) c.slot t c.others
            (λ q r d. (
              quick_present o e q i us r,
              slot_changed m p.text e.text is.end is.text (quick_short o e i) (take quick_width (drop (p.index * quick_width) s)) c.slot o q r d c.set,
            ))),
      )

  -- every status code in range has a place
  pub code_outside : p.index < 32 → TextStep Status m o p s t
  code_outside l e is k i ss h = absurd (omega (arith, is.index, i.0))

  -- a status text's place was overwritten
  pub status_stepped : ((p.index - 32) * status_width + status_width ≤ length s → PlaceSet false m o p.text (1 ∷ []) status_width (p.index - 32) s t) → TextStep Status m o p s t
  status_stepped changed e is l i ss h =
      let k : p.index - 32 < status_places = omega (arith, is.index, l) in
      let ok : StatusOk e.text = record { short = i.2; units = text_units p.text.coding e.text is.text.stands } in (
        set ss (e.index - 32) (slot_after o e.text),
        status_one o e ss,
        subst⁻¹ (λ (j : ℕ). TextsAre Status (set ss (j - 32) (slot_after o e.text)) t) is.index
            (place_overwritten StatusOk status_width status_bytes status_code.long status_places ss s h (p.index - 32) k o e.text (1 ∷ []) text_limits.short e.text
            is.end is.text refl (present_after (Made StatusOk status_bytes (1 ∷ []) text_limits.short e.text) e.text (ok, i.2, refl) o) t changed),
      )

-- ---- the loop over the entries, of either table

-- an entry says where it ends
pub form_ends : (k : TextTable) (c : Coding) → Ends (entry_form k c)
form_ends Quick c = quick_ends c
form_ends Status c = status_ends c

-- and is whole bytes
pub form_whole : (k : TextTable) (c : Coding) (e : Entry) → (n : ℕ) × (widths (entry_form k c e) ≡ 8 * n)
form_whole Quick c e = quick_whole c e
form_whole Status c e = status_whole c e

-- a text's bytes are as many as its slot has
code_long : (k : TextTable) (us : Text) → length (text_code k us) ≡ text_width k
code_long Quick us = quick_code.long us
code_long Status us = status_code.long us

-- what is in range of an operation is read
readable : (k : TextTable) (o : Operation) (e : Entry) → InTexts k o e → Readable k e
readable Quick o e i = (omega arith, quick_short o e i)
readable Status o e i = i

-- and has a place: an index has 6 bits
has_place : (k : TextTable) (c : Coding) (o : Operation) (m : List ℕ) (p q : ℕ) (e : Entry) → FieldsAt (entry_form k c e) m p q → InTexts k o e → text_place k e.index < text_places k
has_place Quick c o m p q e x i =
    let (_, _, _, _, _, (_, _, h, l, _, _)) = x.written in
    subst (◌< 64) h l
has_place Status c o m p q e x i = omega (arith, i.0, i.1)

-- the loop has come to p with left entries left, and made s of s₀
abbrev pub TextsGoing : TextTable → Coding → List ℕ → Operation → List ℕ → ℕ → ℕ → ℕ → ℕ → List ℕ → Type 0
TextsGoing k c m o s₀ at count p left s =
    Applying (entry_form k c) (form_ends k c) (form_whole k c) (InTexts k o) (text_step k o) (TextsAre k) m s₀ at count p left s

module _ (k : TextTable) (m : List ℕ) (o : Operation) (s₀ : List ℕ) (entries : Entries) (p left : ℕ) (s : List ℕ) (g : TextsGoing k entries.coding m o s₀ entries.start entries.count p left s) where
  -- the entry that was read has been applied
  pub texts_next : {r : Maybe (EntryPlace × ℕ)} (a : EntryPlace) (q : ℕ) (t : List ℕ) → 0 < left → EntryAt (entry_form k entries.coding) (Readable k) m p r → r ≡ Some (a, q) → TextStep k m o a s t
      → TextsGoing k entries.coding m o s₀ entries.start entries.count q (left - 1) t
  texts_next a q t l read e stepped = entry_applied g (Readable k) read l a q t e (λ x is z i. stepped x is (has_place k entries.coding o m p q x z i) i)

  -- s₀ is what the table was, emptied where it is to be replaced
  module _ (was : List ℕ) (started : s₀ ≡ start_from o (replicate (length was) 0) was) where
    -- none could be read where one is left
    pub texts_missing : {r : Maybe (EntryPlace × ℕ)} (t : List ℕ) → 0 < left → EntryAt (entry_form k entries.coding) (Readable k) m p r → r ≡ None → TextsApplied k m o entries was t
    texts_missing t l read e es h i =
        placed_missing (TextIn k) (text_width k) (text_code k) (code_long k) (text_places k) entries g o was started es (h.counted, (entries.next, h.stands)) i (Readable k) (readable k o) read e l t

    -- all have been applied
    pub texts_done : left ≤ 0 → TextsApplied k m o entries was s
    texts_done l es h i = placed_done (TextIn k) (text_width k) (text_code k) (code_long k) (text_places k) entries g o was started es (h.counted, (entries.next, h.stands)) i l
