-- The tables of a working copy as slots: where they stand, and what stands in them. Assumes nothing.
use Rattle.lists.proofs.Kit.{ℕ, suc, ◌+◌, ◌-◌, ◌*◌, ◌≤◌, ◌<◌, ◌≡◌, refl, sym, ap, ◌∙◌, subst⁻¹, List, [], ◌∷◌, Option, none, some, Bool, true, false, cond, eqb, eqb-false, mul-le-mul_right, suc-mul, zero-add, mod-lt, arith, mid_of, length, get_or, drop, take-take}
use Rattle.lists.proofs.Every.{all_get}
use Rattle.slots.specs.Slots.{front, slot, Present, Placed, Listed}
use Rattle.slots.proofs.Parts.{get_behind}
use Rattle.slots.proofs.Tables.{all_front, front_length, place_get}
use Rattle.writing.specs.Settings.{Hash}
use Rattle.tables.specs.declared.limits.Limits.{Limits}
use Rattle.tables.specs.declared.members.Members.TheVariants.{OfGroups, OfIndividuals}
use Rattle.tables.specs.Allowed.{Allowed, HashOk}
use Rattle.tables.specs.Forms.{Roomy}
use Rattle.tables.specs.Layout.{placed_layout}
use Rattle.tables.specs.Limits.{placed, contact_places}
use Rattle.tables.specs.Store.{Works}
use Rattle.tables.specs.Tables.{Tables}
use Rattle.tables.proofs.EntryCodes.{quick_code, status_code, channel_code, line_code, group_code, individual_code}
use Rattle.tables.proofs.Frames.{hash_get, key_get, home_get, system_get, quick_placed, status_placed, contacts_listed, channels_listed, lines_listed}
use Rattle.reports.specs.declared.Asked.{Asked}
use Rattle.reports.specs.declared.Asked.TheVariants.{Groups, Individuals, Lines, Key, QuickTexts, Home, Channels, System, StatusTexts, Hash as AHash}
use Rattle.reports.specs.Asked.{kept_hash}
use Rattle.reports.specs.Items.{InHash, InItem}
use Rattle.reports.specs.TableSlots.{EntryOf, EntryOk, entry_bytes, slot_width, slot_count, slots_start, slots_of, MayBeEmpty, InSlot, InPlaces, item_at}
use Rattle.report_write.specs.ItemWriters.{WritesItem}
use Rattle.reporting.specs.Walks.{place_item, PlaceWritten, SizeIs}

-- ---- where they stand

module _ (lim : Limits) (r : Roomy lim) where
  table_ends : (a : Asked) → slots_start lim a + slot_count lim a * slot_width a ≤ lim.size
  table_ends Groups = omega (arith, r.fits)
  table_ends Individuals = omega (arith, r.fits)
  table_ends Lines = omega (arith, r.fits)
  table_ends Key = omega (arith, r.fits)
  table_ends QuickTexts = omega (arith, r.fits)
  table_ends Home = omega (arith, r.fits)
  table_ends Channels = omega (arith, r.fits)
  table_ends System = omega (arith, r.fits)
  table_ends StatusTexts = omega (arith, r.fits)
  table_ends AHash = omega (arith, r.fits)

  -- a place lies in the working copy
  pub place_inside : (a : Asked) (p : ℕ) → p < slot_count lim a → slots_start lim a + p * slot_width a + slot_width a ≤ lim.size
  place_inside a p h =
      let m : suc p * slot_width a ≤ slot_count lim a * slot_width a = mul-le-mul_right (slot_width a) h in
      omega (arith, table_ends a, suc-mul p (slot_width a))

  -- no table has more places than a count says
  pub few_places : (a : Asked) → slot_count lim a ≤ 65535
  few_places Groups = omega arith
  few_places Individuals = omega arith
  few_places Lines = omega (arith, r.few_lines)
  few_places Key = omega arith
  few_places QuickTexts = omega arith
  few_places Home = omega arith
  few_places Channels = omega (arith, r.few_channels)
  few_places System = omega arith
  few_places StatusTexts = omega arith
  few_places AHash = omega arith

pub in_places : (lim : Limits) (a : Asked) (p : ℕ) → p < slot_count lim a → InPlaces a p
in_places lim Groups p h = tt
in_places lim Individuals p h = tt
in_places lim Lines p h = tt
in_places lim Key p h = tt
in_places lim QuickTexts p h = h
in_places lim Home p h = tt
in_places lim Channels p h = tt
in_places lim System p h = tt
in_places lim StatusTexts p h = h
in_places lim AHash p h = tt

-- ---- what stands in them

pub slots_many : (lim : Limits) (t : Tables) → Allowed (placed lim) t → (a : Asked) → length (slots_of lim t a) ≡ slot_count lim a
slots_many lim t h Groups = front_length contact_places t.group_contacts
slots_many lim t h Individuals = front_length contact_places t.individual_contacts
slots_many lim t h Lines = front_length lim.lines t.lines
slots_many lim t h Key = refl
slots_many lim t h QuickTexts = h.quick.0
slots_many lim t h Home = refl
slots_many lim t h Channels = front_length lim.channels t.channels
slots_many lim t h System = refl
slots_many lim t h StatusTexts = h.status.0
slots_many lim t h AHash = refl

-- they are the same however texts are kept
pub slots_same : (lim : Limits) (t : Tables) (a : Asked) → slots_of (placed lim) t a ≡ slots_of lim t a
slots_same lim t Groups = refl
slots_same lim t Individuals = refl
slots_same lim t Lines = refl
slots_same lim t Key = refl
slots_same lim t QuickTexts = refl
slots_same lim t Home = refl
slots_same lim t Channels = refl
slots_same lim t System = refl
slots_same lim t StatusTexts = refl
slots_same lim t AHash = refl

-- bytes in a part are bytes of the whole
mid_inner : (a n k w : ℕ) (s : List ℕ) → k + w ≤ n → mid_of k w (mid_of a n s) ≡ mid_of (a + k) w s
mid_inner a n k w s h =
    ap (λ (i : ℕ). mid_of i w (mid_of a n s)) (sym (zero-add k)) ∙ get_behind k 0 w (mid_of a n s) ∙ ap (drop k) (take-take (k + w) n (drop a s) h) ∙ sym (get_behind k a w s)

-- the bytes are the slot of what stands there
in_slot : (a : Asked) → MayBeEmpty a → (x : List ℕ) (o : Option (EntryOf a)) → Present (EntryOk a) o → x ≡ slot (slot_width a) (entry_bytes a) o → InSlot a x o
in_slot a m x none p e = (m, e)
in_slot a m x (some y) p e = (p, e)

-- a place of a table of slots that starts at `at`
module _ (a : Asked) (m : MayBeEmpty a) (long : (x : EntryOf a) → length (entry_bytes a x) ≡ slot_width a) (at n : ℕ) (s : List ℕ) (p : ℕ) (h : p < n) where
  at_placed : (os : List (Option (EntryOf a))) → Placed (EntryOk a) (slot_width a) (entry_bytes a) n os (mid_of at (n * slot_width a) s)
      → InSlot a (mid_of (at + p * slot_width a) (slot_width a) s) (get_or os p none)
  at_placed os t =
      let k : suc p * slot_width a ≤ n * slot_width a = mul-le-mul_right (slot_width a) h in
      let l : p < length os = omega (arith, t.many) in
      in_slot a m (mid_of (at + p * slot_width a) (slot_width a) s) (get_or os p none) (all_get (Present (EntryOk a)) os p none t.each l)
      (sym (mid_inner at (n * slot_width a) (p * slot_width a) (slot_width a) s (omega (arith, suc-mul p (slot_width a))))
      ∙ ap (mid_of (p * slot_width a) (slot_width a)) t.bytes ∙ place_get (slot_width a) (entry_bytes a) long os p l)

  at_listed : (xs : List (EntryOf a)) → Listed (EntryOk a) (slot_width a) (entry_bytes a) n xs (mid_of at (n * slot_width a) s)
      → InSlot a (mid_of (at + p * slot_width a) (slot_width a) s) (get_or (front n xs) p none)
  at_listed xs t = at_placed (front n xs) (record { many = front_length n xs; each = all_front (EntryOk a) n xs t.each; bytes = t.bytes })

-- a table of one place
at_one : (a : Asked) (at : ℕ) (s : List ℕ) (x : EntryOf a) (p : ℕ) → p < 1 → EntryOk a x → mid_of at (slot_width a) s ≡ entry_bytes a x
    → InSlot a (mid_of (at + p * slot_width a) (slot_width a) s) (get_or (some x ∷ []) p none)
at_one a at s x p h k e =
    let z : p ≡ 0 = omega arith in
    subst⁻¹ (λ (i : ℕ). InSlot a (mid_of (at + i * slot_width a) (slot_width a) s) (get_or (some x ∷ []) i none)) z
    (k, ap (λ (i : ℕ). mid_of i (slot_width a) s) (let y : at + 0 * slot_width a ≡ at = omega arith in y) ∙ e)

slots_in : (lim : Limits) (t : Tables) → Allowed (placed lim) t → (a : Asked) (p : ℕ) → p < slot_count lim a
    → InSlot a (mid_of (slots_start lim a + p * slot_width a) (slot_width a) (placed_layout lim t)) (get_or (slots_of lim t a) p none)
slots_in lim t h Groups p l = at_listed Groups tt group_code.long _ contact_places (placed_layout lim t) p l t.group_contacts (contacts_listed lim t h OfGroups)
slots_in lim t h Individuals p l = at_listed Individuals tt individual_code.long _ contact_places (placed_layout lim t) p l t.individual_contacts (contacts_listed lim t h OfIndividuals)
slots_in lim t h Lines p l = at_listed Lines tt line_code.long _ lim.lines (placed_layout lim t) p l t.lines (lines_listed lim t h)
slots_in lim t h Key p l = at_one Key _ (placed_layout lim t) t.key p l h.key (key_get lim t h)
slots_in lim t h QuickTexts p l = at_placed QuickTexts tt quick_code.long _ _ (placed_layout lim t) p l t.quick (quick_placed lim t h)
slots_in lim t h Home p l = at_one Home _ (placed_layout lim t) t.home p l h.home (home_get lim t h)
slots_in lim t h Channels p l = at_listed Channels tt channel_code.long _ lim.channels (placed_layout lim t) p l t.channels (channels_listed lim t h)
slots_in lim t h System p l = at_one System _ (placed_layout lim t) t.system p l h.system (system_get lim t h)
slots_in lim t h StatusTexts p l = at_placed StatusTexts tt status_code.long _ _ (placed_layout lim t) p l t.status (status_placed lim t h)
slots_in lim t h AHash p l = at_one AHash _ (placed_layout lim t) t.hash p l h.hash (hash_get lim t h)

-- SLOT THERE: the bytes of a place are the slot of what stands there
pub slot_there : (lim : Limits) (t : Tables) (s : List ℕ) → Works lim t s → (a : Asked) (p : ℕ) → p < slot_count lim a
    → InSlot a (mid_of (slots_start lim a + p * slot_width a) (slot_width a) s) (get_or (slots_of lim t a) p none)
slot_there lim t s h a p l =
    subst⁻¹ (λ (x : List ℕ). InSlot a (mid_of (slots_start lim a + p * slot_width a) (slot_width a) x) (get_or (slots_of lim t a) p none)) h.1 (slots_in lim t h.0 a p l)

-- what stands in a slot has what the rules ask
pub slot_ok : (a : Asked) (x : List ℕ) (o : Option (EntryOf a)) → InSlot a x o → Present (EntryOk a) o
slot_ok a x none p = tt
slot_ok a x (some y) p = p.0

-- ---- its parameter is in range

kept_in : (h : Hash) → HashOk h → InHash (kept_hash h)
kept_in h p = go (eqb h.code 0) refl
  where
    go : (b : Bool) → eqb h.code 0 ≡ b → InHash (cond b none (some h))
    go true e = tt
    go false e = (p, eqb-false h.code 0 e)

pub item_in : (a : Asked) (p r : ℕ) (x : EntryOf a) → EntryOk a x → InPlaces a p → InItem (item_at a p r x)
item_in Groups p r x k l = (mod-lt r (omega arith), k)
item_in Individuals p r x k l = (mod-lt r (omega arith), k)
item_in Lines p r x k l = (mod-lt r (omega arith), k)
item_in Key p r x k l = k
item_in QuickTexts p r x k l = (l, k)
item_in Home p r x k l = k
item_in Channels p r x k l = (k, mod-lt r (omega arith))
item_in System p r x k l = k
item_in StatusTexts p r x k l = (omega arith, omega arith, mod-lt r (omega arith), k)
item_in AHash p r x k l = kept_in x k

-- ---- a place that was written

module _ (lim : Limits) (a : Asked) {start width : ℕ} (e : start ≡ slots_start lim a) (d : width ≡ slot_width a) (place : ℕ) (l : place < slot_count lim a) where
  -- it lies in the working copy
  pub place_within : Roomy lim → start + place * width + width ≤ lim.size
  place_within r = rw (e, d) (place_inside lim r a place l)

  -- its slot was written
  pub place_written : (work : List ℕ) (rank : ℕ) (before after : List ℕ) (r : ℕ)
      → WritesItem a (mid_of (start + place * width) (start + place * width + width - (start + place * width)) work) place rank before after r
      → PlaceWritten lim a work place rank before after r
  place_written work rank before after r w =
      let f : start + place * width ≡ slots_start lim a + place * slot_width a = rw (e, d) refl in
      let g : start + place * width + width - (start + place * width) ≡ slot_width a = omega (arith, d) in
      record {
        most = w.most;
        wrote = λ t h long.
            w.wrote (get_or (slots_of lim t a) place none)
            (subst⁻¹ (λ (z : ℕ × ℕ). InSlot a (mid_of z.0 z.1 work) (get_or (slots_of lim t a) place none)) (λ i. (f i, g i)) (slot_there lim t work h a place l))
            (in_places lim a place l) long;
      }

-- its length is the parameter's
pub size_is : (lim : Limits) (a : Asked) (work : List ℕ) (place rank : ℕ) (before after : List ℕ) (r : ℕ) → 51 ≤ length before
    → PlaceWritten lim a work place rank before after r → SizeIs lim a work place rank r
size_is lim a work place rank before after r long w t h = (w.wrote t h long).next ∙ zero-add (length (place_item lim t a place rank))
