-- A slot is empty or an entry's: a byte that is 0 in no entry tells which it can be. Assumes nothing.
use Rattle.lists.proofs.Kit.{◌≡◌, refl, sym, ap, ◌∙◌, Bool, true, ◌↔◌, ◌≢◌, Option, none, some, List, [], ◌∷◌, ℕ, zero, suc, ◌-◌, ◌≤◌, ◌<◌, arith, mid_of, length, take, drop, get_or, get_or-drop, replicate}
use Rattle.slots.specs.Slots.{slot, zeros?, u24, Present, EntryOf}
use Rattle.slots.proofs.Runs.{zeros_all, zeros_are}
use Rattle.writing.specs.Settings.{Text}
use Rattle.tables.specs.declared.members.Members.{Members}
use Rattle.tables.specs.declared.members.Members.TheVariants.{OfGroups, OfIndividuals}
use Rattle.tables.specs.Allowed.{TextOk, AddressOk}
use Rattle.tables.specs.Layout.{text_bytes}
use Rattle.tables.proofs.AnswerLaws.{turned}
use Rattle.store_check.specs.declared.checks_tables.Table.{Table}
use Rattle.store_check.specs.declared.checks_tables.Table.TheVariants.{QuickTexts, StatusTexts, Members as Of, Lines}
use Rattle.store_check.specs.declared.forms.Form.{Form}
use Rattle.store_check.specs.declared.forms.Form.TheVariants.{Placed, Shared}
use Rattle.store_check.specs.Checks.{Both, joined, TextIs, text_in, quick, short, EntryIn, OkIn, bytes_in, width_in, EntryIs, SlotIs}
use Rattle.store_check.proofs.CheckLaws.{rest_is}
use Rattle.store_check.proofs.EntryChecks.{status_is, group_is, individual_is, line_is}
use Rattle.store_check.proofs.TextChecks.{digits_first}

-- ---- what a slot is

module _ (f : Form) (t : Table) (s : List ℕ) where
  -- SLOT-NONE: zeros are an empty one
  pub slot_none : length s ≡ width_in f t → zeros? s ≡ true → SlotIs f t s
  slot_none l z = record { entry = none; holds = tt; bytes = zeros_are s z ∙ ap (λ (k : ℕ). replicate k 0) l }

  -- SLOT-EMPTY: what is no entry has to be zeros
  pub slot_empty : length s ≡ width_in f t → (EntryIs f t s → ⊥) → (b : Bool) → b ≡ zeros? s → (b ≡ true) ↔ SlotIs f t s
  slot_empty l never b e = (λ y. slot_none l (sym e ∙ y), λ x. e ∙ go x.entry x.holds x.bytes)
    where
      go : (o : Option (EntryIn f t)) → Present (OkIn f t) o → s ≡ slot (width_in f t) (bytes_in f t) o → zeros? s ≡ true
      go none p k = ap zeros? k ∙ zeros_all (width_in f t)
      go (some a) p k = absurd (never (record { entry = a; holds = p; bytes = k }))

  -- SLOT-ENTRY: what is not zeros has to be an entry
  pub slot_entry : (zeros? s ≡ true → ⊥) → (b : Bool) → (b ≡ true) ↔ EntryIs f t s → (b ≡ true) ↔ SlotIs f t s
  slot_entry never b is = turned b is (λ x. record { entry = some x.entry; holds = x.holds; bytes = x.bytes }) (λ x. go x.entry x.holds x.bytes)
    where
      go : (o : Option (EntryIn f t)) → Present (OkIn f t) o → s ≡ slot (width_in f t) (bytes_in f t) o → EntryIs f t s
      go none p k = absurd (never (ap zeros? k ∙ zeros_all (width_in f t)))
      go (some a) p k = record { entry = a; holds = p; bytes = k }

-- ---- a byte that is 0 in an empty slot

zero_there : (n i : ℕ) → ◌≡◌ {A = ℕ} (get_or (replicate n 0) i 0) 0
zero_there zero i = refl
zero_there (suc n) zero = refl
zero_there (suc n) (suc i) = zero_there n i

-- bytes of which one is not 0 are not zeros
pub byte_shown : (s : List ℕ) (i : ℕ) → get_or s i 0 ≢ 0 → zeros? s ≡ true → ⊥
byte_shown s i n z = n (ap (λ (l : List ℕ). get_or l i 0) (zeros_are s z) ∙ zero_there (length s) i)

-- the first byte of a part
first_of : (l : List ℕ) (k : ℕ) → get_or (take (suc k) l) 0 0 ≡ get_or l 0 0
first_of [] k = refl
first_of (x ∷ l) k = refl

-- STATUS-MARK: and in no entry: 1 before a status text
pub status_mark : (f : Form) (s : List ℕ) → 0 < length s → EntryIs f StatusTexts s → get_or s 0 0 ≡ 1
status_mark f s l x = ((status_is f s l).1 x).0

-- an address begins with 10 hex or more
address_mark : (f : Form) (y : List ℕ) → EntryOf (Both AddressOk (TextIs f short)) (joined u24 (text_in f short)) y → get_or y 0 0 ≢ 0
address_mark f y x e = omega (arith, ap (λ (l : List ℕ). get_or l 0 0) (sym x.bytes) ∙ e, x.holds.0.0.0)

module _ (f : Form) (s : List ℕ) (l : 1 < length s) where
  behind_flags : get_or (mid_of 1 (length s - 1) s) 0 0 ≡ get_or s 1 0
  behind_flags = ap (λ (y : List ℕ). get_or y 0 0) (rest_is s 1 (length s - 1) (omega arith)) ∙ get_or-drop 1 s 0 0

  -- MEMBER-MARK: the first byte of an address
  pub member_mark : (w : Members) → EntryIs f (Of w) s → get_or s 1 0 ≢ 0
  member_mark OfGroups x e = address_mark f (mid_of 1 (length s - 1) s) ((group_is f s (omega arith)).1 x).1 (behind_flags ∙ e)
  member_mark OfIndividuals x e = address_mark f (mid_of 1 (length s - 1) s) ((individual_is f s (omega arith)).1 x).1 (behind_flags ∙ e)

  -- LINE-MARK: the first digit
  pub line_mark : EntryIs f Lines s → get_or s 2 0 ≢ 0
  line_mark x e = digits_first (mid_of 2 18 s) ((line_is f s l).1 x).1.1.0 (first_of (drop 2 s) 17 ∙ get_or-drop 2 s 0 0 ∙ e)

-- ---- quick texts

-- a text, which may be empty
text_slot : (s : List ℕ) (us : Text) → TextOk quick us → s ≡ text_bytes quick us → SlotIs Placed QuickTexts s
text_slot s [] p e = record { entry = none; holds = tt; bytes = e }
text_slot s (u ∷ us) p e = record { entry = some (u ∷ us); holds = record { some_unit = omega arith; text = p }; bytes = e }

-- how many units it has
many_slot : (s : List ℕ) (u : ℕ) → u ≤ quick → s ≡ u ∷ [] → SlotIs Shared QuickTexts s
many_slot s zero p e = record { entry = none; holds = tt; bytes = e }
many_slot s (suc u) p e = record { entry = some (suc u); holds = (omega arith, p); bytes = e }

-- QUICK-SLOT: an empty slot is an empty text's
pub quick_slot : (f : Form) (s : List ℕ) → EntryOf (TextIs f quick) (text_in f quick) s ↔ SlotIs f QuickTexts s
quick_slot Placed s = (λ x. text_slot s x.entry x.holds x.bytes, λ x. back x.entry x.holds x.bytes)
  where
    back : (o : Option Text) → Present (OkIn Placed QuickTexts) o → s ≡ slot (width_in Placed QuickTexts) (bytes_in Placed QuickTexts) o → EntryOf (TextIs Placed quick) (text_in Placed quick) s
    back none p e = record { entry = []; holds = record { short = omega arith; units = tt }; bytes = e }
    back (some us) p e = record { entry = us; holds = p.text; bytes = e }
quick_slot Shared s = (λ x. many_slot s x.entry x.holds x.bytes, λ x. back x.entry x.holds x.bytes)
  where
    back : (o : Option ℕ) → Present (OkIn Shared QuickTexts) o → s ≡ slot (width_in Shared QuickTexts) (bytes_in Shared QuickTexts) o → EntryOf (TextIs Shared quick) (text_in Shared quick) s
    back none p e = record { entry = 0; holds = omega arith; bytes = e }
    back (some u) p e = record { entry = u; holds = p.1; bytes = e }
