-- Slots of a head and a text, which are overwritten: in themselves, and in the place of a table. Assumes nothing.
use Rattle.lists.proofs.Kit.{ℕ, ◌+◌, ◌-◌, ◌*◌, ◌≤◌, ◌<◌, ◌≡◌, refl, sym, ap, ◌∙◌, subst, subst⁻¹, Bool, true, false, true≢false, List, ◌++◌, Option, mul-le-mul_right, arith, put_mid, mid_of, length, set, take, drop, replicate}
use Rattle.slots.specs.Slots.{slot, Present, Placed}
use Rattle.slots.proofs.Tables.{slot_long, place_fits}
use Rattle.writing.specs.declared.Operation.{Operation}
use Rattle.writing.specs.declared.Operation.TheVariants.{Add, Delete, Replace}
use Rattle.writing.specs.Settings.{Text}
use Rattle.read_fields.specs.TextsAndNumbers.{TextIs}
use Rattle.read_fields.specs.declared.texts.TextPlace.{TextPlace}
use Rattle.tables.specs.Apply.{slot_after}
use Rattle.tables.specs.Changing.{SlotFilled}
use Rattle.store_places.specs.Changes.{free?, SlotPut, SlotSet, PlaceSet}
use Rattle.tables.specs.Layout.{text_bytes}
use Rattle.store_places.proofs.IndexedLaws.{place_changed}

module _ (keep : Bool) (m : List ℕ) (p : TextPlace) (head s : List ℕ) where
  -- one that may not be filled stays
  pub slot_kept : free? keep s ≡ false → SlotPut keep m p head s s
  slot_kept e = record { kept = λ _. refl; filled = λ f. absurd (true≢false (sym f ∙ e)) }

  -- one that may is filled
  pub slot_put : (t : List ℕ) → free? keep s ≡ true → SlotFilled m p head s t → SlotPut keep m p head s t
  slot_put t free fill = record { kept = λ f. absurd (true≢false (sym free ∙ f)); filled = λ _. fill }

-- an entry that is allowed, and whose bytes are the head and the text
abbrev pub Made : {A : Type 0} → (A → Type 0) → (A → List ℕ) → List ℕ → ℕ → Text → A → Type 0
Made P f head limit us a = P a × (length us ≤ limit) × (head ++ text_bytes limit us ≡ f a)

-- what an operation leaves of an entry has what the entry has
pub present_after : {A : Type 0} (P : A → Type 0) (a : A) → P a → (o : Operation) → Present P (slot_after o a)
present_after P a h Add = h
present_after P a h Delete = tt
present_after P a h Replace = h

-- and has Q where it has P, of which Q follows
pub after_turn : {A : Type 0} (P Q : A → Type 0) (a : A) → (P a → Q a) → (o : Operation) → Present P (slot_after o a) → Present Q (slot_after o a)
after_turn P Q a turn Add h = turn h
after_turn P Q a turn Delete h = tt
after_turn P Q a turn Replace h = turn h

-- place k was lent, and its slot set
pub place_lent : (keep : Bool) (m : List ℕ) (o : Operation) (p : TextPlace) (head : List ℕ) (w k : ℕ) (s y : List ℕ) → SlotSet keep m o p head (mid_of (k * w) (k * w + w - k * w) s) y
    → PlaceSet keep m o p head w k s (put_mid (k * w) (k * w + w - k * w) s y)
place_lent keep m o p head w k s y set =
    let e : k * w + w - k * w ≡ w = omega arith in
    record { slot = y; set = subst (λ (i : ℕ). SlotSet keep m o p head (mid_of (k * w) i s) y) e set; others = rw e refl }

-- a slot that is overwritten holds such an entry, or is emptied
made_slot : {A : Type 0} (P : A → Type 0) (w : ℕ) (f : A → List ℕ) (a : A) {m : List ℕ} {p : TextPlace} (head : List ℕ) (limit : ℕ) (us : Text) (next : ℕ) (s y : List ℕ)
    → TextIs m p us next → w ≡ length head + 2 * limit → length s ≡ w → (o : Operation) → SlotSet false m o p head s y → Present (Made P f head limit us) (slot_after o a)
    → Present P (slot_after o a) × (y ≡ slot w f (slot_after o a))
made_slot P w f a head limit us next s y is wide l Add set (ok, short, same) = (ok, set.filled refl limit us next is short (l ∙ wide) ∙ same)
made_slot P w f a head limit us next s y is wide l Delete set made = (tt, set ∙ ap (λ (i : ℕ). replicate i 0) l)
made_slot P w f a head limit us next s y is wide l Replace set (ok, short, same) = (ok, set.filled refl limit us next is short (l ∙ wide) ∙ same)

-- place k of a table, where an entry is a head and a text
module _ {A : Type 0} (P : A → Type 0) (w : ℕ) (f : A → List ℕ) (long : (a : A) → length (f a) ≡ w) (n : ℕ) (os : List (Option A)) (s : List ℕ)
    (t : Placed P w f n os s) (k : ℕ) (h : k < n) where
  -- the place was set to such an entry, or emptied
  pub place_overwritten : (o : Operation) (a : A) {m : List ℕ} {p : TextPlace} (head : List ℕ) (limit : ℕ) (us : Text) (next : ℕ)
      → TextIs m p us next → w ≡ length head + 2 * limit → Present (Made P f head limit us) (slot_after o a)
      → (u : List ℕ) → (k * w + w ≤ length s → PlaceSet false m o p head w k s u) → Placed P w f n (set os k (slot_after o a)) u
  place_overwritten o a {m} {p} head limit us next is wide made u changed =
      let c : PlaceSet false m o p head w k s u = changed (place_fits P w f long n os s t k h) in
      place_changed P w f long n os s t k h (λ _. slot_after o a) c.slot u c.others
      (λ q _ d. made_slot P w f a head limit us next (take w (drop (k * w) s)) c.slot is wide (ap length d ∙ slot_long w f long q) o c.set made)

-- the place of a small width and a small number is small
pub small_place : (k w : ℕ) → k < 256 → w < 256 → k * w ≤ 65025
small_place k w h l =
    let a : k * w ≤ 255 * w = mul-le-mul_right w (let z : k ≤ 255 = omega arith in z) in
    omega arith
