-- Whether bytes are a table: slot by slot, with a test that decides for a slot. Assumes nothing.
use Rattle.lists.proofs.Kit.{◌≡◌, refl, sym, ap, ap₂, ◌∙◌, subst, true, ◌↔◌, Option, List, [], ◌∷◌, ◌++◌, ℕ, zero, suc, ◌+◌, ◌*◌, ◌-◌, ◌≤◌, ◌<◌, suc-mul, zero-mul, arith, mid_of, length, drop, take, replicate, length-drop, take-append-drop, take_at, drop_at, drop-drop}
use Rattle.lists.specs.Every.{All}
use Rattle.slots.specs.Slots.{slot, places, zeros?, Present, EntryOf, SlotOf, PlacesOf, ListOf}
use Rattle.slots.proofs.Runs.{zeros_are}
use Rattle.slots.proofs.Tables.{slot_long, front_nil, places_nil}

-- no bytes are as many as no slots have
no_bytes : (w : ℕ) (s : List ℕ) → length s ≡ zero * w → s ≡ []
no_bytes w [] l = refl
no_bytes w (x ∷ s) l = absurd (omega (arith, zero-mul w))

module _ {A : Type 0} (P : A → Type 0) (w : ℕ) (f : A → List ℕ) where
  -- ---- an indexed table, by its first slot

  -- no bytes are a table with no places
  pub places_none : (s : List ℕ) → length s ≡ zero * w → PlacesOf P w f zero s
  places_none s l = record { entries = []; placed = record { many = refl; each = tt; bytes = no_bytes w s l } }

  -- a slot before a table makes a table
  pub places_cons : (n : ℕ) (s : List ℕ) → SlotOf P w f (take w s) → PlacesOf P w f n (drop w s) → PlacesOf P w f (suc n) s
  places_cons n s x t =
      record {
        entries = x.entry ∷ t.entries;
        placed = record {
          many = ap suc t.placed.many;
          each = (x.holds, t.placed.each);
          bytes = sym (take-append-drop w s) ∙ ap₂ (λ a b. a ++ b) x.bytes t.placed.bytes;
        };
      }

  -- a table is a slot before a table
  pub places_uncons : ((a : A) → length (f a) ≡ w) → (n : ℕ) (s : List ℕ) → PlacesOf P w f (suc n) s → SlotOf P w f (take w s) × PlacesOf P w f n (drop w s)
  places_uncons long n s t = go t.entries t.placed.many t.placed.each t.placed.bytes
    where
      go : (os : List (Option A)) → length os ≡ suc n → All (Present P) os → s ≡ places w f os → SlotOf P w f (take w s) × PlacesOf P w f n (drop w s)
      go [] m q e = absurd (omega arith)
      go (o ∷ os) m q e = (
        record { entry = o; holds = q.0; bytes = ap (take w) e ∙ take_at (slot w f o) (places w f os) w (slot_long w f long o) },
        record {
          entries = os;
          placed = record { many = omega arith; each = q.1; bytes = ap (drop w) e ∙ drop_at (slot w f o) (places w f os) w (slot_long w f long o) };
        },
      )

  -- ---- a list table, by its first slot

  -- zeros are a list table with no entries
  pub list_none : (n : ℕ) (s : List ℕ) → length s ≡ n * w → zeros? s ≡ true → ListOf P w f n s
  list_none n s l z =
      record {
        entries = [];
        listed = record {
          few = omega arith;
          each = tt;
          bytes = zeros_are s z ∙ ap (λ (i : ℕ). replicate i 0) l ∙ sym (ap (places w f) (front_nil n) ∙ places_nil w f n);
        };
      }

  -- an entry before a list table makes one
  pub list_cons : (n : ℕ) (s : List ℕ) → EntryOf P f (take w s) → ListOf P w f n (drop w s) → ListOf P w f (suc n) s
  list_cons n s x t =
      record {
        entries = x.entry ∷ t.entries;
        listed = record {
          few = omega (arith, t.listed.few);
          each = (x.holds, t.listed.each);
          bytes = sym (take-append-drop w s) ∙ ap₂ (λ a b. a ++ b) x.bytes t.listed.bytes;
        };
      }

-- ---- a loop over the slots of s

-- s is a table of n slots where what is left from `at` on is one of as many as are left
pub record Left (T : ℕ → List ℕ → Type 0) (w n : ℕ) (s : List ℕ) (at : ℕ) : Type 0 where
  pub left : ℕ
  pub long : length (drop at s) ≡ left * w
  pub same : T n s ↔ T left (drop at s)

-- the same with the next slot
record Ahead (T : ℕ → List ℕ → Type 0) (w n : ℕ) (s : List ℕ) (at : ℕ) : Type 0 where
  more : ℕ
  long : length (drop w (drop at s)) ≡ more * w
  same : T n s ↔ T (suc more) (drop at s)

module _ (T : ℕ → List ℕ → Type 0) (w n : ℕ) (s : List ℕ) where
  -- at the start all slots are left
  pub left_start : length s ≡ n * w → Left T w n s 0
  left_start l = record { left = n; long = l; same = (λ t. t, λ t. t) }

  module _ (at : ℕ) (q : Left T w n s at) where
    -- where a slot is left there is a next one
    ahead : 0 < w → w ≤ length s - at → Ahead T w n s at
    ahead c h = go q.left q.long q.same
      where
        go : (m : ℕ) → length (drop at s) ≡ m * w → T n s ↔ T m (drop at s) → Ahead T w n s at
        go zero l e = absurd (omega (arith, length-drop at s, zero-mul w))
        go (suc m) l e = record { more = m; long = omega (arith, length-drop w (drop at s), suc-mul m w); same = e }

    -- nothing is left
    left_none : 0 < w → length s - at < w → (q.left ≡ zero) × (drop at s ≡ [])
    left_none c h = go q.left q.long
      where
        go : (m : ℕ) → length (drop at s) ≡ m * w → (m ≡ zero) × (drop at s ≡ [])
        go zero l = (refl, no_bytes w (drop at s) l)
        go (suc m) l = absurd (omega (arith, length-drop at s, suc-mul m w))

    -- the next slot is taken
    left_more : (a : Ahead T w n s at) → T (suc a.more) (drop at s) ↔ T a.more (drop w (drop at s)) → Left T w n s (at + w)
    left_more a e =
        let d : drop w (drop at s) ≡ drop (at + w) s = drop-drop w at s in
        record {
          left = a.more;
          long = rw d at a.long;
          same = (λ t. subst (T a.more) d (e.0 (a.same.0 t)), λ t. a.same.1 (e.1 (subst (T a.more) (sym d) t)));
        }

-- the slot at `at`, read where it stands
part_slot : (s : List ℕ) (at w : ℕ) → mid_of at (at + w - at) s ≡ take w (drop at s)
part_slot s at w = let k : at + w - at ≡ w = omega arith in rw k

module _ {A : Type 0} (P : A → Type 0) (w : ℕ) (f : A → List ℕ) (long : (a : A) → length (f a) ≡ w) (wide : 0 < w) (n : ℕ) (s : List ℕ) (at : ℕ) (q : Left (PlacesOf P w f) w n s at) where
  -- the slot is one of the table's
  pub places_more : w ≤ length s - at → SlotOf P w f (mid_of at (at + w - at) s) → Left (PlacesOf P w f) w n s (at + w)
  places_more h x =
      let a = ahead (PlacesOf P w f) w n s at q wide h in
      left_more (PlacesOf P w f) w n s at q a
      (λ t. (places_uncons P w f long a.more (drop at s) t).1, λ t. places_cons P w f a.more (drop at s) (subst (SlotOf P w f) (part_slot s at w) x) t)

  -- the slot is none of a table's
  pub places_stop : w ≤ length s - at → (SlotOf P w f (mid_of at (at + w - at) s) → ⊥) → PlacesOf P w f n s → ⊥
  places_stop h x t =
      let a = ahead (PlacesOf P w f) w n s at q wide h in
      x (subst (SlotOf P w f) (sym (part_slot s at w)) (places_uncons P w f long a.more (drop at s) (a.same.0 t)).0)

  -- no slot is left
  pub places_end : length s - at < w → PlacesOf P w f n s
  places_end h =
      let e = left_none (PlacesOf P w f) w n s at q wide h in
      q.same.1 (subst (λ (m : ℕ). PlacesOf P w f m (drop at s)) (sym e.0) (places_none P w f (drop at s) (ap length e.1 ∙ sym (zero-mul w))))
