-- Where the regions of a store with shared texts stand: each is read at its place, and put back it changes that region and no other. Assumes nothing.
use Rattle.lists.proofs.Kit.{ℕ, suc, ◌+◌, ◌*◌, ◌-◌, ◌<◌, ◌≡◌, refl, sym, ap, ap₂, ◌∙◌, List, [], ◌∷◌, ◌++◌, map, Option, arith, put_mid, mid_of, length, take, drop, get_or, set, length-append, length-replicate, take_at, drop_at, take-take}
use Rattle.slots.specs.Slots.{flat, sum, places, front, u16}
use Rattle.slots.proofs.Pads.{pad_length}
use Rattle.slots.proofs.Parts.{get_behind, parts_get, parts_put}
use Rattle.slots.proofs.Tables.{front_length, places_length}
use Rattle.orders.specs.OrderParts.{order_bytes}
use Rattle.tables.specs.declared.limits.Limits.{Limits}
use Rattle.tables.specs.Allowed.{Allowed}
use Rattle.tables.specs.Layout.{counted, count_size}
use Rattle.tables.specs.Limits.{placed, quick_places, status_places, slot_places, contact_places}
use Rattle.tables.specs.Order.{line_order}
use Rattle.tables.specs.Tables.{Tables, Line}
use Rattle.tables.proofs.EntryCodes.{channel_code}
use Rattle.tables.proofs.FixedCodes.{hash_code}
use Rattle.tables.proofs.LayoutLaws.{list_wide}
use Rattle.tables.specs.Heads.{text_halves, line_halves, member_halves, quick_head, status_head, line_head, group_head, individual_head, quick_own, status_own, member_own, line_own}
use Rattle.tables.specs.SharedLayout.{head_widths, shared_size, shared_regions, shared_layout}
use Rattle.tables.specs.Texts.{texts_of}
use Rattle.shared_texts.proofs.Cuts.{area_length}
use Rattle.shared_texts.proofs.HeadCodes.{line_kept}

-- the widths of all regions
abbrev pub shared_widths : Limits → ℕ → List ℕ
shared_widths lim a = head_widths lim ++ (a ∷ (lim.size - shared_size lim a) ∷ [])

-- ---- widths

-- a line's head fills its slot
pub line_long : (l : Line) → length (line_head (line_halves.head l)) ≡ suc line_own
line_long l = line_kept.headed.code.long (line_halves.head l)

module _ {A : Type 0} (w : ℕ) (f : A → List ℕ) (long : (a : A) → length (f a) ≡ w) (n : ℕ) where
  -- an indexed table of n places
  pub table_wide : (os : List (Option A)) → length os ≡ n → length (places w f os) ≡ n * w
  table_wide os e = places_length w f long os ∙ ap (λ (i : ℕ). i * w) e

  -- a list table of n places
  pub counted_wide : (xs : List A) → length (counted w f n xs) ≡ count_size + n * w
  counted_wide xs = omega (arith, table_wide (front n xs) (front_length n xs))

-- SHARED-WIDE: every region has its width
pub shared_wide : (lim : Limits) (a : ℕ) (t : Tables) → Allowed (placed lim) t → map length (shared_regions lim a t) ≡ shared_widths lim a
shared_wide lim a t ok =
    let h = hash_code.long t.hash in
    let q = table_wide (suc quick_own) (λ us. quick_head (text_halves.head us)) (λ us. refl) quick_places t.quick ok.quick.0 in
    let s = table_wide (suc status_own) (λ us. status_head (text_halves.head us)) (λ us. refl) status_places t.status ok.status.0 in
    let g = table_wide (suc member_own) (λ g. group_head (member_halves.head g)) (λ g. refl) slot_places t.groups ok.groups.0 in
    let v = table_wide (suc member_own) (λ g. individual_head (member_halves.head g)) (λ g. refl) slot_places t.individuals ok.individuals.0 in
    let d = table_wide (suc line_own) (λ l. line_head (line_halves.head l)) line_long slot_places t.line_slots ok.line_slots.0 in
    let e = counted_wide (suc member_own) (λ g. group_head (member_halves.head g)) (λ g. refl) contact_places t.group_contacts in
    let f = counted_wide (suc member_own) (λ g. individual_head (member_halves.head g)) (λ g. refl) contact_places t.individual_contacts in
    let c = list_wide channel_code lim.channels t.channels in
    let l : List ℕ = counted (suc line_own) (λ l. line_head (line_halves.head l)) lim.lines t.lines in
    let o : length (l ++ order_bytes lim.lines (line_order t.lines)) ≡ count_size + lim.lines * suc line_own + lim.lines
    = length-append l (order_bytes lim.lines (line_order t.lines)) ∙ ap₂ (λ (i j : ℕ). i + j) (counted_wide (suc line_own) (λ l. line_head (line_halves.head l)) line_long lim.lines t.lines) (pad_length 0 lim.lines (map suc (line_order t.lines))) in
    let x = area_length a (texts_of t) in
    let z = length-replicate {A = ℕ} (lim.size - shared_size lim a) 0 in
    (λ i. h i ∷ 4 ∷ 4 ∷ 3 ∷ q i ∷ s i ∷ g i ∷ v i ∷ d i ∷ e i ∷ f i ∷ c i ∷ o i ∷ x i ∷ z i ∷ [])

-- ---- frames

-- region k of the store has n bytes from `at` on
module _ (lim : Limits) (a : ℕ) (t : Tables) (ok : Allowed (placed lim) t) (k : ℕ) (h : k < 15) (at n : ℕ) (p : at ≡ sum (take k (shared_widths lim a))) (q : n ≡ get_or (shared_widths lim a) k 0) where
  -- SHARED-GET: it is read
  pub shared_get : mid_of at n (shared_layout lim a t) ≡ get_or (shared_regions lim a t) k []
  unfolding shared_layout
  shared_get = rw (p, q) (parts_get (shared_regions lim a t) (shared_widths lim a) (shared_wide lim a t ok) k h)

  -- SHARED-PUT: it comes back as y, and these are the bytes of the tables u where they are those of t with y for region k
  pub shared_put : (u : Tables) (y : List ℕ) → set (shared_regions lim a t) k y ≡ shared_regions lim a u → put_mid at n (shared_layout lim a t) y ≡ shared_layout lim a u
  unfolding shared_layout
  shared_put u y e = rw (p, q) (parts_put (shared_regions lim a t) (shared_widths lim a) (shared_wide lim a t ok) k h y ∙ ap flat e)

-- ---- runs in a region

-- bytes from a place on that are two runs are each where it stands
pub two_runs : (at i j : ℕ) (s x y : List ℕ) → length x ≡ i → mid_of at (i + j) s ≡ x ++ y → (mid_of at i s ≡ x) × (mid_of (at + i) j s ≡ y)
two_runs at i j s x y l e = (
  sym (take-take i (i + j) (drop at s) (omega arith)) ∙ ap (take i) e ∙ take_at x y i l,
  get_behind i at j s ∙ ap (drop i) e ∙ drop_at x y i l,
)

-- a list table of w bytes a slot stands at a place: its count, and then its places
abbrev pub ListAt : {A : Type 0} → (w : ℕ) → (A → List ℕ) → (n at : ℕ) → List ℕ → List A → Type 0
ListAt w f n at s xs = (mid_of at count_size s ≡ u16 (length xs)) × (mid_of (at + count_size) (n * w) s ≡ places w f (front n xs))

pub list_at : {A : Type 0} (w : ℕ) (f : A → List ℕ) (n at : ℕ) (s : List ℕ) (xs : List A) → mid_of at (count_size + n * w) s ≡ counted w f n xs → ListAt w f n at s xs
list_at w f n at s xs e = two_runs at count_size (n * w) s (u16 (length xs)) (places w f (front n xs)) refl e

-- and behind it n bytes y
abbrev pub FollowedAt : {A : Type 0} → (w : ℕ) → (A → List ℕ) → (n at : ℕ) → List ℕ → List A → List ℕ → Type 0
FollowedAt w f n at s xs y = ListAt w f n at s xs × (mid_of (at + (count_size + n * w)) n s ≡ y)

pub followed_at : {A : Type 0} (w : ℕ) (f : A → List ℕ) → ((a : A) → length (f a) ≡ w) → (n at : ℕ) (s : List ℕ) (xs : List A) (y : List ℕ) → mid_of at (count_size + n * w + n) s ≡ counted w f n xs ++ y → FollowedAt w f n at s xs y
followed_at w f long n at s xs y e =
    let (a, b) = two_runs at (count_size + n * w) n s (counted w f n xs) y (counted_wide w f long n xs) e in
    (list_at w f n at s xs a, b)
