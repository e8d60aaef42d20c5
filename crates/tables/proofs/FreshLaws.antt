-- A fresh store: it is allowed, and what its bytes are. Assumes nothing.
use Rattle.lists.proofs.Kit.{ℕ, ◌+◌, ◌*◌, ◌-◌, ◌≤◌, ◌≡◌, refl, sym, ap, ap₂, ◌∙◌, List, [], ◌∷◌, ◌++◌, map, Option, none, arith, put_mid, length, set, replicate, length-replicate, replicate-append-replicate}
use Rattle.lists.specs.Every.{All}
use Rattle.lists.proofs.Every.{all_replicate}
use Rattle.slots.specs.Slots.{flat, places, front, u16, Present, sum}
use Rattle.slots.proofs.Pads.{pad_nil}
use Rattle.slots.proofs.Parts.{flat_zeros, parts_put}
use Rattle.slots.proofs.Tables.{front_nil, places_nil}
use Rattle.writing.specs.Ranges.{no_hash as hash_0}
use Rattle.tables.specs.declared.limits.Limits.{Limits}
use Rattle.tables.specs.Allowed.{Allowed, QuickOk, StatusOk, GroupOk, IndividualOk, LineOk}
use Rattle.tables.specs.Forms.{Roomy}
use Rattle.tables.specs.Layout.{count_size, counted, ordered, regions, placed_layout, used_size, quick_bytes, status_bytes, group_bytes, individual_bytes, line_bytes, quick_width, status_width, member_width, channel_width, line_width, key_at, key_size}
use Rattle.tables.specs.Limits.{quick_places, status_places, slot_places, contact_places}
use Rattle.tables.specs.declared.limits.Texts.{Texts}
use Rattle.tables.specs.declared.limits.Texts.TheVariants.{Placed, Shared}
use Rattle.tables.specs.Tables.{fresh}
use Rattle.tables.specs.Texts.{TextRoom}
use Rattle.tables.proofs.Frames.{all_widths}

-- a table with n empty places
pub empty_table : {A : Type 0} (P : A → Type 0) (n : ℕ) → (length (replicate {A = Option A} n none) ≡ n) × All (Present P) (replicate n none)
empty_table {A = A} P n = (length-replicate {A = Option A} n none, all_replicate (Present P) n none tt)

-- no text has room anywhere
no_texts : (x : Texts) → TextRoom x 0
no_texts Placed = tt
no_texts (Shared a) = omega arith

-- FRESH-ALLOWED: a fresh store is one of any set
pub fresh_allowed : (lim : Limits) → Allowed lim fresh
fresh_allowed lim =
    record {
      hash = record { size = hash_0; bytes = tt };
      key = tt;
      home = record { nzi = omega arith; np = omega arith };
      system = record { lai = omega arith; la = omega arith; roaming = omega arith };
      quick = empty_table QuickOk quick_places;
      status = empty_table StatusOk status_places;
      groups = empty_table GroupOk slot_places;
      individuals = empty_table IndividualOk slot_places;
      line_slots = empty_table LineOk slot_places;
      group_contacts = (omega arith, tt);
      distinct_groups = tt;
      individual_contacts = (omega arith, tt);
      distinct_individuals = tt;
      channels = (omega arith, tt);
      lines = (omega arith, tt);
      distinct = tt;
      texts = no_texts lim.texts;
    }

-- a list table with no entry is zeros
pub list_zeros : {A : Type 0} (w : ℕ) (f : A → List ℕ) (n : ℕ) → counted w f n [] ≡ replicate (count_size + n * w) 0
list_zeros w f n = ap (λ (l : List ℕ). u16 0 ++ l) (ap (places w f) (front_nil n) ∙ places_nil w f n) ∙ replicate-append-replicate count_size (n * w) 0

-- and so is that of no line, with its order
lines_zeros : (n : ℕ) → ordered n [] ≡ replicate (count_size + n * line_width + n) 0
lines_zeros n = ap₂ (λ (x y : List ℕ). x ++ y) (list_zeros line_width line_bytes n) (pad_nil 0 n) ∙ replicate-append-replicate (count_size + n * line_width) n 0

-- the regions of a fresh store are zeros, the key aside
fresh_regions : (lim : Limits) → regions lim fresh ≡ set (map (λ w. replicate w 0) (all_widths lim)) 1 (16 ∷ 0 ∷ 0 ∷ 0 ∷ [])
fresh_regions lim =
    let q = places_nil quick_width quick_bytes quick_places in
    let s = places_nil status_width status_bytes status_places in
    let g = places_nil member_width group_bytes slot_places in
    let j = places_nil member_width individual_bytes slot_places in
    let d = places_nil line_width line_bytes slot_places in
    let a = list_zeros member_width group_bytes contact_places in
    let b = list_zeros member_width individual_bytes contact_places in
    let c = list_zeros channel_width u16 lim.channels in
    let l = lines_zeros lim.lines in
    (λ i.
    replicate 11 0 ∷ (16 ∷ 0 ∷ 0 ∷ 0 ∷ []) ∷ replicate 4 0 ∷ replicate 3 0 ∷ q i ∷ s i ∷ g i ∷ j i ∷ d i ∷ a i ∷ b i ∷ c i ∷ l i
    ∷ replicate (lim.size - used_size lim) 0 ∷ [])

-- a byte among zeros
pub one_byte : (n : ℕ) → 15 ≤ n → put_mid {X = ℕ} 11 4 (replicate n 0) (16 ∷ 0 ∷ 0 ∷ 0 ∷ []) ≡ set (replicate n 0) 11 16
one_byte n h =
    let e : n ≡ 15 + (n - 15) = omega arith in
    let z : replicate {A = ℕ} n 0 ≡ replicate 15 0 ++ replicate (n - 15) 0 = ap (λ (k : ℕ). replicate k 0) e ∙ sym (replicate-append-replicate 15 (n - 15) 0) in
    rw z

-- regions of zeros fill the store with zeros
zeros_fill : (lim : Limits) → Roomy lim → flat (map (λ w. replicate w 0) (all_widths lim)) ≡ replicate lim.size 0
zeros_fill lim r =
    let e : sum (all_widths lim) ≡ lim.size = omega (arith, r.fits) in
    flat_zeros (all_widths lim) ∙ ap (λ (k : ℕ). replicate k 0) e

-- FRESH-PLACED-LAYOUT: it is all zeros, but for the key's flags, which say current
pub fresh_placed_layout : (lim : Limits) → Roomy lim → placed_layout lim fresh ≡ set (replicate lim.size 0) 11 16
unfolding placed_layout
fresh_placed_layout lim r =
    let zs : List (List ℕ) = map (λ w. replicate w 0) (all_widths lim) in
    ap flat (fresh_regions lim)
    ∙ sym (parts_put zs (map length zs) refl 1 (omega arith) (16 ∷ 0 ∷ 0 ∷ 0 ∷ []))
    ∙ ap (λ (l : List ℕ). put_mid key_at key_size l (16 ∷ 0 ∷ 0 ∷ 0 ∷ [])) (zeros_fill lim r)
    ∙ one_byte lim.size (omega (arith, r.fits))
