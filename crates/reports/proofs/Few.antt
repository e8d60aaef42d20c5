-- FEW MESSAGES: a handheld never needs more than 231. Assumes nothing.
use Prim.Native.Nat.{ℕ, suc, ◌+◌, ◌*◌, ◌%◌, ◌≤◌, ◌<◌}
use mathlib.Core.Path.{◌≡◌, refl, ap}
use mathlib.Core.Bool.{Bool, true, false, cond, ◌&&◌, true≢false}
use mathlib.Core.List.{List, [], ◌∷◌, ◌++◌}
use mathlib.Core.Option.{Option, none, some}
use native.Mathlib.Nat.{mod-lt, mul-le-mul_right}
use native.Mathlib.Omega.{arith}
use borrow.Author.Tests.{ltb-true, ltb-false}
use lib.Dec.{ltb}
use lib.ListN.{length, length-map}
use Rattle.lists.specs.Every.{All}
use Rattle.lists.proofs.Every.{all_turn, all_map}
use Rattle.writing.specs.Ranges.{InChannel}
use Rattle.writing.specs.Settings.{Text}
use Rattle.tables.specs.Allowed.{Allowed, QuickOk, StatusOk, GroupOk, IndividualOk, LineOk}
use Rattle.tables.specs.Limits.{handheld}
use Rattle.tables.specs.Tables.{Tables}
use Rattle.reports.specs.declared.Asked.{Asked}
use Rattle.reports.specs.declared.Asked.TheVariants.{Groups, Individuals, Lines, Key as AKey, QuickTexts, Home, Channels, System, StatusTexts, Hash as AHash}
use Rattle.export_write.specs.EntrySettings.{entries}
use Rattle.reports.specs.Asked.{numbered, quick_item, status_item, kept_hash, items_of, then_more, asked}
use Rattle.reports.specs.Cut.{into, fits?, split, item_size, messages}
use Rattle.reports.specs.Items.{Item, group, individual, line, key, home, channel, system, hash, unknown, InItem, most}
use Rattle.reports.specs.Types.{asked_by}
use Rattle.reports.proofs.AskedLaws.{Placed, entries_in, asked_in, items_in}
use Rattle.reports.specs.Contents.{Contents, make}
use Rattle.reports.proofs.Sizes.{item_length, type_length}
use Rattle.reports.proofs.SplitLaws.{onto_length, after, split_some}

abbrev pub weights : {A : Type 0} → (A → ℕ) → List A → ℕ
weights weight [] = 0
weights weight (a ∷ l) = weight a + weights weight l

-- 4,086 bytes and 255 parameters to a message, no parameter over 51 bytes: a message that is left closed weighs 4,036 x 255
module _ {A : Type 0} (size weight : A → ℕ) where
  pub record Light (a : A) : Type 0 where
    pub small : size a ≤ 51
    pub wide : 255 * size a ≤ weight a
    pub heavy : 4036 ≤ weight a

  closed : (used count : ℕ) (a : A) (b c : Bool) → size a ≤ 51 → ltb count 255 ≡ b → ltb (used + size a) 4087 ≡ c → (b && c) ≡ false → (φ : ℕ)
      → 255 * used ≤ φ → 4036 * count ≤ φ → 1029180 ≤ φ
  closed used count a true true s p q e φ h k = absurd (true≢false e)
  closed used count a true false s p q e φ h k = omega (arith, ltb-false (used + size a) 4087 q)
  closed used count a false c s p q e φ h k = omega (arith, ltb-false count 255 p)

  few : (used count φ : ℕ) (l : List A) → All Light l → 255 * used ≤ φ → 4036 * count ≤ φ
      → length (split size 4086 255 used count l) * 1029180 ≤ 1029180 + (weights weight l + φ)
  few used count φ [] p h k = omega arith
  few used count φ (a ∷ l) p h k = go (fits? size 4086 255 used count a) refl (λ u n ψ x y. few u n ψ l p.1 x y)
    where
      go : (b : Bool) → fits? size 4086 255 used count a ≡ b
          → ((u n ψ : ℕ) → 255 * u ≤ ψ → 4036 * n ≤ ψ → length (split size 4086 255 u n l) * 1029180 ≤ 1029180 + (weights weight l + ψ))
          → length (into b a (after size 4086 255 b used count a l)) * 1029180 ≤ 1029180 + ((weight a + weights weight l) + φ)
      go true e more =
          let i = more (used + size a) (suc count) (φ + weight a) (omega (arith, p.0.wide)) (omega (arith, p.0.heavy)) in
          omega (arith, i, onto_length a (after size 4086 255 true used count a l) (split_some size 4086 255 (used + size a) (suc count) l))
      go false e more =
          let full = closed used count a (ltb count 255) (ltb (used + size a) 4087) p.0.small refl refl e φ h k in
          let i = more (size a) 1 (weight a) p.0.wide (omega (arith, p.0.heavy)) in
          omega (arith, i, full, onto_length a (after size 4086 255 false used count a l) (split_some size 4086 255 (size a) 1 l))

-- ---- what each type weighs

weight_of : ℕ → ℕ
weight_of n = cond (ltb 15 n) (255 * n) 4036

weight_light : (n : ℕ) → (255 * n ≤ weight_of n) × (4036 ≤ weight_of n)
unfolding weight_of
weight_light n = go (ltb 15 n) refl
  where
    go : (b : Bool) → ltb 15 n ≡ b → (255 * n ≤ cond b (255 * n) 4036) × (4036 ≤ cond b (255 * n) 4036)
    go true e = (omega arith, omega (arith, ltb-true 15 n e))
    go false e = (omega (arith, ltb-false 15 n e), omega arith)

weight_most : (n k : ℕ) → n ≤ k → 16 ≤ k → weight_of n ≤ 255 * k
unfolding weight_of
weight_most n k h o = go (ltb 15 n) refl
  where
    go : (b : Bool) → ltb 15 n ≡ b → cond b (255 * n) 4036 ≤ 255 * k
    go true e = omega arith
    go false e = omega arith

weight_low : (n : ℕ) → n ≤ 15 → weight_of n ≤ 4036
unfolding weight_of
weight_low n h = go (ltb 15 n) refl
  where
    go : (b : Bool) → ltb 15 n ≡ b → cond b (255 * n) 4036 ≤ 4036
    go true e = omega (arith, ltb-true 15 n e)
    go false e = omega arith

weight : Item → ℕ
weight i = weight_of (item_size i)

item_light : (i : Item) → InItem i → Light item_size weight i
unfolding weight
item_light i p = let w = weight_light (item_size i) in record { small = (item_length i p).1; wide = w.0; heavy = w.1 }

-- by its type
long : (k : Asked) (x : Contents k) → InItem (make k x) → 16 ≤ most k → weight (make k x) ≤ 255 * most k
unfolding weight
long k x p o = weight_most (item_size (make k x)) (most k) (type_length k x p).1 o

short : (k : Asked) (x : Contents k) → InItem (make k x) → most k ≤ 15 → weight (make k x) ≤ 4036
unfolding weight
short k x p o = weight_low (item_size (make k x)) (omega (arith, (type_length k x p).1))

-- so many, none heavier than w
weights_most : (w : ℕ) (l : List Item) → All (λ i. weight i ≤ w) l → weights weight l ≤ length l * w
weights_most w [] p = omega arith
weights_most w (i ∷ l) p = omega (arith, p.0, weights_most w l p.1)

weights_append : (a b : List Item) → weights weight (a ++ b) ≡ weights weight a + weights weight b
weights_append [] b = omega arith
weights_append (i ∷ a) b = omega (arith, weights_append a b)

numbered_length : {A : Type 0} (room : ℕ) (f : ℕ → A → Item) (i : ℕ) (l : List A) → length (numbered room f i l) ≡ length l
numbered_length room f i [] = refl
numbered_length room f i (a ∷ l) = ap suc (numbered_length room f (suc i) l)

entries_length : (i : ℕ) (os : List (Option Text)) → length (entries i os) ≤ length os
entries_length i [] = omega arith
entries_length i (none ∷ os) = omega (arith, entries_length (suc i) os)
entries_length i (some us ∷ os) = omega (arith, entries_length (suc i) os)

module _ (w n : ℕ) (l : List Item) where
  at_most : length l ≤ n → All (λ i. weight i ≤ w) l → n * w ≤ 930240 → weights weight l ≤ 930240
  at_most h p k = omega (arith, weights_most w l p, mul-le-mul_right w h)

numbered_all : {A : Type 0} (P : A → Type 0) (Q : Item → Type 0) (room : ℕ) (f : ℕ → A → Item) → 0 < room → ((p : ℕ) (a : A) → p < room → P a → Q (f p a))
    → (from : ℕ) (l : List A) → All P l → All Q (numbered room f from l)
numbered_all P Q room f o h from [] p = tt
numbered_all P Q room f o h from (a ∷ l) p = (h (from % room) a (mod-lt from o) p.0, numbered_all P Q room f o h (suc from) l p.1)

-- 96 status texts of 38 bytes weigh most
type_weight : (t : Tables) → Allowed handheld t → (a : Asked) → weights weight (items_of t a) ≤ 930240
type_weight t h Groups =
    at_most 10455 64 (items_of t Groups) (omega (arith, numbered_length 16 group 0 t.group_contacts, h.group_contacts.0))
    (numbered_all GroupOk (λ i. weight i ≤ 10455) 16 group (omega arith) (λ p a l q. long Groups (p, a) (l, q) (omega arith)) 0 t.group_contacts h.group_contacts.1) (omega arith)
type_weight t h Individuals =
    at_most 10200 64 (items_of t Individuals) (omega (arith, numbered_length 16 individual 0 t.individual_contacts, h.individual_contacts.0))
    (numbered_all IndividualOk (λ i. weight i ≤ 10200) 16 individual (omega arith) (λ p a l q. long Individuals (p, a) (l, q) (omega arith)) 0 t.individual_contacts h.individual_contacts.1) (omega arith)
type_weight t h Lines =
    at_most 12240 32 (items_of t Lines) (omega (arith, numbered_length 16 line 0 t.lines, h.lines.0))
    (numbered_all LineOk (λ i. weight i ≤ 12240) 16 line (omega arith) (λ p a l q. long Lines (p, a) (l, q) (omega arith)) 0 t.lines h.lines.1) (omega arith)
type_weight t h AKey = omega (arith, short AKey t.key h.key (omega arith))
type_weight t h QuickTexts =
    at_most 13005 64 (items_of t QuickTexts) (omega (arith, length-map (entries 0 t.quick) quick_item, entries_length 0 t.quick, h.quick.0))
    (all_map (Placed QuickOk 0 64) (λ i. weight i ≤ 13005) quick_item (λ e q. long QuickTexts (e.index, e.text) (q.high, q.text) (omega arith)) (entries 0 t.quick)
    (entries_in QuickOk 0 64 t.quick (omega (arith, h.quick.0)) h.quick.1)) (omega arith)
type_weight t h Home = omega (arith, short Home t.home h.home (omega arith))
type_weight t h Channels =
    at_most 4036 64 (items_of t Channels) (omega (arith, numbered_length 4096 (λ p n. channel n p) 0 t.channels, h.channels.0))
    (numbered_all InChannel (λ i. weight i ≤ 4036) 4096 (λ p n. channel n p) (omega arith) (λ p a l q. short Channels (a, p) (q, l) (omega arith)) 0 t.channels h.channels.1) (omega arith)
type_weight t h System = omega (arith, short System t.system h.system (omega arith))
type_weight t h StatusTexts =
    at_most 9690 96 (items_of t StatusTexts)
    (omega (arith, numbered_length 256 status_item 0 (entries 32 t.status), entries_length 32 t.status, h.status.0))
    (numbered_all (Placed StatusOk 32 128) (λ i. weight i ≤ 9690) 256 status_item (omega arith)
    (λ p e l q. long StatusTexts (e.index, p, e.text) (q.low, omega (arith, q.high), l, q.text) (omega arith)) 0 (entries 32 t.status)
    (entries_in StatusOk 32 128 t.status (omega (arith, h.status.0)) h.status.1)) (omega arith)
type_weight t h AHash = omega (arith, short AHash (kept_hash t.hash) (items_in handheld t h AHash).0 (omega arith))

error_weight : (b : ℕ) → weight (unknown b) ≤ 4036
unfolding weight
error_weight b = weight_low (item_size (unknown b)) (omega arith)

asked_weight : (t : Tables) → Allowed handheld t → (types : List ℕ) → weights weight (asked t types) ≤ length types * 930240
asked_weight t h [] = omega arith
asked_weight t h (b ∷ l) = go (asked_by b) (asked_weight t h l)
  where
    go : (o : Option Asked) → weights weight (asked t l) ≤ length l * 930240 → weights weight (then_more t b o (asked t l)) ≤ suc (length l) * 930240
    go none q = omega (arith, error_weight b)
    go (some a) q = omega (arith, weights_append (items_of t a) (asked t l), type_weight t h a)

-- FEW MESSAGES: every query of every handheld is answered by at most 231
pub few_messages : (t : Tables) (types : List ℕ) → Allowed handheld t → All (◌< 256) types → length types ≤ 255
    → length (messages handheld t types) ≤ 231
unfolding messages
few_messages t types h b l =
    let p : All (Light item_size weight) (asked t types) = all_turn InItem (Light item_size weight) item_light (asked t types) (asked_in handheld t h types b) in
    omega (arith, few item_size weight 0 0 0 (asked t types) p (omega arith) (omega arith), asked_weight t h types)
