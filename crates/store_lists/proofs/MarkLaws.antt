-- Marks of the channels that a list has: how they are made, and what a delete by them does. Assumes nothing.
use Rattle.lists.proofs.Kit.{◌≡◌, refl, sym, ap, ap₂, ◌∙◌, subst, Bool, true, false, ◌≢◌, List, [], ◌∷◌, ◌++◌, map, option_some_injective, ℕ, zero, suc, ◌+◌, ◌*◌, ◌-◌, ◌≤◌, ◌<◌, ◌/◌, not-suc-le-zero, le_of_suc-le-suc, arith, eqb, eqb-true, eqb-false, ltb, ltb-true, ltb-false, length, drop, get_or, set, replicate, length-map, drop_at, get_or-set_same, get_or-set_other}
use lib.ListN.{get_or-append}
use Rattle.lists.specs.Every.{All}
use Rattle.lists.proofs.Every.{all_turn, all_both}
use Rattle.slots.specs.Slots.{flat, pad, u16, unless}
use Rattle.slots.proofs.Changes.{unless_absent, unless_gone}
use Rattle.slots.proofs.Tables.{unless_all}
use Rattle.counted_lists.specs.Counted.{Tried, Told}
use Rattle.counted_lists.proofs.CountLaws.{counted_length, count_fits}
use Rattle.counted_lists.proofs.ListLaws.{tried_room}
use Rattle.writing.specs.declared.Operation.TheVariants.{Delete}
use Rattle.writing.specs.Ranges.{InChannel}
use Rattle.settings.specs.declared.settings.Entries.{Entries}
use Rattle.tables.specs.Apply.{drop_channel, channel_step}
use Rattle.store_lists.specs.Lists.{ChannelTable, ChannelApplied, ChannelsApplied, Marked, OneMarked, MarkedDropped}
use Rattle.store_lists.proofs.ChannelLaws.{ChannelsDone}

-- ---- the channels of a list, read where they stand

-- the number in place k
abbrev pub at_place : List ℕ → ℕ → ℕ
at_place s k = get_or s (2 * k + 2) 0 * 256 + get_or s (2 * k + 3) 0

pair_in : (n : ℕ) (cs : List ℕ) (k : ℕ) → length cs ≤ n → k < length cs
    → get_or (flat (pad (replicate 2 0) n (map u16 cs))) (2 * k) 0 * 256 + get_or (flat (pad (replicate 2 0) n (map u16 cs))) (2 * k + 1) 0 ≡ get_or cs k 0
pair_in n [] k h l = absurd (not-suc-le-zero l)
pair_in zero (c ∷ cs) k h l = absurd (not-suc-le-zero h)
pair_in (suc n) (c ∷ cs) zero h l = omega arith
pair_in (suc n) (c ∷ cs) (suc k) h l =
    let g : List ℕ = flat (pad (replicate 2 0) (suc n) (map u16 (c ∷ cs))) in
    let a : 2 * suc k ≡ suc (suc (2 * k)) = omega arith in
    let b : 2 * suc k + 1 ≡ suc (suc (2 * k + 1)) = omega arith in
    ap₂ (λ (x y : ℕ). get_or g x 0 * 256 + get_or g y 0) a b ∙ pair_in n cs k (le_of_suc-le-suc h) (le_of_suc-le-suc l)

module _ (n : ℕ) (cs s : List ℕ) (t : ChannelTable n cs s) where
  place_is : (k : ℕ) → k < length cs → at_place s k ≡ get_or cs k 0
  place_is k l =
      let g : List ℕ = u16 (length (map u16 cs)) ++ flat (pad (replicate 2 0) n (map u16 cs)) in
      let a : 2 * k + 2 ≡ suc (suc (2 * k)) = omega arith in
      let b : 2 * k + 3 ≡ suc (suc (2 * k + 1)) = omega arith in
      ap (λ (l : List ℕ). at_place l k) t.counted.bytes ∙ ap₂ (λ (x y : ℕ). get_or g x 0 * 256 + get_or g y 0) a b
      ∙ pair_in n cs k (omega (arith, t.counted.few, length-map cs u16)) l

-- ---- marking

-- the channels up to place i are marked
abbrev pub MarkedTo : List ℕ → List ℕ → ℕ → Type 0
MarkedTo s marks i = (k : ℕ) → k < i → at_place s k < length marks → get_or marks (at_place s k) 0 ≢ 0

-- a mark is set
pub mark_set : (marks : List ℕ) (c : ℕ) → c < length marks → OneMarked c marks (set marks c 1)
mark_set marks c l = record { here = λ _ z. here z; kept = λ a h. go a h (eqb a c) refl }
  where
    here : get_or (set marks c 1) c 0 ≡ 0 → ⊥
    here z = let e : get_or (set marks c 1) c 0 ≡ 1 = get_or-set_same marks c 1 0 l in omega arith

    go : (a : ℕ) → get_or marks a 0 ≢ 0 → (b : Bool) → eqb a c ≡ b → get_or (set marks c 1) a 0 ≢ 0
    go a h true t z = here (ap (λ (x : ℕ). get_or (set marks c 1) x 0) (sym (eqb-true a c t)) ∙ z)
    go a h false t z = h (sym (get_or-set_other marks c a 1 0 (eqb-false a c t)) ∙ z)

-- there is none to set
pub mark_past : (marks : List ℕ) (c : ℕ) → length marks ≤ c → OneMarked c marks marks
mark_past marks c h = record { here = λ l. absurd (omega arith); kept = λ a k. k }

-- one more
pub marked_on : (s marks left : List ℕ) (i : ℕ) → MarkedTo s marks i → length left ≡ length marks → OneMarked (at_place s i) marks left → MarkedTo s left (i + 1)
marked_on s marks left i h e m k l b = go (ltb k i) refl
  where
    go : (d : Bool) → ltb k i ≡ d → get_or left (at_place s k) 0 ≢ 0
    go true t = m.kept (at_place s k) (h k (ltb-true k i t) (omega arith))
    go false t =
        let z : k ≡ i = omega (arith, ltb-false k i t) in
        let f : at_place s i < length marks = subst (λ (j : ℕ). at_place s j < length marks) z (omega arith) in
        subst (λ (j : ℕ). get_or left (at_place s j) 0 ≢ 0) (sym z) (m.here f)

all_by : (P : ℕ → Type 0) (xs : List ℕ) → ((k : ℕ) → k < length xs → P (get_or xs k 0)) → All P xs
all_by P [] h = tt
all_by P (x ∷ xs) h = (h 0 (omega arith), all_by P xs (λ k l. h (suc k) (omega arith)))

-- all are marked
pub marked_end : (s marks : List ℕ) (i held : ℕ) → Told s held → held ≤ i → MarkedTo s marks i → Marked s marks
marked_end s marks i held told h m n cs t = all_by (λ c. c < length marks → get_or marks c 0 ≢ 0) cs each
  where
    each : (k : ℕ) → k < length cs → get_or cs k 0 < length marks → get_or marks (get_or cs k 0) 0 ≢ 0
    each k l b =
        let e : at_place s k ≡ get_or cs k 0 = place_is n cs s t k l in
        let f : k < i = omega (arith, told.says 2 n (map u16 cs) t.counted, length-map cs u16) in
        subst (λ (x : ℕ). get_or marks x 0 ≢ 0) e (m k f (subst (λ (x : ℕ). x < length marks) (sym e) b))

-- s is no list
pub marked_short : (s marks : List ℕ) → length s < 2 → Marked s marks
marked_short s marks h n cs t = absurd (omega (arith, counted_length 2 n (map u16 cs) s t.counted))

pub marked_past : (s marks : List ℕ) (held : ℕ) → Told s held → 2 ≤ length s → (length s - 2) / 2 < held → Marked s marks
marked_past s marks held told l h n cs t =
    let e : held ≡ length (map u16 cs) = told.says 2 n (map u16 cs) t.counted in
    absurd (count_fits 2 n (map u16 cs) s t.counted (omega arith))

-- ---- deleting

-- a channel that is not marked is not there
pub unmarked : (c : ℕ) (s marks : List ℕ) → get_or marks c 0 ≡ 0 → MarkedDropped c s marks s marks
unmarked c s marks z n cs i l t h =
    let e : drop_channel c cs ≡ cs = unless_absent (λ a. eqb a c) cs (all_turn (λ a. get_or marks a 0 ≢ 0) (λ a. eqb a c ≡ false) (λ a p. other a p (eqb a c) refl) cs h) in
    (subst (λ (l : List ℕ). ChannelTable n l s) (sym e) t, subst (λ (l : List ℕ). All (λ a. get_or marks a 0 ≢ 0) l) (sym e) h)
  where
    other : (a : ℕ) → get_or marks a 0 ≢ 0 → (b : Bool) → eqb a c ≡ b → eqb a c ≡ false
    other a p true t = absurd (p (ap (λ (x : ℕ). get_or marks x 0) (eqb-true a c t) ∙ z))
    other a p false t = t

-- there is no mark for it, so it is no channel
pub no_mark : (c : ℕ) (s marks : List ℕ) → length marks ≤ c → MarkedDropped c s marks s marks
no_mark c s marks h n cs i l t k = absurd (omega arith)

-- a channel is taken out, and its mark away
pub unmark : (c : ℕ) (s t marks : List ℕ) → ChannelApplied Delete c s t true → MarkedDropped c s marks t (set marks c 0)
unmark c s t marks d n cs i l k h =
    let (u, e, is) = (d n cs k i).room refl in
    let p : ℕ → Bool = λ a. eqb a c in (
      subst (λ (l : List ℕ). ChannelTable n l t) (sym (option_some_injective (drop_channel c cs) u e)) is,
      all_both (λ a. get_or marks a 0 ≢ 0) (λ a. p a ≡ false) (λ a. get_or (set marks c 0) a 0 ≢ 0) other (drop_channel c cs)
          (unless_all (λ a. get_or marks a 0 ≢ 0) p cs h) (unless_gone p cs),
    )
  where
    other : (a : ℕ) → get_or marks a 0 ≢ 0 → eqb a c ≡ false → get_or (set marks c 0) a 0 ≢ 0
    other a q f z = q (sym (get_or-set_other marks c a 0 0 (eqb-false a c f)) ∙ z)

-- ---- the loop of deletes

-- bytes that are the marks, 641, and behind them the table
abbrev pub MarkedTable : ℕ → List ℕ → List ℕ → Type 0
MarkedTable n cs l = ChannelTable n cs (drop 641 l) × All (λ a. get_or l a 0 ≢ 0) cs

module _ (n : ℕ) (cs marks t : List ℕ) (long : length marks ≡ 641) where
  together : ChannelTable n cs t → All (λ a. get_or marks a 0 ≢ 0) cs → MarkedTable n cs (marks ++ t)
  together k h = (
    subst (ChannelTable n cs) (sym (drop_at marks t 641 long)) k,
    all_both InChannel (λ a. get_or marks a 0 ≢ 0) (λ a. get_or (marks ++ t) a 0 ≢ 0) (λ a i q z. q (sym (get_or-append marks t 0 a (omega arith)) ∙ z)) cs k.each h,
  )

  table_of : MarkedTable n cs (marks ++ t) → ChannelTable n cs t
  table_of k = subst (ChannelTable n cs) (drop_at marks t 641 long) k.0

  marks_of : MarkedTable n cs (marks ++ t) → All (λ a. get_or marks a 0 ≢ 0) cs
  marks_of k =
      all_both InChannel (λ a. get_or (marks ++ t) a 0 ≢ 0) (λ a. get_or marks a 0 ≢ 0) (λ a i q z. q (get_or-append marks t 0 a (omega arith) ∙ z)) cs k.0.each k.1

-- a turn
pub marked_turn : (c : ℕ) (s marks t left : List ℕ) → length marks ≡ 641 → length left ≡ 641 → MarkedDropped c s marks t left
    → (n : ℕ) (cs : List ℕ) → MarkedTable n cs (marks ++ s) → InChannel c → Tried (MarkedTable n) (channel_step n Delete c cs) (left ++ t) true
marked_turn c s marks t left a b d n cs k i =
    let (x, y) = d n cs i (omega arith) (table_of n cs marks s a k) (marks_of n cs marks s a k) in
    tried_room (MarkedTable n) (drop_channel c cs) refl (together n (drop_channel c cs) left t b x y)

-- at the end
pub marked_done : (m : List ℕ) (p : Entries) (s marks t left : List ℕ) → length marks ≡ 641 → length left ≡ 641 → Marked s marks
    → ChannelsDone MarkedTable Delete m p (marks ++ s) (left ++ t) true → ChannelsApplied Delete m p s t true
marked_done m p s marks t left a b q d n cs ns k e i =
    let h : All (λ c. get_or marks c 0 ≢ 0) cs = all_both InChannel (λ c. c < length marks → get_or marks c 0 ≢ 0) (λ c. get_or marks c 0 ≢ 0) (λ c j f. f (omega arith)) cs k.each (q n cs k) in
    let (u, z, is) = (d n cs ns (together n cs marks s a k h) e i).room refl in
    tried_room (ChannelTable n) u z (table_of n u left t b is)
