-- The list of channels with no table: how often one is there, how many there are, and which. Assumes nothing.
use Rattle.lists.proofs.Kit.{ℕ, suc, ◌+◌, ◌-◌, ◌≤◌, ◌≡◌, refl, sym, ap, ◌∙◌, Bool, true, false, not, cond, List, [], ◌∷◌, ◌++◌, append_assoc, append-nil, Option, none, some, option_some_injective, option_none_ne_some, arith, eqb-true, eq-eqb, eqb, ltb, length, length-append}
use mathlib.Core.Option.{map}
use Rattle.slots.specs.Slots.{unless}
use Rattle.slots.proofs.Changes.{unless_append}
use Rattle.tables.specs.Apply.{and_then, in_turn, drop_channel}
use Rattle.tables.proofs.RoomSentences.{turn_append}
use Rattle.events.specs.Events.{Event, clear, put, remove}
use Rattle.events.specs.Channels.{channel_do, channels_left, often, often_step, often_on, channel_count_step, channel_count_on, stays, living}
use Rattle.events.proofs.Finding.{clash, either_way}

-- ---- how often

-- one at the end
often_more : (n c : ℕ) (cs : List ℕ) → often n (cs ++ (c ∷ [])) ≡ cond (eqb c n) (suc (often n cs)) (often n cs)
often_more n c [] = refl
often_more n c (x ∷ cs) = go (eqb x n) (eqb c n) (often_more n c cs)
  where
    go : (a b : Bool) → often n (cs ++ (c ∷ [])) ≡ cond b (suc (often n cs)) (often n cs)
        → cond a (suc (often n (cs ++ (c ∷ [])))) (often n (cs ++ (c ∷ []))) ≡ cond b (suc (cond a (suc (often n cs)) (often n cs))) (cond a (suc (often n cs)) (often n cs))
    go true true e = ap suc e
    go true false e = ap suc e
    go false true e = e
    go false false e = e

-- the number that is taken out is there no more, and the others as often as before
often_drop : (n k : ℕ) (cs : List ℕ) → often n (drop_channel k cs) ≡ cond (eqb k n) 0 (often n cs)
often_drop n k [] = sym (either_way (eqb k n) 0)
often_drop n k (x ∷ cs) = go (eqb x k) refl (eqb x n) refl (eqb k n) refl (often_drop n k cs)
  where
    go : (a : Bool) → eqb x k ≡ a → (b : Bool) → eqb x n ≡ b → (c : Bool) → eqb k n ≡ c → often n (drop_channel k cs) ≡ cond c 0 (often n cs)
        → often n (cond a (drop_channel k cs) (x ∷ drop_channel k cs)) ≡ cond c 0 (cond b (suc (often n cs)) (often n cs))
    go true p true q true r e = e
    go true p true q false r e = absurd (clash (eq-eqb k n (sym (eqb-true x k p) ∙ eqb-true x n q)) r)
    go true p false q true r e = e
    go true p false q false r e = e
    go false p true q true r e = absurd (clash (eq-eqb x k (eqb-true x n q ∙ sym (eqb-true k n r))) p)
    go false p true q false r e = rw q (ap suc e)
    go false p false q true r e = rw q e
    go false p false q false r e = rw q e

-- taking a number out takes it out as often as it is there
pub channel_fewer : (k : ℕ) (cs : List ℕ) → length (drop_channel k cs) ≡ length cs - often k cs
channel_fewer k cs = omega (arith, go cs)
  where
    go : (ds : List ℕ) → length (drop_channel k ds) + often k ds ≡ length ds
    go [] = refl
    go (x ∷ ds) = by (eqb x k) (go ds)
      where
        by : (b : Bool) → length (drop_channel k ds) + often k ds ≡ length ds → length (cond b (drop_channel k ds) (x ∷ drop_channel k ds)) + cond b (suc (often k ds)) (often k ds) ≡ suc (length ds)
        by true e = omega arith
        by false e = omega arith

-- no channel is there more often than there are channels
pub often_few : (k : ℕ) (cs : List ℕ) → often k cs ≤ length cs
often_few k [] = omega arith
often_few k (x ∷ cs) = go (eqb x k) (often_few k cs)
  where
    go : (b : Bool) → often k cs ≤ length cs → cond b (suc (often k cs)) (often k cs) ≤ suc (length cs)
    go true h = omega arith
    go false h = omega arith

-- ---- which are taken out

-- none
all_stay : (cs : List ℕ) → unless (λ c. false) cs ≡ cs
all_stay [] = refl
all_stay (c ∷ cs) = ap (λ (l : List ℕ). c ∷ l) (all_stay cs)

-- all
all_go : (cs : List ℕ) → unless (λ c. true) cs ≡ []
all_go [] = refl
all_go (c ∷ cs) = all_go cs

-- those of a number, and then others
two_ways : (k : ℕ) (s : ℕ → Bool) (cs : List ℕ) → unless (λ c. not (s c)) (drop_channel k cs) ≡ unless (λ c. not (cond (eqb c k) false (s c))) cs
two_ways k s [] = refl
two_ways k s (c ∷ cs) = go (eqb c k) (two_ways k s cs)
  where
    go : (b : Bool) → unless (λ x. not (s x)) (drop_channel k cs) ≡ unless (λ x. not (cond (eqb x k) false (s x))) cs
        → unless (λ x. not (s x)) (cond b (drop_channel k cs) (c ∷ drop_channel k cs))
        ≡ cond (not (cond b false (s c))) (unless (λ x. not (cond (eqb x k) false (s x))) cs) (c ∷ unless (λ x. not (cond (eqb x k) false (s x))) cs)
    go true e = e
    go false e = ap (λ (l : List ℕ). cond (not (s c)) l (c ∷ l)) e

-- ---- events with room

module _ (room : ℕ) where
  -- one event more
  often_next : (n : ℕ) (v : Event ℕ ℕ) (cs ds : List ℕ) → channel_do room v cs ≡ some ds → often_step n v (often n cs) ≡ often n ds
  often_next n clear cs ds e = ap (often n) (option_some_injective [] ds e)
  often_next n (put m c) cs ds e = go (ltb (length cs) room) e
    where
      go : (b : Bool) → cond b (some (cs ++ (c ∷ []))) none ≡ some ds → cond (eqb c n) (suc (often n cs)) (often n cs) ≡ often n ds
      go true e = sym (often_more n c cs) ∙ ap (often n) (option_some_injective (cs ++ (c ∷ [])) ds e)
      go false e = absurd (option_none_ne_some ds e)
  often_next n (remove k) cs ds e = sym (often_drop n k cs) ∙ ap (often n) (option_some_injective (drop_channel k cs) ds e)

  -- after any events that had room, a channel is there as often as reading the events says
  pub often_is : (n : ℕ) (es : List (Event ℕ ℕ)) (cs ds : List ℕ) → channels_left room es cs ≡ some ds → often_on n es (often n cs) ≡ often n ds
  often_is n [] cs ds e = ap (often n) (option_some_injective cs ds e)
  often_is n (v ∷ es) cs ds e = go (channel_do room v cs) refl e (λ k. often_is n es k ds)
    where
      go : (o : Option (List ℕ)) → channel_do room v cs ≡ o → and_then o (in_turn (channel_do room) es) ≡ some ds
          → ((k : List ℕ) → channels_left room es k ≡ some ds → often_on n es (often n k) ≡ often n ds) → often_on n es (often_step n v (often n cs)) ≡ often n ds
      go none h e r = absurd (option_none_ne_some ds e)
      go (some k) h e r = ap (often_on n es) (often_next n v cs k h) ∙ r k e

  -- ---- how many

  -- the events that were read left cs
  module _ (read : List (Event ℕ ℕ)) (cs : List ℕ) (left : channels_left room read [] ≡ some cs) where
    -- one event more
    count_next : (v : Event ℕ ℕ) → channel_count_step room read v (length cs) ≡ map length (channel_do room v cs)
    count_next clear = refl
    count_next (put n c) = go (ltb (length cs) room)
      where
        go : (b : Bool) → cond b (some (suc (length cs))) none ≡ map length (cond b (some (cs ++ (c ∷ []))) none)
        go true = ap some (omega (arith, length-append cs (c ∷ [])))
        go false = refl
    count_next (remove k) = ap some (ap (λ (i : ℕ). length cs - i) (often_is k read [] cs left) ∙ sym (channel_fewer k cs))

    -- and one more
    read_on : (v : Event ℕ ℕ) (ds : List ℕ) → channel_do room v cs ≡ some ds → channels_left room (read ++ (v ∷ [])) [] ≡ some ds
    read_on v ds e = turn_append (channel_do room) read (v ∷ []) [] ∙ ap (λ o. and_then o (in_turn (channel_do room) (v ∷ []))) left ∙ ap (λ o. and_then o (in_turn (channel_do room) [])) e

  -- the count is kept, and says when there is no room
  pub channel_count_is : (es read : List (Event ℕ ℕ)) (cs : List ℕ) → channels_left room read [] ≡ some cs → channel_count_on room read es (length cs) ≡ map length (channels_left room es cs)
  channel_count_is [] read cs left = refl
  channel_count_is (v ∷ es) read cs left =
      ap (λ o. and_then o (channel_count_on room (read ++ (v ∷ [])) es)) (count_next read cs left v)
      ∙ go (channel_do room v cs) refl (λ k e. channel_count_is es (read ++ (v ∷ [])) k (read_on read cs left v k e))
    where
      go : (o : Option (List ℕ)) → channel_do room v cs ≡ o
          → ((k : List ℕ) → channel_do room v cs ≡ some k → channel_count_on room (read ++ (v ∷ [])) es (length k) ≡ map length (channels_left room es k))
          → and_then (map length o) (channel_count_on room (read ++ (v ∷ [])) es) ≡ map length (and_then o (in_turn (channel_do room) es))
      go none e r = refl
      go (some k) e r = r k e

  -- from an empty list
  pub channel_count : (es : List (Event ℕ ℕ)) → channel_count_on room [] es 0 ≡ map length (channels_left room es [])
  channel_count es = channel_count_is es [] [] refl

  -- ---- which

  -- the channels that the events leave of those that were there, and then those that were put and left
  pub channels_living : (es : List (Event ℕ ℕ)) (cs ds : List ℕ) → channels_left room es cs ≡ some ds → ds ≡ unless (λ c. not (stays c es)) cs ++ living es
  channels_living [] cs ds e = sym (option_some_injective cs ds e) ∙ sym (append-nil (unless (λ c. false) cs) ∙ all_stay cs)
  channels_living (clear ∷ es) cs ds e = channels_living es [] ds e ∙ ap (λ (l : List ℕ). l ++ living es) (sym (all_go cs))
  channels_living (put n c ∷ es) cs ds e = go (ltb (length cs) room) e (channels_living es (cs ++ (c ∷ [])) ds)
    where
      p : ℕ → Bool
      p x = not (stays x es)

      by : (b : Bool) → cond (not b) [] (c ∷ []) ++ living es ≡ cond b (c ∷ living es) (living es)
      by true = refl
      by false = refl

      go : (b : Bool) → and_then (cond b (some (cs ++ (c ∷ []))) none) (in_turn (channel_do room) es) ≡ some ds
          → (channels_left room es (cs ++ (c ∷ [])) ≡ some ds → ds ≡ unless p (cs ++ (c ∷ [])) ++ living es) → ds ≡ unless p cs ++ cond (stays c es) (c ∷ living es) (living es)
      go true e r =
          r e ∙ ap (λ (l : List ℕ). l ++ living es) (unless_append p cs (c ∷ [])) ∙ append_assoc (unless p cs) (unless p (c ∷ [])) (living es) ∙ ap (λ (l : List ℕ). unless p cs ++ l) (by (stays c es))
      go false e r = absurd (option_none_ne_some ds e)
  channels_living (remove k ∷ es) cs ds e = channels_living es (drop_channel k cs) ds e ∙ ap (λ (l : List ℕ). l ++ living es) (two_ways k (λ c. stays c es) cs)
