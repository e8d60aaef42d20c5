-- A setting tried by numbers: what its table weighs after it, and the sum of texts. Assumes nothing.
use Rattle.lists.proofs.Kit.{ℕ, ◌+◌, ◌-◌, ◌*◌, ◌≤◌, ◌<◌, ◌≡◌, refl, sym, ap, ap₂, ◌∙◌, subst, List, ◌++◌, Option, none, some, inl, inr, arith, length, get_or}
use mathlib.Core.Option.{map}
use Rattle.writing.specs.declared.Coding.{Coding}
use Rattle.writing.specs.declared.Kind.{Kind}
use Rattle.writing.specs.Canonical.{Fits}
use Rattle.writing.specs.Ranges.{text_limits, InRange}
use Rattle.writing.specs.Settings.{Setting, kind}
use Rattle.settings.specs.declared.settings.Setting.{Setting as SettingRead}
use Rattle.settings.specs.Meant.{Meant}
use Rattle.tables.specs.declared.limits.Texts.TheVariants.{Shared}
use Rattle.tables.specs.Apply.{change}
use Rattle.tables.specs.Limits.{handheld}
use Rattle.tables.specs.Owns.{own}
use Rattle.tables.specs.Tables.{Tables}
use Rattle.tables.specs.Texts.{text_size, text_sum}
use Rattle.shared_texts.proofs.RoomLaws.{no_room_exactly, apply_exactly, sum_changed}
use Rattle.shared_texts.proofs.Sums.{size_part}
use Rattle.std.specs.Prelude.{Some, None}
use Rattle.requests.specs.Trying.{read_kind, HeldAfter}
use Rattle.requests.proofs.TryLaws.{meant_kind}
use Rattle.events.specs.Deeds.{deeds}
use Rattle.events.specs.Deeds as D
use Rattle.events.specs.Knowing.{Telling, weight_of, weigh_all}
use Rattle.events.specs.Knowing as Known
use Rattle.events.specs.Sums.{many}
use Rattle.events.proofs.InsideLaws.{fits_indexed}
use Rattle.events.proofs.WeighLaws.{setting_weighed}
use Rattle.read_deeds.specs.declared.deeds.Turn.{Turn}
use Rattle.read_deeds.specs.ReadDeeds.{Begins}
use Rattle.plain_look.specs.Looking.{kind_number}
use Rattle.plain_weigh.specs.declared.weighing.Before.{Before}
use Rattle.std.specs.declared.option.Option.{Option as Maybe}
use Rattle.plain_weigh.specs.declared.weights.Weight.{Weight}
use Rattle.plain_weigh.specs.Weighing.{weighs, Read, TriedAs, Weighs}
use Rattle.plain_judge.specs.Judging.{Weights, WeightAt, WeightPut, TryIs}
use Rattle.plain_judge.proofs.SettingDeeds.{deeds_few}
use Rattle.plain_judge.proofs.WeightLaws.{number_small, put_three, weights_put}

-- ---- what was answered

-- no weight was
tried_none : (n : ℕ) (k : Kind) (o : Option Tables) → TriedAs n None (map (weight_of k) o) → o ≡ none
tried_none n k none h = refl
tried_none n k (some u) h = absurd h

-- this weight was
tried_some : (n : ℕ) (k : Kind) (w : Weight) (p : ℕ) (o : Option Tables) → TriedAs n (Some (w, p)) (map (weight_of k) o)
    → (u : Tables) × (o ≡ some u) × (weighs w ≡ weight_of k u) × (p ≡ n)
tried_some n k w p none h = absurd h
tried_some n k w p (some u) h = (u, refl, h.0, h.1)

module _ (log m : List ℕ) (b : Before) (x : SettingRead) (ws : List ℕ) (n : ℕ) (number : n ≡ kind_number (read_kind x)) (was : Weight) (at : WeightAt ws n was)
    (turn : Turn) (begins : Begins m x turn) (tried : Maybe (Weight × ℕ)) (weighed : Weighs log m b turn was tried)
  where
    -- the number is that of the setting's kind
    number_of : (s : Setting) → Meant m x s → n ≡ kind_number (kind s)
    number_of s means = number ∙ ap kind_number (sym (meant_kind m x s means))

    -- how many entries there were before it
    was_entries : (s : Setting) (t : Tables) → Meant m x s → Weights ws t → was.entries ≡ many (kind s) (own (kind s) t)
    was_entries s t means w =
        let e : n ≡ kind_number (kind s) = number_of s means in
        let small : n < 13 = omega (arith, number_small (kind s)) in
        (at w.all small).0 ∙ ap (λ (i : ℕ). get_or ws (2 * i) 0) e ∙ w.entries (kind s)

    -- how many bytes their texts took
    was_bytes : (s : Setting) (t : Tables) → Meant m x s → Weights ws t → was.bytes ≡ text_size (kind s) (own (kind s) t)
    was_bytes s t means w =
        let e : n ≡ kind_number (kind s) = number_of s means in
        let small : n < 13 = omega (arith, number_small (kind s)) in
        (at w.all small).1 ∙ ap (λ (i : ℕ). get_or ws (2 * i + 1) 0) e ∙ w.bytes (kind s)

    -- both
    was_weight : (s : Setting) (t : Tables) → Meant m x s → Weights ws t → weighs was ≡ weight_of (kind s) t
    was_weight s t means w = λ i. record { entries = was_entries s t means w i; bytes = was_bytes s t means w i }

    -- what was answered is what the setting makes of the tables
    tried_as : (L M : List D.Deed) (s : Setting) (c : Coding) (left : ℕ) (t : Tables) → Read log m b L M (deeds s) → Telling handheld (L ++ M) t → Weights ws t
        → Meant m x s → InRange text_limits left s → Fits c s
        → TriedAs (b.passed + length (deeds s)) tried (map (weight_of (kind s)) (change handheld s t))
    tried_as L M s c left t r tells w means i f =
        let small : was.bytes < 0x10000 = omega (arith, was_bytes s t means w, size_part (kind s) t, w.room) in
        let few : length (deeds s) < 0x10000 = omega (arith, deeds_few c s f) in
        subst (TriedAs (b.passed + length (deeds s)) tried)
        (ap (weigh_all handheld (L ++ M) (deeds s)) (was_weight s t means w) ∙ setting_weighed handheld (L ++ M) s t left tells i (fits_indexed c left s i f))
        (weighed L M (deeds s) r (begins s left means i) small few)

    -- TRIED-FULL: no place for an entry
    pub tried_full : (vs : List ℕ) → tried ≡ None → TryIs log m b x ws vs None
    tried_full vs e L M s c left t r tells w means i f =
        let h = subst (λ (z : Maybe (Weight × ℕ)). TriedAs (b.passed + length (deeds s)) z (map (weight_of (kind s)) (change handheld s t))) e (tried_as L M s c left t r tells w means i f) in
        (no_room_exactly handheld s t).1 (inl (tried_none (b.passed + length (deeds s)) (kind s) (change handheld s t) h))

    module _ (w : Weight) (p : ℕ) (e : tried ≡ Some (w, p)) where
      -- the sum that is judged is that of the tables after it
      sum_is : (s : Setting) (t u : Tables) → Meant m x s → Weights ws t → change handheld s t ≡ some u → w.bytes ≡ text_size (kind s) (own (kind s) u)
          → get_or ws 26 0 - was.bytes + w.bytes ≡ text_sum u
      sum_is s t u means ok h y =
          ap₂ (λ (i j : ℕ). i + j) (ap₂ (λ (i j : ℕ). i - j) ok.sum (was_bytes s t means ok)) y ∙ sym (sum_changed handheld s t u h)

      -- the tables after it, and its weight
      tried_room : (L M : List D.Deed) (s : Setting) (c : Coding) (left : ℕ) (t : Tables) → Read log m b L M (deeds s) → Telling handheld (L ++ M) t → Weights ws t
          → Meant m x s → InRange text_limits left s → Fits c s
          → (u : Tables) × (change handheld s t ≡ some u) × (weighs w ≡ weight_of (kind s) u) × (p ≡ b.passed + length (deeds s)) × (get_or ws 26 0 - was.bytes + w.bytes ≡ text_sum u)
      tried_room L M s c left t r tells ok means i f =
          let h = subst (λ (z : Maybe (Weight × ℕ)). TriedAs (b.passed + length (deeds s)) z (map (weight_of (kind s)) (change handheld s t))) e (tried_as L M s c left t r tells ok means i f) in
          let (u, q, y, z) = tried_some _ (kind s) w p (change handheld s t) h in
          (u, q, y, z, sum_is s t u means ok q (ap (λ (v : Known.Weight). v.bytes) y))

      -- TRIED-OVER: the texts held after it pass the area
      pub tried_over : (vs : List ℕ) → HeldAfter (Shared 4096) (get_or ws 26 0 - was.bytes + w.bytes) None → TryIs log m b x ws vs None
      tried_over vs over L M s c left t r tells ok means i f =
          let (u, q, y, z, sum) = tried_room L M s c left t r tells ok means i f in
          (no_room_exactly handheld s t).1 (inr (u, q, subst (λ (k : ℕ). 4096 < k) sum over))

      -- TRIED-DONE: there is room, and the numbers are those of the tables after it
      pub tried_done : (vs : List ℕ) (sum : ℕ) → HeldAfter (Shared 4096) (get_or ws 26 0 - was.bytes + w.bytes) (Some sum) → WeightPut ws n w sum vs
          → TryIs log m b x ws vs (Some p)
      tried_done vs sum (is, room) puts L M s c left t r tells ok means i f =
          let (u, q, y, z, total) = tried_room L M s c left t r tells ok means i f in
          let d : n ≡ kind_number (kind s) = number_of s means in
          let small : n < 13 = omega (arith, number_small (kind s)) in
          let inside : text_sum u ≤ 4096 = subst (λ (k : ℕ). k ≤ 4096) total room in
          let now : Weights (put_three ws n w.entries w.bytes sum) u = subst (λ (k : ℕ). Weights (put_three ws k w.entries w.bytes sum) u) (sym d)
          (weights_put handheld s t u q ws ok w.entries w.bytes sum (ap (λ (v : Known.Weight). v.entries) y) (ap (λ (v : Known.Weight). v.bytes) y) (is ∙ total) inside) in
          (u, (apply_exactly handheld s t u).1 (q, inside), subst (λ (l : List ℕ). Weights l u) (sym (puts ok.all small)) now, z)
