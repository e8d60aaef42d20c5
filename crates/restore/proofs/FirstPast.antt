-- FIRST PAST: of settings that add all that they carry, the first without room where texts share an area is the first with which the sum passes it. Assumes nothing.
use Rattle.lists.proofs.Kit.{ℕ, suc, ◌+◌, ◌*◌, ◌≤◌, ◌≡◌, refl, sym, ap, ◌∙◌, subst, subst⁻¹, Bool, cond, List, [], ◌∷◌, ◌++◌, append_assoc, Option, none, some, option_some_injective, option_some_ne_none, arith, length, ◌⊎◌, inl, inr}
use Rattle.writing.specs.Settings.{Setting, texts}
use Rattle.tables.specs.declared.limits.Limits.{Limits}
use Rattle.tables.specs.declared.limits.Texts.{Texts}
use Rattle.tables.specs.declared.limits.Texts.TheVariants.{Placed, Shared}
use Rattle.tables.specs.Apply.{and_then, in_turn, change, within, apply}
use Rattle.tables.specs.Tables.{Tables}
use Rattle.tables.specs.Texts.{units_of, text_sum, TextRoom, Passes, WhereShared}
use Rattle.tables.proofs.RoomSentences.{Stuck, no_room, turn_append}
use Rattle.tables.proofs.FormLaws.{shared_then}
use Rattle.shared_texts.proofs.RoomLaws.{then_some, no_room_exactly, turn_change}
use Rattle.restore.specs.Restored.{carried, first_past}
use Rattle.restore.proofs.CarriedTexts.{carried_append, adds_at_most, turn_at_most, carried_turn, turn_kept, turn_past}
use Rattle.restore.proofs.TextRooms.{room_if, past_if, less_room, more_past, room_or_past, room_yes, room_no}

-- ---- the place

module _ (x : Texts) (n : ℕ) (s : Setting) (l : List Setting) where
  abbrev with_it : ℕ
  with_it = n + 2 * units_of (texts s)

  -- the first setting passes
  past_first : Passes x with_it → first_past x n (s ∷ l) ≡ 1
  past_first h = ap (λ (b : Bool). cond b (suc (first_past x with_it l)) 1) (room_no x with_it h)

  -- it does not
  past_later : TextRoom x with_it → first_past x n (s ∷ l) ≡ suc (first_past x with_it l)
  past_later h = ap (λ (b : Bool). cond b (suc (first_past x with_it l)) 1) (room_yes x with_it h)

module _ (x : Texts) where
  -- it is behind settings that have room, at one that has none
  past_at : (n : ℕ) (done : List Setting) (s : Setting) (rest : List Setting) → TextRoom x (n + carried done) → Passes x (n + carried (done ++ s ∷ []))
      → first_past x n (done ++ s ∷ rest) ≡ length done + 1
  past_at n [] s rest h l = past_first x n s rest (more_past x (n + carried (s ∷ [])) (with_it x n s rest) (omega arith) l)
  past_at n (r ∷ done) s rest h l =
      let with_r : ℕ = n + 2 * units_of (texts r) in
      omega (
        arith,
        past_later x n r (done ++ s ∷ rest) (less_room x with_r (n + carried (r ∷ done)) (omega arith) h),
        past_at with_r done s rest (less_room x (with_r + carried done) (n + carried (r ∷ done)) (omega arith) h)
            (more_past x (n + carried (r ∷ (done ++ s ∷ []))) (with_r + carried (done ++ s ∷ [])) (omega arith) l),
      )

  -- and behind the last where all have
  pub past_end : (n : ℕ) (l : List Setting) → TextRoom x (n + carried l) → first_past x n l ≡ length l + 1
  past_end n [] h = refl
  past_end n (s ∷ l) h =
      let with_s : ℕ = n + 2 * units_of (texts s) in
      omega (
        arith,
        past_later x n s l (less_room x with_s (n + carried (s ∷ l)) (omega arith) h),
        past_end with_s l (less_room x (with_s + carried l) (n + carried (s ∷ l)) (omega arith) h),
      )

-- what was held before counts only where texts share an area
pub past_same : (x : Texts) (m n : ℕ) (l : List Setting) → WhereShared x (m ≡ n) → first_past x m l ≡ first_past x n l
past_same Placed m n l e = past_end Placed m l tt ∙ sym (past_end Placed n l tt)
past_same (Shared a) m n l e = ap (λ (k : ℕ). first_past (Shared a) k l) e

-- ---- the setting that lacks room

-- settings that change u to v and, where texts share an area, add all that they carry
module _ (lim : Limits) (l : List Setting) (u v : Tables) (runs : in_turn (change lim) l u ≡ some v)
    (adds : WhereShared lim.texts (text_sum v ≡ text_sum u + carried l)) (held : TextRoom lim.texts (text_sum u)) where
  abbrev form : Texts
  form = lim.texts

  -- it is the first with which the sum passes the area
  stuck_where : (s : Stuck (apply lim) l u) → length s.done + 1 ≡ first_past form (text_sum u) l
  stuck_where s =
      let came : in_turn (change lim) s.done u ≡ some s.table = turn_change lim s.done u s.table s.came in
      let rest : in_turn (change lim) (s.entry ∷ s.rest) s.table ≡ some v
      = ap (λ (o : Option Tables). and_then o (in_turn (change lim) (s.entry ∷ s.rest))) (sym came) ∙ sym (turn_append (change lim) s.done (s.entry ∷ s.rest) u)
      ∙ ap (λ (k : List Setting). in_turn (change lim) k u) (sym s.split) ∙ runs in
      let (w, p, q) = then_some (change lim s.entry s.table) (in_turn (change lim) s.rest) v rest in
      let before : text_sum s.table ≤ text_sum u + carried s.done = turn_at_most lim s.done u s.table came in
      let here : text_sum w ≤ text_sum s.table + 2 * units_of (texts s.entry) = adds_at_most lim s.entry s.table w p in
      let after : text_sum v ≤ text_sum w + carried s.rest = turn_at_most lim s.rest w v q in
      let all : carried l ≡ carried s.done + (2 * units_of (texts s.entry) + carried s.rest)
      = ap carried s.split ∙ carried_append s.done (s.entry ∷ s.rest) in
      let one : carried (s.done ++ s.entry ∷ []) ≡ carried s.done + (2 * units_of (texts s.entry) + 0) = carried_append s.done (s.entry ∷ []) in
      let kept : TextRoom form (text_sum s.table) = turn_kept lim s.done u s.table held s.came in
      let passed : Passes form (text_sum w) = by w p ((no_room_exactly lim s.entry s.table).0 s.full) in
      sym (ap (first_past form (text_sum u)) s.split
      ∙ past_at form (text_sum u) s.done s.entry s.rest
      (room_if form (text_sum u + carried s.done) (text_sum s.table) (shared_then form {P = text_sum v ≡ text_sum u + carried l} (λ e. omega arith) adds) kept)
      (past_if form (text_sum w) (text_sum u + carried (s.done ++ s.entry ∷ [])) (shared_then form {P = text_sum v ≡ text_sum u + carried l} (λ e. omega arith) adds) passed))
    where
      -- the sum passes, for its table is not full
      by : (w : Tables) → change lim s.entry s.table ≡ some w
          → (change lim s.entry s.table ≡ none) ⊎ ((x : Tables) × (change lim s.entry s.table ≡ some x) × Passes form (text_sum x)) → Passes form (text_sum w)
      by w p (inl n) = absurd (option_some_ne_none w (sym p ∙ n))
      by w p (inr (x, e, h)) = subst (λ (y : Tables). Passes form (text_sum y)) (option_some_injective x w (sym e ∙ p)) h

  -- STUCK PAST: where the sum after them all passes the area, one of them lacks room
  pub stuck_past : Passes form (text_sum v) → (s : Stuck (apply lim) l u) × (length s.done + 1 ≡ first_past form (text_sum u) l)
  stuck_past h = let s = (no_room (apply lim) l u).0 (turn_past lim l u v runs (λ w e. turn_kept lim l u w held e) h) in (s, stuck_where s)

  -- the setting that lacks room, and its place, with others behind these
  abbrev StuckAt : List Setting → Type 0
  StuckAt behind = (s : Stuck (apply lim) (l ++ behind) u) × (length s.done + 1 ≡ first_past form (text_sum u) l)

  -- whatever stands behind them
  stuck_before : Passes form (text_sum v) → (behind : List Setting) → StuckAt behind
  stuck_before h behind =
      let (s, e) = stuck_past h in (
        record {
          done = s.done;
          entry = s.entry;
          rest = s.rest ++ behind;
          split = ap (λ (k : List Setting). k ++ behind) s.split ∙ append_assoc s.done (s.entry ∷ s.rest) behind;
          table = s.table;
          came = s.came;
          full = s.full;
        },
        e,
      )

  -- where it does not, the setting behind them lacks room if it finds its table full
  stuck_full : TextRoom form (text_sum v) → (s : Setting) → change lim s v ≡ none → (behind : List Setting) → StuckAt (s ∷ behind)
  stuck_full h s full behind =
      let room : TextRoom form (text_sum u + carried l) = room_if form (text_sum u + carried l) (text_sum v) (shared_then form {P = text_sum v ≡ text_sum u + carried l} (λ e. omega arith) adds) h in (
        record {
          done = l;
          entry = s;
          rest = behind;
          split = refl;
          table = v;
          came = carried_turn lim l u v runs room;
          full = ap (λ (o : Option Tables). and_then o (within form)) full;
        },
        sym (past_end form (text_sum u) l room),
      )

  -- so where the setting behind them finds its table full, one of them lacks room, or that one
  stuck_or_full : (s : Setting) → change lim s v ≡ none → (behind : List Setting) → StuckAt (s ∷ behind)
  stuck_or_full s full behind = by (room_or_past form (text_sum v))
    where
      by : TextRoom form (text_sum v) ⊎ Passes form (text_sum v) → StuckAt (s ∷ behind)
      by (inl h) = stuck_full h s full behind
      by (inr h) = stuck_before h (s ∷ behind)

-- STUCK FULL: where a setting finds its table full, it lacks room, or one before it with which the sum passes the area
pub stuck_at_full : (lim : Limits) (l : List Setting) (u : Tables) (s : Stuck (change lim) l u) → WhereShared lim.texts (text_sum s.table ≡ text_sum u + carried s.done)
    → TextRoom lim.texts (text_sum u) → (r : Stuck (apply lim) l u) × (length r.done + 1 ≡ first_past lim.texts (text_sum u) s.done)
stuck_at_full lim l u s adds held =
    subst⁻¹ (λ (k : List Setting). (r : Stuck (apply lim) k u) × (length r.done + 1 ≡ first_past lim.texts (text_sum u) s.done)) s.split
    (stuck_or_full lim s.done u s.table s.came adds held s.entry s.full s.rest)
