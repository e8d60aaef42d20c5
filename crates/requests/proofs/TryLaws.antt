-- A setting tried on a working copy, and the bytes that the texts held take after it. Assumes nothing.
use Rattle.lists.proofs.Kit.{ℕ, ◌+◌, ◌-◌, ◌≡◌, sym, ap, ap₂, ◌∙◌, subst⁻¹, List, Bool, true, false, some, inl, inr}
use Rattle.std.specs.Prelude.{Option, Some, None, Result, Ok, Err}
use Rattle.writing.specs.declared.Coding.{Coding}
use Rattle.writing.specs.declared.Kind.{Kind}
use Rattle.writing.specs.declared.LastFlags.{LastFlags}
use Rattle.writing.specs.Settings.{Setting, kind}
use Rattle.settings.specs.declared.settings.Setting.{Setting as Read}
use Rattle.settings.specs.declared.settings.Setting.TheVariants.{GroupContacts, IndividualContacts, Lines, Key, QuickTexts, Home, Channels, System, StatusTexts, Group, Individual, LineSlot, Last}
use Rattle.settings.specs.Meant.{Meant}
use Rattle.tables.specs.declared.limits.Limits.{Limits}
use Rattle.tables.specs.declared.limits.Texts.{Texts}
use Rattle.tables.specs.declared.limits.Texts.TheVariants.{Placed, Shared}
use Rattle.tables.specs.Apply.{change}
use Rattle.tables.specs.Forms.{Roomy}
use Rattle.tables.specs.Owns.{own}
use Rattle.tables.specs.Store.{Works, Applied, TableSum, WorkSum}
use Rattle.tables.specs.Tables.{Tables}
use Rattle.tables.specs.Texts.{text_sum, text_size, TextRoom, Passes, WhereShared}
use Rattle.tables.proofs.FormLaws.{shared_then}
use Rattle.shared_texts.proofs.RoomLaws.{no_room_exactly, apply_exactly, sum_changed}
use Rattle.requests.specs.declared.run.Fault.{Fault}
use Rattle.requests.specs.Running.{RunIs, RunFrom}
use Rattle.requests.specs.Trying.{read_kind, SumIs, HeldAfter, TryIs}

-- a setting that was read is of the kind that it was read as
pub meant_kind : (m : List ℕ) (r : Read) (s : Setting) → Meant m r s → kind s ≡ read_kind r
meant_kind m (GroupContacts o f p) s (es, e, _) = ap kind e
meant_kind m (IndividualContacts o f p) s (es, e, _) = ap kind e
meant_kind m (Lines o f p) s (es, e, _) = ap kind e
meant_kind m (Key t f) s e = ap kind e
meant_kind m (QuickTexts o p) s (es, e, _) = ap kind e
meant_kind m (Home h) s e = ap kind e
meant_kind m (Channels o p) s (es, e, _) = ap kind e
meant_kind m (System x) s e = ap kind e
meant_kind m (StatusTexts o p) s (es, e, _) = ap kind e
meant_kind m (Group o f p) s (us, e, _) = ap kind e
meant_kind m (Individual o f p) s (us, e, _) = ap kind e
meant_kind m (LineSlot o f p) s (x, e, _) = ap kind e
meant_kind m (Last f p) s (v, e, _, _) = ap kind e

-- ---- what is counted

-- what follows of two counts
both_then : (x : Texts) {P Q R : Type 0} → (P → Q → R) → WhereShared x P → WhereShared x Q → WhereShared x R
both_then Placed f p q = tt
both_then (Shared a) f p q = f p q

-- FIRST-SUM: the bytes of a working copy's texts are those of its tables
pub first_sum : (lim : Limits) (w : List ℕ) (n : ℕ) (t : Tables) → WhereShared lim.texts (WorkSum lim w n) → Roomy lim → Works lim t w → SumIs lim n t
first_sum lim w n t p room h = shared_then lim.texts (λ (f : WorkSum lim w n). f t room h) p

-- RUN-COUNTED: settings taken from the sum that was counted are taken
pub run_counted : (c : Coding) (lim : Limits) (count : ℕ) (m : List ℕ) (at n : ℕ) (s t : List ℕ) (r : Result LastFlags Fault) → WhereShared lim.texts (WorkSum lim s n) → RunFrom c lim count m at n s t r → RunIs c lim count m at s t r
run_counted c lim count m at n s t (Ok f) w g = λ was roomy ok h. g was roomy ok h (first_sum lim s n was w roomy h)
run_counted c lim count m at n s t (Err e) w g = λ was roomy ok h. g was roomy ok h (first_sum lim s n was w roomy h)

-- ---- the sum after a setting

-- room for a sum, and none, of the sum that is counted
shared_room : (x : Texts) (n k : ℕ) → WhereShared x (k ≡ n) → TextRoom x n → TextRoom x k
shared_room Placed n k e r = tt
shared_room (Shared a) n k e r = subst⁻¹ (TextRoom (Shared a)) e r

shared_passes : (x : Texts) (n k : ℕ) → WhereShared x (k ≡ n) → Passes x n → Passes x k
shared_passes Placed n k e r = r
shared_passes (Shared a) n k e r = subst⁻¹ (Passes (Shared a)) e r

module _ (lim : Limits) (m : List ℕ) (r : Read) (sum : ℕ) (s t : List ℕ) (k : Bool) (a : Applied lim m r s t k) where
  -- no place for an entry
  pub tried_full : k ≡ false → TryIs lim m r sum s t None
  tried_full e was set c left room works is means i f =
      (no_room_exactly lim set was).1 (inl ((a was set c left room works means i f).full e))

  module _ (q : Kind) (before after : ℕ) (kind_is : q ≡ read_kind r) (x : WhereShared lim.texts (TableSum lim q s before)) (y : WhereShared lim.texts (TableSum lim q t after)) where
    -- the sum that is reckoned is that of the tables after the setting
    sum_is : (was u : Tables) (set : Setting) → Roomy lim → Works lim was s → Works lim u t → SumIs lim sum was → Meant m r set → change lim set was ≡ some u
        → SumIs lim (sum - before + after) u
    sum_is was u set room v w is means e =
        both_then lim.texts (λ (i : sum ≡ text_sum was) (f : (sum ≡ text_sum was) → sum - before + after ≡ text_sum u). f i) is
        (both_then lim.texts (λ (g : TableSum lim q s before) (h : TableSum lim q t after) (i : sum ≡ text_sum was).
        let b : before ≡ text_size q (own q was) = g was room v in
        let d : after ≡ text_size q (own q u) = h u room w in
        let z : q ≡ kind set = kind_is ∙ sym (meant_kind m r set means) in
        ap₂ (λ (j l : ℕ). j + l) (ap₂ (λ (j l : ℕ). j - l) i b) d
        ∙ ap (λ (l : Kind). text_sum was - text_size l (own l was) + text_size l (own l u)) z
        ∙ sym (sum_changed lim set was u e)) x y)

    -- TRIED: a setting that had a place for each entry has room exactly if the texts held after it have
    pub tried : (n : Option ℕ) → k ≡ true → HeldAfter lim.texts (sum - before + after) n → TryIs lim m r sum s t n
    tried (Some n) e h = λ was set c left room works is means i f.
        let (u, q, w) = (a was set c left room works means i f).room e in
        let z : SumIs lim (sum - before + after) u = sum_is was u set room works w is means q in (
          u,
          (apply_exactly lim set was u).1 (q, shared_room lim.texts (sum - before + after) (text_sum u) (shared_then lim.texts sym z) h.1),
          w,
          both_then lim.texts (λ (x : n ≡ sum - before + after) (y : sum - before + after ≡ text_sum u). x ∙ y) h.0 z,
        )
    tried None e h = λ was set c left room works is means i f.
        let (u, q, w) = (a was set c left room works means i f).room e in
        let z : SumIs lim (sum - before + after) u = sum_is was u set room works w is means q in
        (no_room_exactly lim set was).1 (inr (u, q, shared_passes lim.texts (sum - before + after) (text_sum u) (shared_then lim.texts sym z) h))
