-- A list table is written as a replace and an add for each entry, whatever the entries are. Assumes nothing.
use Rattle.lists.proofs.Kit.{ℕ, zero, suc, ◌+◌, ◌-◌, ◌*◌, ◌/◌, ◌≤◌, ◌<◌, ◌≡◌, refl, sym, ap, ◌∙◌, List, [], ◌∷◌, map, none, some, not-suc-le-zero, le_of_suc-le-suc, add-one, arith, mid_of, length, get_or, drop, drop_of_length-le, drop-cons}
use native.Mathlib.Nat.{mul-div_cancel}
use Rattle.lists.proofs.Every.{all_get}
use Rattle.slots.specs.Slots.{front, slot, zeros?, Listed, Placed, Found}
use Rattle.slots.proofs.Keys.{used_at}
use Rattle.slots.proofs.Tables.{all_front, front_length, place_read}
use Rattle.writing.specs.Canonical.{canonical, canonical_all}
use Rattle.writing.specs.Settings.{Setting, unicode16}
use Rattle.export_write.specs.Writers.{Wrote, Kept, ListIn, WritesSetting}
use Rattle.export_write.proofs.SlotWriting.{Slotted}
use Rattle.export_write.proofs.WroteLaws.{Writing, writing_start, writing_more, writing_end, wrote_both}

-- entry k of a list table stands in place k
front_get : {A : Type 0} (n : ℕ) (xs : List A) (k : ℕ) (d : A) → k < length xs → length xs ≤ n → get_or (front n xs) k none ≡ some (get_or xs k d)
front_get n [] k d h l = absurd (not-suc-le-zero h)
front_get zero (x ∷ xs) k d h l = absurd (not-suc-le-zero l)
front_get (suc n) (x ∷ xs) zero d h l = refl
front_get (suc n) (x ∷ xs) (suc k) d h l = front_get n xs k d (le_of_suc-le-suc h) (le_of_suc-le-suc l)

-- an entry of a list that has one
an_entry : {A : Type 0} (xs : List A) → 0 < length xs → A
an_entry [] h = absurd (not-suc-le-zero h)
an_entry (x ∷ xs) h = x

module _ {A : Type 0} {P : A → Type 0} {w : ℕ} {f : A → List ℕ} (q : Slotted P w f) where
  -- so its bytes are read there
  pub entry_read : (n : ℕ) (xs : List A) (s : List ℕ) (d : A) → Listed P w f n xs s → (k : ℕ) → k < length xs → Kept P f (mid_of (k * w) (k * w + w - k * w) s) (get_or xs k d)
  entry_read n xs s d t k h =
      let p : Placed P w f n (front n xs) s = record { many = front_length n xs; each = all_front P n xs t.each; bytes = t.bytes } in
      let few : length xs ≤ n = t.few in
      let e = place_read P w f q.long n (front n xs) s p k (omega arith) in
      (all_get P xs k d t.each h, e ∙ ap (slot w f) (front_get n xs k d h few))

  -- as many entries as stand before the first empty slot
  pub entries_used : (s : List ℕ) (xs : List A) (r : ℕ) → ListIn P w f s xs → Found (0 < w) zeros? w s r → length xs ≡ r / w
  entries_used s xs r (n, t) g =
      sym (mul-div_cancel (length xs) q.wide) ∙ ap (λ (k : ℕ). k / w) (sym (used_at P w f q.long q.shown q.wide n xs s t r g))

  module _ (add : A → Setting) (region buffer₀ : List ℕ) (at : ℕ) where
    -- the adds up to an entry are written
    abbrev pub Adding : (buffer : List ℕ) → (to i : ℕ) → Type 0
    Adding buffer to i =
        (xs : List A) → ListIn P w f region xs
        → Writing (canonical_all unicode16 (map add xs)) at buffer₀ buffer to (canonical_all unicode16 (map add (drop i xs)))

    -- none is yet
    pub adding_start : at ≤ length buffer₀ → Adding buffer₀ at 0
    adding_start h xs t = writing_start (canonical_all unicode16 (map add xs)) at buffer₀ h

    -- and the next
    pub adding_more : (buffer after : List ℕ) (to i used room r : ℕ) → i < used / w → Found (0 < w) zeros? w region used → Adding buffer to i
        → WritesSetting (Kept P f (mid_of (i * w) (i * w + w - i * w) region)) add to room buffer after r → Adding after r (i + 1)
    adding_more buffer after to i used room r low g more h xs (n, t) =
        let c : length xs ≡ used / w = entries_used region xs used (n, t) g in
        let k : i < length xs = omega arith in
        let d : A = an_entry xs (omega arith) in
        writing_more (canonical_all unicode16 (map add xs)) at to r buffer₀ buffer after (canonical_all unicode16 (map add (drop i xs)))
        (canonical unicode16 (add (get_or xs i d))) (canonical_all unicode16 (map add (drop (i + 1) xs))) (more xs (n, t))
        (rw add-one (ap (λ (x : List A). canonical_all unicode16 (map add x)) (drop-cons xs i d k)))
        (h.wrote (get_or xs i d) (entry_read n xs region d t i k))

    -- none is left, behind the replace
    pub adding_end : (replace : Setting) (before buffer : List ℕ) (first to i used : ℕ) → used / w ≤ i → Found (0 < w) zeros? w region used
        → Wrote (canonical unicode16 replace) first before buffer₀ at → Adding buffer to i
        → (xs : List A) → ListIn P w f region xs → Wrote (canonical_all unicode16 (replace ∷ map add xs)) first before buffer to
    adding_end replace before buffer first to i used high g v all xs t =
        let c : length xs ≡ used / w = entries_used region xs used t g in
        wrote_both (canonical unicode16 replace) (canonical_all unicode16 (map add xs)) first at to before buffer₀ buffer v
        (writing_end (canonical_all unicode16 (map add xs)) at to buffer₀ buffer (canonical_all unicode16 (map add (drop i xs))) (all xs t)
        (ap (λ (x : List A). canonical_all unicode16 (map add x)) (drop_of_length-le xs {i = i} (omega arith))))
