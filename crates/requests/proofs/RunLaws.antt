-- Settings taken in turn: one more at the end, and what is at fault where the next should stand. Assumes nothing.
use Rattle.lists.proofs.Kit.{ℕ, suc, ◌+◌, ◌<◌, ◌≡◌, refl, sym, ap, ◌∙◌, subst, List, [], ◌∷◌, ◌++◌, Option, none, some, arith, length, drop, drop_of_length-le, drop-cons, drop-drop, drop_at}
use Rattle.lists.specs.Bytes.{Bytes}
use Rattle.lists.proofs.Bytes.{bytes_drop}
use Rattle.writing.specs.declared.Coding.{Coding}
use Rattle.writing.specs.Ranges.{text_limits, InRange}
use Rattle.writing.specs.Settings.{Setting, group_contacts, individual_contacts, lines, key, quick_texts, home, channels, system, status_texts, group, individual, line_slot, last}
use Rattle.read_fields.specs.Places.{StandsAt}
use Rattle.read_setting.specs.SettingAt.{SettingAt}
use Rattle.std.specs.Prelude.{Ok, Err}
use Rattle.read_setting.specs.declared.reader.SettingFault.TheVariants.{Missing, Unknown, Field as BadField}
use Rattle.read_fields.proofs.Parts.{bytes_left}
use Rattle.tables.specs.declared.limits.Limits.{Limits}
use Rattle.tables.specs.Apply.{apply}
use Rattle.tables.specs.Tables.{Tables}
use Rattle.requests.specs.Judge.{done, step, missing, unknown, field, room}
use Rattle.requests.specs.Requests.{WrittenIn, Known, Runs, Fault, item_of, or_else, LastItem, last_item}
use Rattle.requests.proofs.Joining.{then_run}

-- a setting that is not the last one counted is no FF
pub not_ff : (s : Setting) (n : ℕ) → InRange text_limits n s → 0 < n → item_of s ≡ none
not_ff (group_contacts o f es) n i l = refl
not_ff (individual_contacts o f es) n i l = refl
not_ff (lines o f es) n i l = refl
not_ff (key t f) n i l = refl
not_ff (quick_texts o es) n i l = refl
not_ff (home h) n i l = refl
not_ff (channels o ns) n i l = refl
not_ff (system x) n i l = refl
not_ff (status_texts o es) n i l = refl
not_ff (group o f x) n i l = refl
not_ff (individual o f x) n i l = refl
not_ff (line_slot o f x) n i l = refl
not_ff (last f h) n i l = absurd (omega (arith, i.1))

module _ (c : Coding) (lim : Limits) where
  -- one setting more at the end
  pub one_more : (left : ℕ) (s : Setting) (w r : List ℕ) {n : ℕ} {t u u' : Tables} {bs rest : List ℕ} {l : List Setting} → Runs c lim n t bs l u rest
      → length l + suc left ≡ n → rest ≡ w ++ r → WrittenIn c s w → InRange text_limits left s → apply lim s u ≡ some u' → Runs c lim n t bs (l ++ (s ∷ [])) u' r
  one_more left s w r q e p x i a =
      then_run Setting Tables (WrittenIn c) (InRange text_limits) (apply lim) Known (suc left) q e (step {w = w} {s = s} p x i a done)

  -- so the FF of a run is that of its last setting
  pub item_end : {n : ℕ} {t u : Tables} {bs rest : List ℕ} {l : List Setting} → Runs c lim n t bs l u rest → length l < n → (s : Setting)
      → last_item (l ++ (s ∷ [])) ≡ or_else (item_of s) (last_item [])
  item_end done h s = refl
  item_end (step {n} {s = x} {l = l} p w i a q) h s =
      ap (λ (f : Option LastItem). or_else f (last_item (l ++ (s ∷ [])))) (not_ff x n i (omega arith)) ∙ item_end q (omega arith) s

  -- ---- where the next setting should stand, in a message of bytes

  module _ (m : List ℕ) (b : Bytes m) (left : ℕ) (u : Tables) (p : ℕ) where
    -- a setting that stands at p: its bytes, and what follows
    pub stands_in : (s : Setting) (next : ℕ) → StandsAt c m p next s → (w : List ℕ) × (drop p m ≡ w ++ drop next m) × WrittenIn c s w
    stands_in s next x =
        let e : drop next m ≡ x.rest
        = ap (λ (k : ℕ). drop k m) x.ends ∙ sym (drop-drop (length x.bytes) p m) ∙ ap (drop (length x.bytes)) x.split
        ∙ drop_at x.bytes x.rest (length x.bytes) refl in (
          x.bytes,
          x.split ∙ ap (λ (r : List ℕ). x.bytes ++ r) (sym e),
          (x.written, bytes_left x.bytes x.rest (subst Bytes x.split (bytes_drop p m b))),
        )

    -- and back
    stands_at : (s : Setting) (w r : List ℕ) → drop p m ≡ w ++ r → WrittenIn c s w → StandsAt c m p (p + length w) s
    stands_at s w r e (x, _) = record { bytes = w; rest = r; split = e; ends = refl; written = x }

    -- no byte is left: 4
    pub at_end : SettingAt c left m p (Err Missing) → Fault c lim left u (drop p m) 4
    at_end h = subst (λ (l : List ℕ). Fault c lim left u l 4) (sym (drop_of_length-le m h)) missing

    -- the type is none of the thirteen: 3
    pub at_unknown : SettingAt c left m p (Err Unknown) → Fault c lim left u (drop p m) 3
    at_unknown (h, never) =
        subst (λ (l : List ℕ). Fault c lim left u l 3) (sym (drop-cons m p 0 h)) (unknown (λ k. never k.0 k.1))

    -- no setting in range is written there: 4
    pub at_field : SettingAt c left m p (Err BadField) → Fault c lim left u (drop p m) 4
    at_field (h, k, e, never) =
        subst (λ (l : List ℕ). Fault c lim left u l 4) (sym (drop-cons m p 0 h))
        (field (k, e) (λ s w r q x i. never s (p + length w) i (stands_at s w r (drop-cons m p 0 h ∙ q) x)))

    -- the setting that stands there has no room: 2
    pub at_full : (s : Setting) (next : ℕ) → p < length m → InRange text_limits left s → StandsAt c m p next s → apply lim s u ≡ none → Fault c lim left u (drop p m) 2
    at_full s next h i x a =
        let (w, e, q) = stands_in s next x in
        subst (λ (l : List ℕ). Fault c lim left u l 2) (sym (drop-cons m p 0 h)) (room {w = w} {s = s} (drop next m) (sym (drop-cons m p 0 h) ∙ e) q i a)
