-- Settings that stand one after another, and one more behind them: their ranges, their places and the deeds that follow. Assumes nothing.
use Rattle.lists.proofs.Kit.{ℕ, suc, ◌+◌, ◌-◌, ◌≤◌, ◌<◌, ◌≡◌, refl, sym, ap, ◌∙◌, subst, subst⁻¹, List, [], ◌∷◌, ◌++◌, append-nil, append_assoc, arith, length, length-append, length-drop}
use Rattle.lists.specs.Every.{All}
use Rattle.writing.specs.declared.Coding.{Coding}
use Rattle.writing.specs.Canonical.{Fits}
use Rattle.writing.specs.Fields.{Field}
use Rattle.writing.specs.Ranges.{text_limits, InRange}
use Rattle.writing.specs.Settings.{Setting, group_contacts, individual_contacts, lines, key, quick_texts, home, channels, system, status_texts, group, individual, line_slot, last}
use Rattle.writing.proofs.CanonicalLaws.{has_writing}
use Rattle.writing.proofs.Whole.{length_written}
use Rattle.read_fields.specs.Places.{FieldsAt, StandsAt}
use Rattle.tables.specs.declared.limits.Limits.{Limits}
use Rattle.tables.specs.Tables.{Tables}
use Rattle.requests.specs.Judge.{done, step}
use Rattle.requests.specs.Requests.{Runs}
use Rattle.events.specs.Deeds.{deeds, all_deeds}
use Rattle.read_deeds.specs.declared.cursors.Cursor.{Cursor}
use Rattle.read_deeds.specs.Cursors.{Standing, Follow, AtSettings}
use Rattle.read_deeds.proofs.CursorLaws.{follow_settings}

-- ---- ranges

-- only of FF does it matter how many settings are counted after it
in_range_at : (s : Setting) (n k : ℕ) → InRange text_limits n s → (n ≡ 0 → k ≡ 0) → InRange text_limits k s
in_range_at (group_contacts o f es) n k i h = i
in_range_at (individual_contacts o f es) n k i h = i
in_range_at (lines o f es) n k i h = i
in_range_at (key t f) n k i h = i
in_range_at (quick_texts o es) n k i h = i
in_range_at (home x) n k i h = i
in_range_at (channels o es) n k i h = i
in_range_at (system x) n k i h = i
in_range_at (status_texts o es) n k i h = i
in_range_at (group o f x) n k i h = i
in_range_at (individual o f x) n k i h = i
in_range_at (line_slot o f x) n k i h = i
in_range_at (last f x) n k i h = (i.0, h i.1)

-- in range wherever it stands
abbrev Anywhere : Setting → Type 0
Anywhere s = (k : ℕ) → InRange text_limits k s

-- settings that were taken, where more are counted, are no FF
pub taken_anywhere : (c : Coding) (lim : Limits) {n : ℕ} {t u : Tables} {bs rest : List ℕ} {l : List Setting} → Runs c lim n t bs l u rest → length l < n → All Anywhere l
taken_anywhere c lim done h = tt
taken_anywhere c lim (step {n} {s = x} {l = l} p w i a q) h = (λ k. in_range_at x n k i (λ e. absurd (omega arith)), taken_anywhere c lim q (omega arith))

-- ---- places

-- a setting that stands there fits its fields
pub stands_fits : (c : Coding) (m : List ℕ) (at next : ℕ) (s : Setting) → StandsAt c m at next s → Fits c s
stands_fits c m at next s y = has_writing c s y.bytes y.written

-- and has a byte there
pub stands_within : (c : Coding) (m : List ℕ) (at next : ℕ) (s : Setting) → StandsAt c m at next s → at < length m
stands_within c m at next s y =
    let n : length y.bytes ≡ suc _ = length_written c s y.bytes y.written in
    let e : length m - at ≡ length (y.bytes ++ y.rest) = sym (length-drop at m) ∙ ap length y.split in
    omega (arith, n, e, length-append y.bytes y.rest)

-- fields end where the message does, or before
fields_end : (fs : List Field) (m : List ℕ) (at next : ℕ) → FieldsAt fs m at next → at ≤ length m → next ≤ length m
fields_end fs m at next y h =
    let e : length m - at ≡ length (y.bytes ++ y.rest) = sym (length-drop at m) ∙ ap length y.split in
    omega (arith, e, y.ends, length-append y.bytes y.rest)

-- STANDING-END: and so do settings
pub standing_end : (c : Coding) (m : List ℕ) (at : ℕ) (l : List Setting) (end : ℕ) → Standing c m at l end → at ≤ length m → end ≤ length m
standing_end c m at [] end e h = omega arith
standing_end c m at (s ∷ l) end (next, i, y, z) h = standing_end c m next l end z (fields_end _ m at next y h)

-- STANDING-ON: one setting more, where those before it are no FF
pub standing_on : (c : Coding) (m : List ℕ) (at : ℕ) (l : List Setting) (p next left : ℕ) (s : Setting) → Standing c m at l p → All Anywhere l → InRange text_limits left s → StandsAt c m p next s
    → Standing c m at (l ++ (s ∷ [])) next
standing_on c m at [] p next left s e a i y = (next, in_range_at s left 0 i (λ z. refl), subst⁻¹ (λ (k : ℕ). StandsAt c m k next s) e y, refl)
standing_on c m at (x ∷ l) p next left s (to, j, y, z) a i w = (to, a.0 (length (l ++ (s ∷ []))), y, standing_on c m to l p next left s z a.1 i w)

-- ---- deeds

-- those of one setting more
pub deeds_on : (l : List Setting) (s : Setting) → all_deeds (l ++ (s ∷ [])) ≡ all_deeds l ++ deeds s
deeds_on [] s = append-nil (deeds s)
deeds_on (x ∷ l) s = ap (λ y. deeds x ++ y) (deeds_on l s) ∙ sym (append_assoc (deeds x) (all_deeds l) (deeds s))

-- with one setting more
pub follow_on : (c : Coding) (m : List ℕ) (at : ℕ) (l : List Setting) (p next left : ℕ) (s : Setting) (n : ℕ) (r : Cursor) → AtSettings at (n + 1) c r → length l ≡ n
    → Standing c m at l p → All Anywhere l → InRange text_limits left s → StandsAt c m p next s → Follow m r (all_deeds l ++ deeds s)
follow_on c m at l p next left s n r e k z a i y =
    subst (Follow m r) (deeds_on l s)
    (follow_settings m at c (n + 1) next r (l ++ (s ∷ [])) e (length-append l (s ∷ []) ∙ ap (λ (j : ℕ). j + 1) k) (standing_on c m at l p next left s z a i y))
