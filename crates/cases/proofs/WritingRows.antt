-- Rows of the writing: numbers, settings, and bytes at fault. Assumes nothing.
use Rattle.lists.proofs.Kit.{ℕ, ◌≡◌, refl, sym, subst, List, [], ◌∷◌, ◌++◌, T}
use Rattle.lists.proofs.Every.{all?}
use Rattle.writing.specs.declared.Coding.{Coding}
use Rattle.writing.specs.declared.Kind.{Kind}
use Rattle.writing.specs.Canonical.{plain, canonical}
use Rattle.writing.specs.Ranges.{text_limits, InRange}
use Rattle.writing.specs.Settings.{Setting, unicode16}
use Rattle.writing.specs.Writing.{number, fields, type_byte, Written}
use Rattle.writing.proofs.Computed.{fits?, valued?, shown, shown_once, written}
use Rattle.writing.proofs.Unique.{unique}
use Rattle.writing.proofs.Whole.{number_whole}
use Rattle.requests.specs.Judge.{unknown, field, room}
use Rattle.requests.specs.Requests.{WrittenIn, Fault}
use Rattle.cases.specs.Marked.{Only, NumberIn, CaseHolds, setting_is, refused_setting}

-- the only bytes of a number
pub digits : (ds bytes : List ℕ) → T (all? fits? (number ds)) → T (all? valued? (number ds)) → plain (number ds) ≡ bytes → Only (NumberIn ds) bytes
digits ds bytes t v e =
    let (n, w) = number_whole ds in
    let own : NumberIn ds bytes = shown (number ds) n bytes w t e in
    record { allowed = own; alone = λ b s. shown_once (number ds) b bytes v s own }

-- the only setting that is written as these bytes
only : (s : Setting) (bytes : List ℕ) → T (all? fits? (fields unicode16 s)) → canonical unicode16 s ≡ bytes → Only (λ t. Written unicode16 t bytes) s
only s bytes t e =
    let own : Written unicode16 s bytes = written unicode16 s bytes t e in
    record { allowed = own; alone = λ r w. (unique unicode16 r s bytes bytes [] [] w own refl).0 }

-- a setting and its bytes
pub setting : (s : Setting) (bytes : List ℕ) → T (all? fits? (fields unicode16 s)) → canonical unicode16 s ≡ bytes → InRange text_limits 0 s → CaseHolds (setting_is s bytes)
setting s bytes t e r = (only s bytes t e, e, r)

-- bytes of a setting that is out of range: 4, and nothing else, wherever they stand
pub out_of_range : (k : Kind) (s : Setting) (more : List ℕ) → ((c : Coding) → T (all? fits? (fields c s))) → ((c : Coding) → canonical c s ≡ type_byte k ∷ more)
    → ((left : ℕ) → InRange text_limits left s → ⊥) → CaseHolds (refused_setting (type_byte k ∷ more) 4)
out_of_range k s more t e out c m left u rest = record { allowed = field (k, refl) never; alone = alone }
  where
    -- no setting in range is written there
    never : (r : Setting) (w after : List ℕ) → type_byte k ∷ more ++ rest ≡ w ++ after → WrittenIn c r w → InRange text_limits left r → ⊥
    never r w after q (x, _) i =
        out left (subst (InRange text_limits left) (unique c r s w (type_byte k ∷ more) after rest x (written c s (type_byte k ∷ more) (t c) (e c)) (sym q)).0 i)

    alone : (n : ℕ) → Fault c m left u (type_byte k ∷ more ++ rest) n → n ≡ 4
    alone n (unknown strange) = absurd (strange (k, refl))
    alone n (field known unwritten) = refl
    alone n (room {w = w} {s = r} after q x i full) = absurd (never r w after q x i)
