-- Line contacts: what stands under an IDtype and digits is what the last setting for them sent. Assumes nothing.
use Rattle.lists.proofs.Kit.{◌≡◌, refl, sym, ap, ◌∙◌, some}
use Rattle.writing.specs.declared.Kind.TheVariants.{Lines}
use Rattle.writing.specs.Settings.{Setting, group_contacts, individual_contacts, lines, key, quick_texts, home, channels, system, status_texts, group, individual, line_slot, last}
use Rattle.tables.specs.declared.limits.Limits.{Limits}
use Rattle.tables.specs.Apply.{apply, has_key, line_of, lines_after}
use Rattle.tables.specs.Owns.{put_own}
use Rattle.tables.specs.Tables.{LineKey, line_key, Tables}
use Rattle.tables.proofs.Owns.{others_stay}
use Rattle.tables.proofs.RoomSentences.{apply_change, came}
use Rattle.tables.proofs.Sentences.{key_is_both}
use Rattle.requests.specs.Requests.{or_else}
use Rattle.laws_screen.specs.ByKey.{found, to_line}
use Rattle.laws_screen.proofs.KeyLaws.{looks_by, key_left}
use Rattle.laws_screen.proofs.Sent.{Sees}

-- what a setting leaves under a key
line_step : (lim : Limits) (k : LineKey) (s : Setting) (t u : Tables) → apply lim s t ≡ some u
    → found (has_key k) u.lines ≡ or_else (to_line k s) (found (has_key k) t.lines)
line_step lim k (group_contacts o f es) t u e = ap (found (has_key k)) (others_stay lim (group_contacts o f es) t u Lines e refl)
line_step lim k (individual_contacts o f es) t u e = ap (found (has_key k)) (others_stay lim (individual_contacts o f es) t u Lines e refl)
line_step lim k (lines o f es) t u e =
    let (ys, made, is) = came (put_own Lines t) (lines_after lim.lines o f es t.lines) u (apply_change lim (lines o f es) t u e) in
    ap (λ x. found (has_key k) x.lines) (sym is)
    ∙ key_left (λ l. has_key (line_key l)) (has_key k) (looks_by line_key has_key key_is_both k) (line_of f) lim.lines o es t.lines ys made
line_step lim k (key x f) t u e = ap (found (has_key k)) (others_stay lim (key x f) t u Lines e refl)
line_step lim k (quick_texts o es) t u e = ap (found (has_key k)) (others_stay lim (quick_texts o es) t u Lines e refl)
line_step lim k (home h) t u e = ap (found (has_key k)) (others_stay lim (home h) t u Lines e refl)
line_step lim k (channels o ns) t u e = ap (found (has_key k)) (others_stay lim (channels o ns) t u Lines e refl)
line_step lim k (system x) t u e = ap (found (has_key k)) (others_stay lim (system x) t u Lines e refl)
line_step lim k (status_texts o es) t u e = ap (found (has_key k)) (others_stay lim (status_texts o es) t u Lines e refl)
line_step lim k (group o f s) t u e = ap (found (has_key k)) (others_stay lim (group o f s) t u Lines e refl)
line_step lim k (individual o f s) t u e = ap (found (has_key k)) (others_stay lim (individual o f s) t u Lines e refl)
line_step lim k (line_slot o f s) t u e = ap (found (has_key k)) (others_stay lim (line_slot o f s) t u Lines e refl)
line_step lim k (last f h) t u e = ap (found (has_key k)) (others_stay lim (last f h) t u Lines e refl)

-- LINE PLACES: an IDtype with digits is a place, by which a line is seen
pub line_sees : (k : LineKey) → Sees (λ t. found (has_key k) t.lines) (λ t. Unit {0}) (to_line k)
line_sees k = record { forgets = λ t h. (refl, tt); step = λ lim s t u e h. (line_step lim k s t u e, tt) }
