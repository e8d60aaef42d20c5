-- Settings one after another, told by their events for each table: all thirteen kinds by one statement. Assumes nothing.
use Rattle.lists.proofs.Kit.{◌≡◌, refl, sym, ap, ◌∙◌, false, List, [], some, option_some_injective}
use Rattle.writing.specs.declared.Kind.{Kind}
use Rattle.writing.specs.Settings.{Setting, kind}
use Rattle.tables.specs.declared.limits.Limits.{Limits}
use Rattle.tables.specs.Apply.{and_then, in_turn, own_after, change, apply}
use Rattle.tables.specs.Owns.{own, put_own, only}
use Rattle.tables.specs.Tables.{Tables, fresh}
use Rattle.tables.proofs.Owns.{own_put, own_other}
use Rattle.tables.proofs.RoomSentences.{came, turn_append}
use Rattle.shared_texts.proofs.RoomLaws.{then_some, turn_change}
use Rattle.events.specs.Settings.{Does, run}
use Rattle.events.specs.Logs.{Told, its_own, not_its, Log, no_setting, then_setting, History, Tells, behind}
use Rattle.events.proofs.SettingLaws.{settings_are}

-- ---- one setting

module _ (lim : Limits) (s : Setting) (t u : Tables) (e : change lim s t ≡ some u) where
  -- its own table is what it makes of it
  own_changed : own_after lim s (own (kind s) t) ≡ some (own (kind s) u)
  own_changed =
      let k : Kind = kind s in
      let (x, p, q) = came (put_own k t) (own_after lim s (own k t)) u e in
      p ∙ ap some (sym (own_put k t x) ∙ ap (own k) q)

  -- and the others stay
  others_unchanged : (k : Kind) → only (kind s) k ≡ false → own k u ≡ own k t
  others_unchanged k h =
      let (x, p, q) = came (put_own (kind s) t) (own_after lim s (own (kind s) t)) u e in
      sym (ap (own k) q) ∙ own_other (kind s) k t x h

  -- TOLD-RUN: each table after a setting is what the setting's events for it make of it
  pub told_run : (k : Kind) (es : List (Does k)) → Told k s es → in_turn (run lim k) es (own k t) ≡ some (own k u)
  told_run k es (its_own {es = vs} i) = sym (settings_are lim s vs (own (kind s) t) i) ∙ own_changed
  told_run k es (not_its h) = ap some (sym (others_unchanged k h))

-- ---- settings in turn

-- LOG-RUN: each table after settings that had room is what their events for it make of it
pub log_run : (lim : Limits) (k : Kind) (l : List Setting) (es : List (Does k)) (t u : Tables) → Log k l es → in_turn (change lim) l t ≡ some u → in_turn (run lim k) es (own k t) ≡ some (own k u)
log_run lim k l es t u no_setting e = ap (λ x. some (own k x)) (option_some_injective t u e)
log_run lim k l es t u (then_setting {s} {l = rest} {es = first} {more} o r) e =
    let (v, p, q) = then_some (change lim s t) (in_turn (change lim) rest) u e in
    turn_append (run lim k) first more (own k t)
    ∙ ap (λ y. and_then y (in_turn (run lim k) more)) (told_run lim s t v p k first o)
    ∙ log_run lim k rest more v u r q

-- ---- from a fresh set

-- no events tell a fresh set
pub tells_fresh : (lim : Limits) → Tells lim (λ k. []) fresh
tells_fresh lim k = refl

-- TELLS-MORE: a setting's events behind those before it tell the tables after it
pub tells_more : (lim : Limits) (s : Setting) (es more : History) (t u : Tables) → Tells lim es t → ((k : Kind) → Told k s (more k)) → change lim s t ≡ some u → Tells lim (behind es more) u
tells_more lim s es more t u h m e k =
    turn_append (run lim k) (es k) (more k) (own k fresh)
    ∙ ap (λ y. and_then y (in_turn (run lim k) (more k))) (h k)
    ∙ told_run lim s t u e k (more k) (m k)

-- TELLS-LOG: the events of settings that a fresh set took in turn tell its tables
pub tells_log : (lim : Limits) (l : List Setting) (es : History) (u : Tables) → ((k : Kind) → Log k l (es k)) → in_turn (apply lim) l fresh ≡ some u → Tells lim es u
tells_log lim l es u h e k = log_run lim k l (es k) fresh u (h k) (turn_change lim l fresh u e)
