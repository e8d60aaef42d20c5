-- Settings one after another, told by their events for each table.
use Rattle.std.specs.Prelude.{◌≡◌, false, List, [], ◌∷◌, ◌++◌}
use Rattle.std.proofs.Math.Option.{some}
use Rattle.writing.specs.declared.Kind.{Kind}
use Rattle.writing.specs.Settings.{Setting, kind}
use Rattle.tables.specs.declared.limits.Limits.{Limits}
use Rattle.tables.specs.Apply.{in_turn}
use Rattle.tables.specs.Owns.{own, only}
use Rattle.tables.specs.Tables.{Tables, fresh}
use Rattle.events.specs.Settings.{Does, run, Its}

-- a setting's events for the table of a kind: those of its own table, and none for another
pub data Told : (k : Kind) → Setting → List (Does k) → Type 0 where
  its_own : {s : Setting} {es : List (Does (kind s))} → Its s es → Told (kind s) s es
  not_its : {k : Kind} {s : Setting} → only (kind s) k ≡ false → Told k s []

-- the events of each setting for the table of a kind, in order
pub data Log (k : Kind) : List Setting → List (Does k) → Type 0 where
  no_setting : Log k [] []
  then_setting : {s : Setting} {l : List Setting} {es more : List (Does k)} → Told k s es → Log k l more → Log k (s ∷ l) (es ++ more)

-- events for every table
abbrev pub History : Type 0
History = (k : Kind) → List (Does k)

-- what they make of the tables of a fresh set
abbrev pub Tells : Limits → History → Tables → Type 0
Tells lim es t = (k : Kind) → in_turn (run lim k) (es k) (own k fresh) ≡ some (own k t)

-- events, and then others
abbrev pub behind : History → History → History
behind es more k = es k ++ more k

-- the events of one setting for every table: its own, and none for the others
pub record Adds (s : Setting) (more : History) : Type 0 where
  pub its : Its s (more (kind s))
  pub others : (k : Kind) → only (kind s) k ≡ false → more k ≡ []
