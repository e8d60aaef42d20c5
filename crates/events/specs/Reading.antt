-- Reading what was done in turn, with what is known so far and no table.
use Rattle.std.specs.Prelude.{List, [], ◌∷◌, ◌++◌}
use Rattle.std.proofs.Math.Option.{Option, some}
use Rattle.tables.specs.Apply.{and_then}

-- each event changes what is known
abbrev pub reading : {E S : Type 0} → (E → S → S) → List E → S → S
reading f [] s = s
reading f (e ∷ es) s = reading f es (f e s)

-- each changes it by the events that were read before
abbrev pub reading_on : {E S : Type 0} → (List E → E → S → S) → List E → List E → S → S
reading_on f read [] s = s
reading_on f read (e ∷ es) s = reading_on f (read ++ (e ∷ [])) es (f read e s)

-- and as long as there is room
abbrev pub while_room : {E S : Type 0} → (List E → E → S → Option S) → List E → List E → S → Option S
while_room f read [] s = some s
while_room f read (e ∷ es) s = and_then (f read e s) (while_room f (read ++ (e ∷ [])) es)
