-- Reading goes on behind what was read, so that a log and what follows it are read by one reader. Assumes nothing.
use Rattle.lists.proofs.Kit.{◌≡◌, refl, sym, ap, ◌∙◌, List, [], ◌∷◌, ◌++◌, append-nil, append_snoc, Option, none, some}
use Rattle.tables.specs.Apply.{and_then, in_turn}
use Rattle.events.specs.Reading.{reading, reading_on, while_room}

-- with what is known
pub reading_append : {E S : Type 0} (f : E → S → S) (a b : List E) (s : S) → reading f (a ++ b) s ≡ reading f b (reading f a s)
reading_append f [] b s = refl
reading_append f (e ∷ a) b s = reading_append f a b (f e s)

-- with what was read, too
pub on_append : {E S : Type 0} (f : List E → E → S → S) (read a b : List E) (s : S) → reading_on f read (a ++ b) s ≡ reading_on f (read ++ a) b (reading_on f read a s)
on_append {E = E} f read [] b s = ap (λ (r : List E). reading_on f r b s) (sym (append-nil read))
on_append {E = E} f read (e ∷ a) b s =
    on_append f (read ++ (e ∷ [])) a b (f read e s)
    ∙ ap (λ (r : List E). reading_on f r b (reading_on f (read ++ (e ∷ [])) a (f read e s))) (append_snoc read e a)

-- and as long as there is room
pub while_append : {E S : Type 0} (f : List E → E → S → Option S) (read a b : List E) (s : S) → while_room f read (a ++ b) s ≡ and_then (while_room f read a s) (while_room f (read ++ a) b)
while_append {E = E} f read [] b s = ap (λ (r : List E). while_room f r b s) (sym (append-nil read))
while_append {E = E} {S = S} f read (e ∷ a) b s = go (f read e s) (while_append f (read ++ (e ∷ [])) a b)
  where
    go : (o : Option S)
        → ((u : S) → while_room f (read ++ (e ∷ [])) (a ++ b) u ≡ and_then (while_room f (read ++ (e ∷ [])) a u) (while_room f ((read ++ (e ∷ [])) ++ a) b))
        → and_then o (while_room f (read ++ (e ∷ [])) (a ++ b)) ≡ and_then (and_then o (while_room f (read ++ (e ∷ [])) a)) (while_room f (read ++ (e ∷ a)) b)
    go none r = refl
    go (some u) r = r u ∙ ap (λ (l : List E). and_then (while_room f (read ++ (e ∷ [])) a u) (while_room f l b)) (append_snoc read e a)

-- steps that always have room
pub always_room : {E S : Type 0} (f : E → S → S) (es : List E) (s : S) → in_turn (λ e u. some (f e u)) es s ≡ some (reading f es s)
always_room f [] s = refl
always_room f (e ∷ es) s = always_room f es (f e s)
