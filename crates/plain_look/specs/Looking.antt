-- What looking through deeds answers: what is known of a key, and what stands in a row.
use Rattle.std.specs.Prelude.{ℕ, ◌+◌, ◌≤◌, ◌<◌, ◌≡◌, Bool, cond, List, ◌++◌, length}
use Rattle.std.proofs.Math.Option.{Option, none, some}
use Rattle.std.specs.declared.option.Option.{Option as Maybe}
use Rattle.std.specs.declared.option.Option.TheVariants.{Some, None}
use Rattle.writing.specs.declared.Kind.{Kind}
use Rattle.writing.specs.declared.Kind.TheVariants as kinds
use Rattle.writing.specs.Settings.{Text}
use Rattle.read_fields.specs.declared.texts.TextPlace.{TextPlace}
use Rattle.tables.specs.Owns.{only}
use Rattle.events.specs.Events.{entry}
use Rattle.events.specs.Deeds.{Seen}
use Rattle.events.specs.Deeds as D
use Rattle.events.specs.Knowing.{Known, put_known, know_step, know_on, know, born_here, row_on, row_seen}
use Rattle.read_deeds.specs.declared.cursors.Cursor.{Cursor}
use Rattle.read_deeds.specs.declared.deeds.Deed.{Deed}
use Rattle.read_deeds.specs.declared.deeds.Put.{Put}
use Rattle.read_deeds.specs.Cursors.{Follow}
use Rattle.read_deeds.specs.ReadDeeds.{TextSeen, DeedIs}
use Rattle.plain_look.specs.declared.known.Found.{Found}
use Rattle.plain_look.specs.declared.known.Looked.{Looked}

-- ---- what is known of a key

-- where the text of an entry is said to stand: nowhere in particular, or in these bytes
pub data Where : Type 0 where
  anywhere : Where
  inside : List ℕ → Where

abbrev pub TextIn : Where → TextPlace → Text → Type 0
TextIn anywhere p us = p.units ≡ length us
TextIn (inside m) p us = TextSeen m p us

-- the bytes that are read are those, or it does not matter
abbrev pub Reads : Where → List ℕ → Type 0
Reads anywhere m = Unit {0}
Reads (inside w) m = w ≡ m

-- an entry that was found is this
pub record PutSeen (w : Where) (p : Put) (a : Seen) : Type 0 where
  pub key : p.key ≡ a.key
  pub name : p.name ≡ a.name
  pub hidden : p.hidden ≡ a.hidden
  pub text : TextIn w p.text a.text

abbrev pub FoundIs : Where → Maybe Found → Option (ℕ × Seen) → Type 0
FoundIs w None none = Unit {0}
FoundIs w None (some e) = ⊥
FoundIs w (Some r) none = ⊥
FoundIs w (Some r) (some e) = (r.birth ≡ e.0) × PutSeen w r.put e.1

-- what was found is what is known
pub record LookedIs (w : Where) (r : Looked) (o : Known) : Type 0 where
  pub found_at : FoundIs w r.found o.found_at
  pub often : r.often ≡ o.often

-- so many deeds can be told apart by number
abbrev pub deeds_most : ℕ
deeds_most = 0x100000000

-- what looking for a key answers, through deeds that follow a cursor: what is known after them
abbrev pub LookIs : List ℕ → Cursor → (first count : ℕ) → Kind → ℕ → Looked → Looked → Type 0
LookIs m c first count k key known r =
    (w : Where) (ds more : List D.Deed) (o : Known) → Reads w m → Follow m c (ds ++ more) → length ds ≡ count → first + count < deeds_most → o.often ≤ first
    → LookedIs w known o → LookedIs w r (know_on k key first ds o)

-- ---- rows

-- what was found in a row
abbrev pub SeenIs : List ℕ → Maybe Put → Option Seen → Type 0
SeenIs m None none = Unit {0}
SeenIs m None (some a) = ⊥
SeenIs m (Some r) none = ⊥
SeenIs m (Some r) (some a) = PutSeen (inside m) r a

-- what looking for a row answers
abbrev pub RowIs : List ℕ → Cursor → (count : ℕ) → Kind → ℕ → Maybe Put → Type 0
RowIs m c count k i r = (ds : List D.Deed) → Follow m c ds → length ds ≡ count → count < deeds_most → SeenIs m r (row_seen k ds i)

-- ---- kinds by number

abbrev pub kind_number : Kind → ℕ
kind_number kinds.GroupContacts = 0
kind_number kinds.IndividualContacts = 1
kind_number kinds.Lines = 2
kind_number kinds.Key = 3
kind_number kinds.QuickTexts = 4
kind_number kinds.Home = 5
kind_number kinds.Channels = 6
kind_number kinds.System = 7
kind_number kinds.StatusTexts = 8
kind_number kinds.Group = 9
kind_number kinds.Individual = 10
kind_number kinds.LineSlot = 11
kind_number kinds.Last = 12

abbrev pub KindNumber : Kind → ℕ → Type 0
KindNumber k r = (r ≡ kind_number k) × (r < 13)

abbrev pub KindsSame : Kind → Kind → Bool → Type 0
KindsSame j k r = r ≡ only j k

-- ---- inner steps: no promise cites these

-- after an entry with the key
abbrev pub KnowPut : Kind → ℕ → Put → Looked → Looked → Type 0
KnowPut k n p known r =
    (w : Where) (a : Seen) (o : Known) → PutSeen w p a → o.often < deeds_most → LookedIs w known o → LookedIs w r (put_known k n a o)

-- after a deed
abbrev pub KnowStep : Kind → ℕ → ℕ → Deed → Looked → Looked → Type 0
KnowStep k key n d known r =
    (w : Where) (m : List ℕ) (e : D.Deed) (o : Known) → Reads w m → DeedIs m d e → o.often < deeds_most → LookedIs w known o → LookedIs w r (know_step k key n e o)

-- the entry that a deed put is found where it was born there
abbrev pub born : ℕ → Option (ℕ × Seen) → Option Seen
born n o = cond (born_here n o) (entry o) none

-- by what a deed puts to the table of a kind
abbrev pub born_of : Kind → List D.Deed → ℕ → D.Deed → Option Seen
born_of k all n D.nothing = none
born_of k all n (D.clears j) = none
born_of k all n (D.puts j a) = cond (only j k) (born n (know k a.key all).found_at) none
born_of k all n (D.removes j c) = none

abbrev pub BornHere : List ℕ → Cursor → (count : ℕ) → Kind → ℕ → Deed → Maybe Put → Type 0
BornHere m c count k n d r =
    (ds : List D.Deed) (e : D.Deed) → Follow m c ds → length ds ≡ count → count < deeds_most → DeedIs m d e → SeenIs m r (born_of k ds n e)

-- the entry of a list in a position
abbrev pub RowOn : List ℕ → Cursor → (count : ℕ) → Kind → ℕ → Maybe Put → Type 0
RowOn m c count k i r = (ds : List D.Deed) → Follow m c ds → length ds ≡ count → count < deeds_most → SeenIs m r (row_on k ds 0 ds i)
