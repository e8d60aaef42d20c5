-- A parameter by what it answers and its contents. Assumes nothing.
use Prim.Native.Nat.{ℕ}
use mathlib.Core.Path.{◌≡◌, refl, ap}
use mathlib.Core.Bool.{cond}
use lib.Dec.{eqb}
use Rattle.reports.specs.declared.Asked.{Asked}
use Rattle.reports.specs.declared.Asked.TheVariants.{Groups, Individuals, Lines, Key as AKey, QuickTexts, Home, Channels, System, StatusTexts, Hash as AHash}
use Rattle.reports.specs.Types.{report_byte}
use Rattle.reports.specs.Contents.{Contents, make}
use Rattle.reports.specs.Items.{Item, group, individual, line, key, quick, home, channel, system, status, hash, unknown, item_byte}

-- every parameter is one of these, or an error
pub data View : Item → Type 0 where
  known : (k : Asked) (x : Contents k) → View (make k x)
  other : (b : ℕ) → View (unknown b)

pub view : (i : Item) → View i
view (group p g) = known Groups (p, g)
view (individual p x) = known Individuals (p, x)
view (line p l) = known Lines (p, l)
view (key k) = known AKey k
view (quick i us) = known QuickTexts (i, us)
view (home h) = known Home h
view (channel n p) = known Channels (n, p)
view (system s) = known System s
view (status c p us) = known StatusTexts (c, p, us)
view (hash h) = known AHash h
view (unknown b) = other b

-- its byte is that of its type
pub byte_make : (k : Asked) (x : Contents k) → item_byte (make k x) ≡ report_byte k
byte_make Groups x = refl
byte_make Individuals x = refl
byte_make Lines x = refl
byte_make AKey x = refl
byte_make QuickTexts x = refl
byte_make Home x = refl
byte_make Channels x = refl
byte_make System x = refl
byte_make StatusTexts x = refl
byte_make AHash x = refl

-- a report's byte says its type
type_at : ℕ → Asked
type_at n =
    cond (eqb n 0x88) Groups (cond (eqb n 0x89) Individuals (cond (eqb n 0x8A) Lines (cond (eqb n 0x8B) AKey (cond (eqb n 0x8C) QuickTexts
    (cond (eqb n 0x8D) Home (cond (eqb n 0x8E) Channels (cond (eqb n 0x8F) System (cond (eqb n 0x90) StatusTexts AHash))))))))

type_at_byte : (k : Asked) → type_at (report_byte k) ≡ k
unfolding type_at
type_at_byte Groups = refl
type_at_byte Individuals = refl
type_at_byte Lines = refl
type_at_byte AKey = refl
type_at_byte QuickTexts = refl
type_at_byte Home = refl
type_at_byte Channels = refl
type_at_byte System = refl
type_at_byte StatusTexts = refl
type_at_byte AHash = refl

-- no two types share a byte
pub one_type : (k l : Asked) → report_byte k ≡ report_byte l → k ≡ l
one_type k l e = cc (type_at_byte k, type_at_byte l, ap type_at e)
