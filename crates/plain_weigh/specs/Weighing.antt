-- What a deed makes of what its table weighs, as the code weighs it. No promise cites these.
use Rattle.std.specs.Prelude.{ℕ, ◌+◌, ◌*◌, ◌<◌, ◌≡◌, Bool, List, ◌∷◌, ◌++◌, length}
use Rattle.std.proofs.Math.Option.{Option, none, some}
use Rattle.std.specs.declared.option.Option.{Option as Answer}
use Rattle.std.specs.declared.option.Option.TheVariants.{Some, None}
use Rattle.lists.specs.Every.{All}
use Rattle.writing.specs.declared.Coding.TheVariants.{Unicode16}
use Rattle.writing.specs.declared.Kind.{Kind}
use Rattle.tables.specs.Limits.{handheld}
use Rattle.events.specs.Deeds.{Seen, nothing, clears, puts, removes}
use Rattle.events.specs.Deeds as D
use Rattle.events.specs.Knowing.{Known, know, Weight, room_of, takes_place, entries_put, gone, known_bytes, first_stays, staying, weigh, known_for, weigh_all}
use Rattle.events.specs.Sums.{text_bytes}
use Rattle.read_deeds.specs.declared.cursors.Cursor.{Cursor}
use Rattle.read_deeds.specs.declared.deeds.Deed.{Deed}
use Rattle.read_deeds.specs.declared.deeds.Put.{Put}
use Rattle.read_deeds.specs.declared.deeds.Turn.{Turn}
use Rattle.read_deeds.specs.Cursors.{Follow}
use Rattle.read_deeds.specs.ReadDeeds.{none_left, DeedIs, TurnIs}
use Rattle.plain_look.specs.declared.known.Looked.{Looked}
use Rattle.plain_look.specs.Looking.{anywhere, PutSeen, LookedIs}
use Rattle.plain_weigh.specs.declared.weighing.Before.{Before}
use Rattle.plain_weigh.specs.declared.weights.Weight.{Weight as Weigh}

-- ---- one deed

-- what the code's numbers weigh
abbrev pub weighs : Weigh → Weight
weighs w = record { entries = w.entries; bytes = w.bytes }

-- the room of a table
abbrev pub room_said : Answer ℕ → Option ℕ
room_said (Some n) = some n
room_said None = none

abbrev pub RoomIs : Kind → Answer ℕ → Type 0
RoomIs k r = room_said r ≡ room_of handheld k

abbrev pub TakesPlace : Kind → Looked → Bool → Type 0
TakesPlace k known r = (o : Known) → LookedIs anywhere known o → r ≡ takes_place k o

-- how many entries there are
abbrev pub entries_said : Answer ℕ → Option ℕ
entries_said (Some n) = some n
entries_said None = none

abbrev pub EntriesPut : Answer ℕ → Bool → ℕ → Answer ℕ → Type 0
EntriesPut room takes n r = entries_said r ≡ entries_put (room_said room) takes n

abbrev pub GoneIs : Kind → Looked → ℕ → Type 0
GoneIs k known r = (o : Known) → LookedIs anywhere known o → r ≡ gone k o

-- texts of fewer units than this are weighed
abbrev pub units_most : ℕ
units_most = 64

-- a text that is seen is short
abbrev pub Short : D.Deed → Type 0
Short nothing = Unit {0}
Short (clears k) = Unit {0}
Short (puts k a) = length a.text < units_most
Short (removes k c) = Unit {0}

-- and so is what is known
abbrev pub ShortFound : Option (ℕ × Seen) → Type 0
ShortFound none = Unit {0}
ShortFound (some e) = length e.1.text < units_most

abbrev pub UnitsTake : ℕ → ℕ → Type 0
UnitsTake units r = (units < units_most → r ≡ 2 * units) × (r < 0x200000000)

abbrev pub KnownBytes : Looked → ℕ → Type 0
KnownBytes known r = ((o : Known) → LookedIs anywhere known o → ShortFound o.found_at → r ≡ known_bytes o) × (r < 0x200000000)

abbrev pub BytesPut : Kind → Put → Looked → ℕ → Type 0
BytesPut k p known r =
    ((o : Known) (a : Seen) → LookedIs anywhere known o → ShortFound o.found_at → PutSeen anywhere p a → length a.text < units_most
    → r ≡ text_bytes (staying (first_stays k) o.found_at a).text) × (r < 0x200000000)

-- the weight then, or that there is no room
abbrev pub weighed_as : Answer Weigh → Option Weight
weighed_as (Some w) = some (weighs w)
weighed_as None = none

abbrev pub WeighPut : Kind → Put → Looked → Weigh → Answer Weigh → Type 0
WeighPut k p known w r =
    (o : Known) (a : Seen) → LookedIs anywhere known o → ShortFound o.found_at → PutSeen anywhere p a → length a.text < units_most → w.bytes < 0x100000000
    → weighed_as r ≡ weigh handheld (puts k a) o (weighs w)

abbrev pub WeighRemoved : Kind → Looked → Weigh → Weigh → Type 0
WeighRemoved k known w r =
    (o : Known) (c : ℕ) → LookedIs anywhere known o → ShortFound o.found_at → some (weighs r) ≡ weigh handheld (removes k c) o (weighs w)

abbrev pub WeighIs : Deed → Looked → Weigh → Answer Weigh → Type 0
WeighIs d known w r =
    (m : List ℕ) (e : D.Deed) (o : Known) → DeedIs m d e → Short e → LookedIs anywhere known o → ShortFound o.found_at → w.bytes < 0x100000000
    → weighed_as r ≡ weigh handheld e o (weighs w)

-- ---- the deeds of a setting

-- the deeds of a log, of which the first request stands behind four bytes
abbrev pub log_start : Cursor
log_start = record { left = none_left; at = 4; settings = 0; coding = Unicode16 }

-- the log has these deeds, and the request those before the ones that come
pub record Read (log m : List ℕ) (b : Before) (L M S : List D.Deed) : Type 0 where
  pub logged : Follow log log_start L
  pub log_count : length L ≡ b.logged
  pub passed : Follow m b.first (M ++ S)
  pub count : length M ≡ b.passed
  pub few : b.logged + b.passed + length S < 0x80000000
  pub short_log : All Short L
  pub short : All Short (M ++ S)

-- what is known of a key after all of them
abbrev pub LookBoth : List ℕ → List ℕ → Before → Kind → ℕ → Looked → Type 0
LookBoth log m b k key r = (L M S : List D.Deed) → Read log m b L M S → LookedIs anywhere r (know k key (L ++ M))

abbrev pub KnownFor : List ℕ → List ℕ → Before → Deed → Looked → Type 0
KnownFor log m b d r = (L M S : List D.Deed) (e : D.Deed) → Read log m b L M S → DeedIs m d e → LookedIs anywhere r (known_for (L ++ M) e)

abbrev pub WeighNext : List ℕ → List ℕ → Before → Deed → Weigh → Answer Weigh → Type 0
WeighNext log m b d w r =
    (L M S : List D.Deed) (e : D.Deed) → Read log m b L M (e ∷ S) → DeedIs m d e → w.bytes < 0x100000000
    → weighed_as r ≡ weigh handheld e (known_for (L ++ M) e) (weighs w)

-- the weight after all deeds of a setting, and how many deeds of the request were read
abbrev pub TriedAs : ℕ → Answer (Weigh × ℕ) → Option Weight → Type 0
TriedAs n (Some r) (some x) = (weighs r.0 ≡ x) × (r.1 ≡ n)
TriedAs n (Some r) none = ⊥
TriedAs n None (some x) = ⊥
TriedAs n None none = Unit {0}

abbrev pub Weighs : List ℕ → List ℕ → Before → Turn → Weigh → Answer (Weigh × ℕ) → Type 0
Weighs log m b t w r =
    (L M S : List D.Deed) → Read log m b L M S → TurnIs m t S → w.bytes < 0x10000 → length S < 0x10000
    → TriedAs (b.passed + length S) r (weigh_all handheld (L ++ M) S (weighs w))
