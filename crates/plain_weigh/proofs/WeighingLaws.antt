-- Laws of weighing the deeds of a setting in turn, by what is known of their keys. Assumes nothing.
use Rattle.lists.proofs.Kit.{ℕ, suc, ◌+◌, ◌≤◌, ◌<◌, ◌≡◌, ap, ap₂, ◌∙◌, subst, subst⁻¹, arith, Bool, true, false, cond, List, [], ◌∷◌, ◌++◌, length, append-nil, Option, none, some, eqb}
use Rattle.lists.specs.Every.{All}
use Rattle.lists.proofs.Every.{all_append, all_left, all_right}
use Rattle.writing.specs.declared.Kind.{Kind}
use Rattle.tables.specs.Owns.{only}
use Rattle.events.specs.Deeds.{Seen, nothing, clears, puts, removes}
use Rattle.events.specs.Deeds as D
use Rattle.events.specs.Knowing.{Known, unknown, staying, first_stays, put_known, know_step, know_on, know, known_for}
use Rattle.read_deeds.specs.declared.cursors.Cursor.{Cursor}
use Rattle.read_deeds.specs.declared.deeds.Deed.{Deed}
use Rattle.read_deeds.specs.declared.deeds.Deed.TheVariants.{Puts, Removes}
use Rattle.read_deeds.specs.declared.deeds.Put.{Put}
use Rattle.read_deeds.specs.Cursors.{Follow}
use Rattle.plain_look.specs.declared.known.Looked.{Looked}
use Rattle.plain_look.specs.Looking.{anywhere, LookedIs, LookIs}
use Rattle.plain_look.proofs.LookLaws.{know_append, know_often}
use Rattle.plain_weigh.specs.declared.weighing.Before.{Before}
use Rattle.plain_weigh.specs.declared.weights.Weight.{Weight as Weigh}
use Rattle.std.specs.declared.option.Option.{Option as Answer}
use Rattle.plain_weigh.specs.Weighing.{units_most, Short, ShortFound, WeighIs, log_start, Read, LookBoth, KnownFor, WeighNext}

-- ---- what is known is short

-- a choice of two that are short
either_short : (b : Bool) (x o : Known) → ShortFound x.found_at → ShortFound o.found_at → ShortFound (cond b x o).found_at
either_short true x o p q = p
either_short false x o p q = q

-- the text that stays is short
pub stays_short : (b : Bool) (f : Option (ℕ × Seen)) (a : Seen) → length a.text < units_most → ShortFound f → length (staying b f a).text < units_most
stays_short b none a s h = s
stays_short true (some e) a s h = h
stays_short false (some e) a s h = s

-- what is known after one deed more is short
step_short : (k : Kind) (c n : ℕ) (d : D.Deed) (o : Known) → Short d → ShortFound o.found_at → ShortFound (know_step k c n d o).found_at
step_short k c n nothing o s h = h
step_short k c n (clears j) o s h = either_short (only j k) unknown o tt h
step_short k c n (puts j a) o s h =
    either_short (only j k) (cond (eqb a.key c) (put_known k n a o) o) o (either_short (eqb a.key c) (put_known k n a o) o (stays_short (first_stays k) o.found_at a s h) h) h
step_short k c n (removes j d) o s h = either_short (only j k) (cond (eqb d c) unknown o) o (either_short (eqb d c) unknown o tt h) h

-- after deeds whose texts are short
know_short : (k : Kind) (c n : ℕ) (ds : List D.Deed) (o : Known) → All Short ds → ShortFound o.found_at → ShortFound (know_on k c n ds o).found_at
know_short k c n [] o s h = h
know_short k c n (d ∷ ds) o s h = know_short k c (suc n) ds (know_step k c n d o) s.1 (step_short k c n d o s.0 h)

-- of the key that a deed is about
pub for_short : (ds : List D.Deed) (e : D.Deed) → All Short ds → ShortFound (known_for ds e).found_at
for_short ds nothing s = tt
for_short ds (clears k) s = tt
for_short ds (puts k a) s = know_short k a.key 0 ds unknown s tt
for_short ds (removes k c) s = know_short k c 0 ds unknown s tt

-- ---- looking through the log and the request

-- all deeds before are looked through, the log's first
pub both_looked : (log m : List ℕ) (b : Before) (k : Kind) (key : ℕ) (start : Cursor) (none_known known r : Looked) → start ≡ log_start → LookedIs anywhere none_known unknown
    → LookIs log start 0 b.logged k key none_known known → LookIs m b.first b.logged b.passed k key known r → LookBoth log m b k key r
both_looked log m b k key start none_known known r at z f g L M S read =
    let few : b.logged + b.passed + length S < 0x80000000 = read.few in
    let n : length L ≡ b.logged = read.log_count in
    let o : Known = know_on k key 0 L unknown in
    let often : o.often ≤ 0 + length L = know_often k key 0 L unknown (omega arith) in
    let first : LookedIs anywhere known o = f anywhere L [] unknown tt (subst⁻¹ (λ (c : Cursor). Follow log c (L ++ [])) at (subst⁻¹ (Follow log log_start) (append-nil L) read.logged)) n (omega arith) (omega arith) z in
    let second : LookedIs anywhere r (know_on k key b.logged M o) = g anywhere M S o tt read.passed read.count (omega arith) (omega (arith, often, n)) first in
    let e : 0 + length L ≡ b.logged = omega (arith, n) in
    subst⁻¹ (LookedIs anywhere r) (know_append k key 0 L M unknown ∙ ap (λ (i : ℕ). know_on k key i M o) e) second

module _ (log m : List ℕ) (b : Before) where
  -- a deed that is another
  pub for_as : (d x : Deed) (r : Looked) → d ≡ x → KnownFor log m b x r → KnownFor log m b d r
  for_as d x r e h = subst⁻¹ (λ (y : Deed). KnownFor log m b y r) e h

  -- the key of an entry that is put
  pub for_puts : (k : Kind) (p : Put) (r : Looked) → LookBoth log m b k p.key r → KnownFor log m b (Puts k p) r
  for_puts k p r f L M S nothing read is = absurd is
  for_puts k p r f L M S (clears j) read is = absurd is
  for_puts k p r f L M S (puts j a) read is = subst (LookedIs anywhere r) (ap₂ (λ (x : Kind) (y : ℕ). know x y (L ++ M)) is.0 is.1.key) (f L M S read)
  for_puts k p r f L M S (removes j c) read is = absurd is

  -- the key of those that go
  pub for_removes : (k : Kind) (c : ℕ) (r : Looked) → LookBoth log m b k c r → KnownFor log m b (Removes k c) r
  for_removes k c r f L M S nothing read is = absurd is
  for_removes k c r f L M S (clears j) read is = absurd is
  for_removes k c r f L M S (puts j a) read is = absurd is
  for_removes k c r f L M S (removes j d) read is = subst (LookedIs anywhere r) (ap₂ (λ (x : Kind) (y : ℕ). know x y (L ++ M)) is.0 is.1) (f L M S read)

  -- the texts of all deeds before are short
  pub before_short : (L M S : List D.Deed) → Read log m b L M S → All Short (L ++ M)
  before_short L M S read = all_append Short L M read.short_log (all_left Short M S read.short)

  -- one deed more is weighed by what is known of its key
  pub next_weighed : (d : Deed) (w : Weigh) (known : Looked) (r : Answer Weigh) → KnownFor log m b d known → WeighIs d known w r → WeighNext log m b d w r
  next_weighed d w known r f g L M S e read is small =
      g m e (known_for (L ++ M) e) is (all_right Short M (e ∷ S) read.short).0 (f L M (e ∷ S) e read is) (for_short (L ++ M) e (before_short L M (e ∷ S) read)) small
