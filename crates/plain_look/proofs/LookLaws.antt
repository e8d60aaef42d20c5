-- Laws of looking through deeds for one key of one table. Assumes nothing.
use Rattle.lists.proofs.Kit.{ℕ, suc, ◌+◌, ◌-◌, ◌≤◌, ◌<◌, ◌≡◌, refl, sym, ap, ◌∙◌, subst, subst⁻¹, arith, Bool, true, false, cond, List, [], ◌∷◌, ◌++◌, length, Option, none, some, eqb, add-zero, add-suc, suc-add}
use denote.Enum.Declared.{tag_of}
use types.Run.{OneOf, miss}
use Rattle.writing.specs.declared.Kind.{Kind}
use Rattle.writing.specs.declared.Kind.TheVariants as kinds
use Rattle.writing.specs.contracts.Kind.{the_type}
use Rattle.tables.specs.Owns.{only}
use Rattle.tables.proofs.Owns.{same_kind}
use Rattle.events.specs.Events.{birth}
use Rattle.events.specs.Deeds.{Seen, nothing, clears, puts, removes}
use Rattle.events.specs.Deeds as D
use Rattle.events.specs.Knowing.{Known, unknown, first_stays, staying, put_known, know_step, know_on}
use Rattle.read_deeds.specs.declared.cursors.Cursor.{Cursor}
use Rattle.read_deeds.specs.declared.cursors.Moved.{Moved}
use Rattle.read_deeds.specs.declared.deeds.Deed.TheVariants.{Puts}
use Rattle.read_deeds.specs.declared.deeds.Put.{Put}
use Rattle.read_deeds.specs.Cursors.{Follow, NextDeed}
use Rattle.read_deeds.specs.ReadDeeds.{TextSeen, PutIs}
use Rattle.std.specs.declared.option.Option.{Option as Maybe}
use Rattle.std.specs.declared.option.Option.TheVariants.{Some, None}
use Rattle.plain_look.specs.declared.known.Found.{Found}
use Rattle.plain_look.specs.declared.known.Looked.{Looked}
use Rattle.plain_look.specs.Looking.{Where, anywhere, inside, Reads, PutSeen, FoundIs, LookedIs, deeds_most, LookIs, KnowPut, KnowStep}

-- ---- kinds

-- the numbers of the kinds other than quick texts
abbrev others : List ℕ
others = 0 ∷ 1 ∷ 2 ∷ 3 ∷ 5 ∷ 6 ∷ 7 ∷ 8 ∷ 9 ∷ 10 ∷ 11 ∷ 12 ∷ []

-- of these the latest entry stays
pub latest_stays : (k : Kind) → OneOf others (tag_of the_type k) → first_stays k ≡ false
latest_stays k other = go (first_stays k) refl
  where
    go : (b : Bool) → first_stays k ≡ b → b ≡ false
    go true h = absurd (miss others 4 tt (subst (λ (j : Kind). OneOf others (tag_of the_type j)) (same_kind k kinds.QuickTexts h) other))
    go false h = refl

-- ---- what is known

-- nothing is known where nothing is found
pub unknown_is : (w : Where) (r : Looked) → r.found ≡ None → r.often ≡ 0 → LookedIs w r unknown
unknown_is w r t z = record { found_at = subst⁻¹ (λ (x : Maybe Found). FoundIs w x none) t tt; often = z }

-- what is known after two runs of deeds
pub know_append : (k : Kind) (c n : ℕ) (xs ys : List D.Deed) (o : Known) → know_on k c n (xs ++ ys) o ≡ know_on k c (n + length xs) ys (know_on k c n xs o)
know_append k c n [] ys o = ap (λ (i : ℕ). know_on k c i ys o) (sym (add-zero n))
know_append k c n (d ∷ xs) ys o =
    let e : suc n + length xs ≡ n + suc (length xs) = suc-add n (length xs) ∙ sym (add-suc n (length xs)) in
    know_append k c (suc n) xs ys (know_step k c n d o) ∙ ap (λ (i : ℕ). know_on k c i ys (know_on k c (suc n) xs (know_step k c n d o))) e

-- a choice of two that were put no more often
either_often : (b : Bool) (x o : Known) (n : ℕ) → x.often ≤ n → o.often ≤ n → (cond b x o).often ≤ n
either_often true x o n p q = p
either_often false x o n p q = q

-- a deed puts an entry once at most
pub step_often : (k : Kind) (c n m : ℕ) (d : D.Deed) (o : Known) → o.often ≤ m → (know_step k c n d o).often ≤ suc m
step_often k c n m nothing o h = omega arith
step_often k c n m (clears j) o h = either_often (only j k) unknown o (suc m) (omega arith) (omega arith)
step_often k c n m (puts j a) o h =
    either_often (only j k) (cond (eqb a.key c) (put_known k n a o) o) o (suc m) (either_often (eqb a.key c) (put_known k n a o) o (suc m) (omega arith) (omega arith)) (omega arith)
step_often k c n m (removes j d) o h =
    either_often (only j k) (cond (eqb d c) unknown o) o (suc m) (either_often (eqb d c) unknown o (suc m) (omega arith) (omega arith)) (omega arith)

-- so that entries were put no more often than there were deeds
pub know_often : (k : Kind) (c n : ℕ) (ds : List D.Deed) (o : Known) → o.often ≤ n → (know_on k c n ds o).often ≤ n + length ds
know_often k c n [] o h = omega arith
know_often k c n (d ∷ ds) o h =
    let r : (know_on k c (suc n) ds (know_step k c n d o)).often ≤ suc n + length ds = know_often k c (suc n) ds (know_step k c n d o) (step_often k c n n d o h) in omega arith

-- ---- an entry that is put

-- an entry that was read is found where it does not matter where its text stands, and in the bytes that were read
seen_in : (w : Where) (m : List ℕ) (p : Put) (a : Seen) → Reads w m → PutIs m p a → PutSeen w p a
seen_in anywhere m p a r is = record { key = is.key; name = is.name; hidden = is.hidden; text = is.text.units }
seen_in (inside x) m p a r is = record { key = is.key; name = is.name; hidden = is.hidden; text = subst⁻¹ (λ (l : List ℕ). TextSeen l p.text a.text) r is.text }

-- found where the one before was born, as the one that stays
again_found : (w : Where) (k : Kind) (n : ℕ) (b : Found) (q : Put) (a : Seen) (f : Option (ℕ × Seen)) → FoundIs w (Some b) f → ((e : ℕ × Seen) → PutSeen w b.put e.1 → PutSeen w q (cond (first_stays k) e.1 a))
    → FoundIs w (Some (record { birth = b.birth; put = q })) (some (birth n f, staying (first_stays k) f a))
again_found w k n b q a none h s = absurd h
again_found w k n b q a (some e) h s = (h.0, s e h.1)

-- put once more where the latest stays
pub put_latest : (k : Kind) (n : ℕ) (p : Put) (known : Looked) (t : ℕ) (once : known.often < deeds_most → t ≡ suc known.often) (b : Found) → known.found ≡ Some b → first_stays k ≡ false
    → KnowPut k n p known (record { found = Some (record { birth = b.birth; put = p }); often = t })
put_latest k n p known t once b there latest w a o is few h = record {
  found_at = again_found w k n b p a o.found_at (subst (λ (x : Maybe Found). FoundIs w x o.found_at) there h.found_at) (λ e s. subst⁻¹ (λ (c : Bool). PutSeen w p (cond c e.1 a)) latest is);
  often = once (subst⁻¹ (λ (i : ℕ). i < deeds_most) h.often few) ∙ ap suc h.often;
}

-- ---- one deed

module _ (k : Kind) (key n : ℕ) (known : Looked) where
  -- an entry is put
  pub know_puts : (j : Kind) (p : Put) (b d : Bool) (r : Looked) → b ≡ only j k → d ≡ eqb p.key key
      → ((w : Where) (a : Seen) (o : Known) → PutSeen w p a → o.often < deeds_most → LookedIs w known o → LookedIs w r (cond b (cond d (put_known k n a o) o) o)) → KnowStep k key n (Puts j p) known r
  know_puts j p b d r e g f w m nothing o s is few h = absurd is
  know_puts j p b d r e g f w m (clears i) o s is few h = absurd is
  know_puts j p b d r e g f w m (puts i a) o s is few h =
      subst (λ (x : Bool). LookedIs w r (cond x (cond (eqb a.key key) (put_known k n a o) o) o)) (e ∙ ap (λ (x : Kind). only x k) is.0)
      (subst (λ (y : Bool). LookedIs w r (cond b (cond y (put_known k n a o) o) o)) (g ∙ ap (λ (x : ℕ). eqb x key) is.1.key) (f w a o (seen_in w m p a s is.1) few h))
  know_puts j p b d r e g f w m (removes i c) o s is few h = absurd is

-- ---- many deeds

-- the deeds that are left from the i-th on, which lead from what is known there to what is known at the end
pub record LookLeft (w : Where) (m : List ℕ) (first count : ℕ) (k : Kind) (key : ℕ) (here : Cursor) (now_known : Looked) (i : ℕ) (more : List D.Deed) (end : Known) : Type 0 where
  pub rest : List D.Deed
  pub so_far : Known
  pub follow : Follow m here (rest ++ more)
  pub many : length rest ≡ count - i
  pub few : so_far.often ≤ first + i
  pub known_is : LookedIs w now_known so_far
  pub same : know_on k key (first + i) rest so_far ≡ end

-- whatever deeds followed the first cursor
abbrev pub Looks : List ℕ → (first count : ℕ) → Kind → ℕ → Cursor → Looked → Cursor → Looked → ℕ → Type 0
Looks m first count k key cursor known here now_known i =
    (w : Where) (ds more : List D.Deed) (o : Known) → Reads w m → Follow m cursor (ds ++ more) → length ds ≡ count → first + count < deeds_most → o.often ≤ first → LookedIs w known o
    → LookLeft w m first count k key here now_known i more (know_on k key first ds o)

module _ (m : List ℕ) (first count : ℕ) (k : Kind) (key : ℕ) where
  -- the first of those left is passed
  left_on : (w : Where) (here : Cursor) (now_known r : Looked) (moved : Moved) (i : ℕ) (rest more : List D.Deed) (so_far end : Known) → Reads w m → first + count < deeds_most → i < count
      → NextDeed m here moved → KnowStep k key (first + i) moved.deed now_known r → Follow m here (rest ++ more) → length rest ≡ count - i → so_far.often ≤ first + i
      → LookedIs w now_known so_far → know_on k key (first + i) rest so_far ≡ end → LookLeft w m first count k key moved.cursor r (i + 1) more end
  left_on w here now_known r moved i [] more so_far end s small h next step follow many few is same = absurd (omega (arith, many))
  left_on w here now_known r moved i (d ∷ rest) more so_far end s small h next step follow many few is same =
      let e : first + (i + 1) ≡ suc (first + i) = omega arith in
      let f : (know_step k key (first + i) d so_far).often ≤ suc (first + i) = step_often k key (first + i) (first + i) d so_far few in
      record {
        rest = rest;
        so_far = know_step k key (first + i) d so_far;
        follow = (next d (rest ++ more) follow).1;
        many = omega (arith, many);
        few = omega (arith, f, e);
        known_is = step w m d so_far s (next d (rest ++ more) follow).0 (omega arith) is;
        same = ap (λ (j : ℕ). know_on k key j rest (know_step k key (first + i) d so_far)) e ∙ same;
      }

  -- the same for all that could follow
  pub look_on : (cursor : Cursor) (known : Looked) (here : Cursor) (now_known r : Looked) (moved : Moved) (i : ℕ) → i < count → NextDeed m here moved
      → KnowStep k key (first + i) moved.deed now_known r → Looks m first count k key cursor known here now_known i → Looks m first count k key cursor known moved.cursor r (i + 1)
  look_on cursor known here now_known r moved i h next step g w ds more o s follow many small few is =
      let l = g w ds more o s follow many small few is in
      left_on w here now_known r moved i l.rest more l.so_far (know_on k key first ds o) s small h next step l.follow l.many l.few l.known_is l.same

  -- none is left
  none_left : (w : Where) (now_known : Looked) (j : ℕ) (rest : List D.Deed) (so_far end : Known) → length rest ≡ 0 → LookedIs w now_known so_far → know_on k key j rest so_far ≡ end
      → LookedIs w now_known end
  none_left w now_known j [] so_far end z is same = subst (LookedIs w now_known) same is
  none_left w now_known j (d ∷ rest) so_far end z is same = absurd (omega (arith, z))

  -- what is known then is the answer
  pub look_ends : (cursor : Cursor) (known : Looked) (here : Cursor) (now_known : Looked) (i : ℕ) → count ≤ i → Looks m first count k key cursor known here now_known i
      → LookIs m cursor first count k key known now_known
  look_ends cursor known here now_known i h g w ds more o s follow many small few is =
      let l = g w ds more o s follow many small few is in
      none_left w now_known (first + i) l.rest l.so_far (know_on k key first ds o) (omega (arith, l.many)) l.known_is l.same
