-- Laws of weighing all deeds of a setting: one after another, each by what is known after those before it. Assumes nothing.
use Rattle.lists.proofs.Kit.{ℕ, suc, ◌+◌, ◌-◌, ◌*◌, ◌≤◌, ◌<◌, ◌≡◌, refl, sym, ap, ◌∙◌, subst, subst⁻¹, arith, List, [], ◌∷◌, ◌++◌, length, length-append, append_assoc, Option, none, some, option_some_injective, option_none_ne_some}
use Rattle.lists.specs.Every.{All}
use Rattle.lists.proofs.Every.{all_right}
use Rattle.tables.specs.Apply.{and_then}
use Rattle.tables.specs.Limits.{handheld}
use Rattle.events.specs.Deeds.{nothing, clears, puts, removes}
use Rattle.events.specs.Deeds as D
use Rattle.events.specs.Knowing.{Known, staying, first_stays, Weight, room_of, takes_place, entries_put, known_bytes, with_bytes, weigh, known_for, weigh_all}
use Rattle.read_deeds.specs.declared.deeds.Left.{Left}
use Rattle.read_deeds.specs.declared.deeds.Turn.{Turn}
use Rattle.read_deeds.specs.Cursors.{Follow}
use Rattle.read_deeds.specs.ReadDeeds.{DeedIs, LeftIs, NextEntry}
use Rattle.plain_weigh.specs.declared.weighing.Before.{Before}
use Rattle.read_deeds.proofs.EntryLaws.{left_counted}
use Rattle.plain_weigh.specs.declared.weights.Weight.{Weight as Weigh}
use Rattle.std.specs.declared.option.Option.{Option as Answer}
use Rattle.std.specs.declared.option.Option.TheVariants.{Some, None}
use Rattle.plain_weigh.specs.Weighing.{weighs, Short, ShortFound, weighed_as, Read, WeighNext, TriedAs, Weighs}
use Rattle.plain_weigh.proofs.WeighingLaws.{stays_short, for_short, before_short}

-- ---- a deed adds little

-- the bytes of a weight that was made
bytes_made : (n : Option ℕ) (b : ℕ) (x : Weight) → with_bytes n b ≡ some x → b ≡ x.bytes
bytes_made none b x e = absurd (option_none_ne_some x e)
bytes_made (some n) b x e = ap (λ (y : Weight). y.bytes) (option_some_injective (record { entries = n; bytes = b }) x e)

-- a deed adds at most the bytes of a short text
grows : (e : D.Deed) (o : Known) (w x : Weight) → Short e → ShortFound o.found_at → weigh handheld e o w ≡ some x → x.bytes ≤ w.bytes + 128
grows nothing o w x s h e = let z : w.bytes ≡ x.bytes = ap (λ (y : Weight). y.bytes) (option_some_injective w x e) in omega arith
grows (clears k) o w x s h e = let z : 0 ≡ x.bytes = ap (λ (y : Weight). y.bytes) (option_some_injective (record { entries = 0; bytes = 0 }) x e) in omega arith
grows (puts k a) o w x s h e =
    let t : length (staying (first_stays k) o.found_at a).text < 64 = stays_short (first_stays k) o.found_at a s h in
    let z : w.bytes + 2 * length (staying (first_stays k) o.found_at a).text - known_bytes o ≡ x.bytes = bytes_made (entries_put (room_of handheld k) (takes_place k o) w.entries) _ x e in
    omega (arith, t, z)
grows (removes k c) o w x s h e = let z : w.bytes - known_bytes o ≡ x.bytes = ap (λ (y : Weight). y.bytes) (option_some_injective _ x e) in omega (arith, z)

-- ---- one deed of them

-- the place among the deeds when one more was read
abbrev pub moved : Before → ℕ → Before
moved b p = record { logged = b.logged; first = b.first; passed = p }

module _ (log m : List ℕ) (b : Before) (L M S : List D.Deed) (e : D.Deed) (read : Read log m b L M (e ∷ S)) where
  -- it is then among those before
  read_on : (p : ℕ) → p ≡ b.passed + 1 → Read log m (moved b p) L (M ++ (e ∷ [])) S
  read_on p n = record {
    logged = read.logged;
    log_count = read.log_count;
    passed = subst⁻¹ (Follow m b.first) (append_assoc M (e ∷ []) S) read.passed;
    count = length-append M (e ∷ []) ∙ ap (λ (i : ℕ). i + 1) read.count ∙ sym n;
    few = omega (arith, read.few, n);
    short_log = read.short_log;
    short = subst⁻¹ (All Short) (append_assoc M (e ∷ []) S) read.short;
  }

  -- what is left to weigh is weighed after it
  weighed_on : (w x : Weigh) → weigh handheld e (known_for (L ++ M) e) (weighs w) ≡ some (weighs x)
      → weigh_all handheld (L ++ (M ++ (e ∷ []))) S (weighs x) ≡ weigh_all handheld (L ++ M) (e ∷ S) (weighs w)
  weighed_on w x h =
      sym (ap (λ (r : Option Weight). and_then r (weigh_all handheld (L ++ M ++ (e ∷ [])) S)) h ∙ ap (λ (l : List D.Deed). weigh_all handheld l S (weighs x)) (append_assoc L M (e ∷ [])))

  -- where it has no room, there is none for all
  weighed_none : (w : Weight) → weigh handheld e (known_for (L ++ M) e) w ≡ none → weigh_all handheld (L ++ M) (e ∷ S) w ≡ none
  weighed_none w h = ap (λ (r : Option Weight). and_then r (weigh_all handheld (L ++ M ++ (e ∷ [])) S)) h

  -- it adds little
  weighed_light : (w x : Weigh) → weigh handheld e (known_for (L ++ M) e) (weighs w) ≡ some (weighs x) → x.bytes ≤ w.bytes + 128
  weighed_light w x h =
      grows e (known_for (L ++ M) e) (weighs w) (weighs x) (all_right Short M (e ∷ S) read.short).0 (for_short (L ++ M) e (before_short log m b L M (e ∷ S) read)) h

-- ---- all of them

-- the deeds that are left from the i-th on, which lead from what the table weighs there to what it weighs at the end
pub record WeighLeft (log m : List ℕ) (count : ℕ) (L : List D.Deed) (all : ℕ) (end : Option Weight) (left : Left) (w : Weigh) (here : Before) (top i : ℕ) : Type 0 where
  pub so_far : List D.Deed
  pub rest : List D.Deed
  pub read : Read log m here L so_far rest
  pub whole : length so_far + length rest ≡ all
  pub left_is : LeftIs m left rest
  pub many : length rest ≡ count - i
  pub same : weigh_all handheld (L ++ so_far) rest (weighs w) ≡ end
  pub light : w.bytes ≤ top + 128 * i

-- whatever deeds were left at first
abbrev pub WeighsOn : List ℕ → List ℕ → ℕ → Left → Weigh → Before → Left → Weigh → Before → ℕ → Type 0
WeighsOn log m count start w b left x here i =
    (L M S : List D.Deed) → Read log m b L M S → LeftIs m start S → length S ≡ count → w.bytes < 0x20000 → length S < 0x10000
    → WeighLeft log m count L (length M + length S) (weigh_all handheld (L ++ M) S (weighs w)) left x here w.bytes i

module _ (log m : List ℕ) (count : ℕ) (start : Left) (w : Weigh) (b : Before) where
  -- at first all are left
  pub weigh_starts : WeighsOn log m count start w b start w b 0
  weigh_starts L M S read left n small few = record {
    so_far = M;
    rest = S;
    read = read;
    whole = refl;
    left_is = left;
    many = omega (arith, n);
    same = refl;
    light = omega arith;
  }

  module _ (left : Left) (x : Weigh) (here : Before) (i : ℕ) (h : i < count) (turn : Turn) (r : Answer Weigh) (next : NextEntry m left turn) (weighed : WeighNext log m here turn.deed x r) where
    -- the first of those left is weighed
    left_on : (L : List D.Deed) (all top : ℕ) (end : Option Weight) (so_far rest : List D.Deed) (y : Weigh) (p : ℕ) → r ≡ Some y → p ≡ here.passed + 1 → top < 0x20000 → count < 0x10000 → Read log m here L so_far rest
        → length so_far + length rest ≡ all → LeftIs m left rest → length rest ≡ count - i → weigh_all handheld (L ++ so_far) rest (weighs x) ≡ end → x.bytes ≤ top + 128 * i
        → WeighLeft log m count L all end turn.left y (moved here p) top (i + 1)
    left_on L all top end so_far [] y p e n small few read whole left_is many same light = absurd (omega (arith, many))
    left_on L all top end so_far (d ∷ rest) y p e n small few read whole left_is many same light =
        let (is, after) = next d rest left_is in
        let z : weigh handheld d (known_for (L ++ so_far) d) (weighs x) ≡ some (weighs y) = sym (weighed L so_far rest d read is (omega (arith, light))) ∙ ap weighed_as e in
        let t : y.bytes ≤ x.bytes + 128 = weighed_light log m here L so_far rest d read x y z in
        let l : length (so_far ++ (d ∷ [])) ≡ length so_far + 1 = length-append so_far (d ∷ []) in
        record {
          so_far = so_far ++ (d ∷ []);
          rest = rest;
          read = read_on log m here L so_far rest d read p n;
          whole = omega (arith, whole, l);
          left_is = after;
          many = omega (arith, many);
          same = weighed_on log m here L so_far rest d read x y z ∙ same;
          light = omega (arith, t, light);
        }

    -- and so it is whatever deeds were left at first
    pub weigh_on : (y : Weigh) (p : ℕ) → r ≡ Some y → p ≡ here.passed + 1 → WeighsOn log m count start w b left x here i → WeighsOn log m count start w b turn.left y (moved here p) (i + 1)
    weigh_on y p e n g L M S read is many small few =
        let l = g L M S read is many small few in
        left_on L (length M + length S) w.bytes (weigh_all handheld (L ++ M) S (weighs w)) l.so_far l.rest y p e n small (omega (arith, many, few)) l.read l.whole l.left_is l.many l.same l.light

    -- it has no room
    left_full : (L : List D.Deed) (top : ℕ) (end : Option Weight) (so_far rest : List D.Deed) → r ≡ None → top < 0x20000 → count < 0x10000 → Read log m here L so_far rest
        → LeftIs m left rest → length rest ≡ count - i → weigh_all handheld (L ++ so_far) rest (weighs x) ≡ end → x.bytes ≤ top + 128 * i → end ≡ none
    left_full L top end so_far [] e small few read left_is many same light = absurd (omega (arith, many))
    left_full L top end so_far (d ∷ rest) e small few read left_is many same light =
        sym same ∙ weighed_none log m here L so_far rest d read (weighs x) (sym (weighed L so_far rest d read (next d rest left_is).0 (omega (arith, light))) ∙ ap weighed_as e)

    -- and then there is none for all
    pub weigh_full : r ≡ None → WeighsOn log m count start w b left x here i → (n : ℕ) (L M S : List D.Deed) → Read log m b L M S → LeftIs m start S → length S ≡ count → w.bytes < 0x20000 → length S < 0x10000
        → TriedAs n None (weigh_all handheld (L ++ M) S (weighs w))
    weigh_full e g n L M S read is many small few =
        let l = g L M S read is many small few in
        subst⁻¹ (TriedAs n None) (left_full L w.bytes (weigh_all handheld (L ++ M) S (weighs w)) l.so_far l.rest e small (omega (arith, many, few)) l.read l.left_is l.many l.same l.light) tt

  -- none is left
  left_ends : (L so_far rest : List D.Deed) (all : ℕ) (end : Option Weight) (x : Weigh) (p : ℕ) → length rest ≡ 0 → length so_far ≡ p → length so_far + length rest ≡ all
      → weigh_all handheld (L ++ so_far) rest (weighs x) ≡ end → TriedAs all (Some (x, p)) end
  left_ends L so_far [] all end x p z n whole same = subst (TriedAs all (Some (x, p))) same (refl, omega (arith, n, whole))
  left_ends L so_far (d ∷ rest) all end x p z n whole same = absurd (omega (arith, z))

  -- and what the table weighs there is what it weighs after all
  pub weigh_ends : (left : Left) (x : Weigh) (here : Before) (i : ℕ) → count ≤ i → WeighsOn log m count start w b left x here i → (L M S : List D.Deed) → Read log m b L M S → LeftIs m start S → length S ≡ count
      → w.bytes < 0x20000 → length S < 0x10000 → TriedAs (length M + length S) (Some (x, here.passed)) (weigh_all handheld (L ++ M) S (weighs w))
  weigh_ends left x here i h g L M S read is many small few =
      let l = g L M S read is many small few in
      left_ends L l.so_far l.rest (length M + length S) (weigh_all handheld (L ++ M) S (weighs w)) x here.passed (omega (arith, l.many)) l.read.count l.whole l.same

-- ---- a setting

-- what trying those behind the first deed answers
abbrev pub Behind : List ℕ → List ℕ → Before → Left → Weigh → Answer (Weigh × ℕ) → Type 0
Behind log m b left w r =
    (L M S : List D.Deed) → Read log m b L M S → LeftIs m left S → length S ≡ left.count → w.bytes < 0x20000 → length S < 0x10000
    → TriedAs (length M + length S) r (weigh_all handheld (L ++ M) S (weighs w))

module _ (log m : List ℕ) (b : Before) (turn : Turn) (w : Weigh) where
  module _ (opened : Answer Weigh) (weighed : WeighNext log m b turn.deed w opened) where
    -- the first deed has no room
    pub setting_full : opened ≡ None → Weighs log m b turn w None
    setting_full e L M S read is small few =
        subst⁻¹ (λ (ds : List D.Deed). TriedAs (b.passed + length S) None (weigh_all handheld (L ++ M) ds (weighs w))) is.parts
        (go is.first is.rest (subst (Read log m b L M) is.parts read) is.read)
      where
        go : (d : D.Deed) (ds : List D.Deed) → Read log m b L M (d ∷ ds) → DeedIs m turn.deed d → TriedAs (b.passed + length S) None (weigh_all handheld (L ++ M) (d ∷ ds) (weighs w))
        go d ds r i = subst⁻¹ (TriedAs (b.passed + length S) None) (weighed_none log m b L M ds d r (weighs w) (sym (weighed L M ds d r i (omega (arith, small))) ∙ ap weighed_as e)) tt

    -- it has room, and then the others
    opened_on : (x : Weigh) (p : ℕ) (r : Answer (Weigh × ℕ)) → opened ≡ Some x → p ≡ b.passed + 1 → Behind log m (moved b p) turn.left x r → (L M ds : List D.Deed) (d : D.Deed) → Read log m b L M (d ∷ ds)
        → DeedIs m turn.deed d → LeftIs m turn.left ds → w.bytes < 0x10000 → suc (length ds) < 0x10000 → TriedAs (b.passed + suc (length ds)) r (weigh_all handheld (L ++ M) (d ∷ ds) (weighs w))
    opened_on x p r e n g L M ds d read is left small few =
        let z : weigh handheld d (known_for (L ++ M) d) (weighs w) ≡ some (weighs x) = sym (weighed L M ds d read is (omega (arith, small))) ∙ ap weighed_as e in
        let t : x.bytes ≤ w.bytes + 128 = weighed_light log m b L M ds d read w x z in
        let l : length (M ++ (d ∷ [])) ≡ length M + 1 = length-append M (d ∷ []) in
        let a : length (M ++ (d ∷ [])) + length ds ≡ b.passed + suc (length ds) = omega (arith, l, read.count) in
        let f = g L (M ++ (d ∷ [])) ds (read_on log m b L M ds d read p n) left (left_counted m turn.left ds left) (omega (arith, t, small)) (omega (arith, few)) in
        subst (λ (i : ℕ). TriedAs i r (weigh_all handheld (L ++ M) (d ∷ ds) (weighs w))) a (subst (TriedAs (length (M ++ (d ∷ [])) + length ds) r) (weighed_on log m b L M ds d read w x z) f)

    -- and so it is of any setting that begins so
    pub setting_on : (x : Weigh) (p : ℕ) (r : Answer (Weigh × ℕ)) → opened ≡ Some x → p ≡ b.passed + 1 → Behind log m (moved b p) turn.left x r → Weighs log m b turn w r
    setting_on x p r e n g L M S read is small few =
        subst⁻¹ (λ (ds : List D.Deed). TriedAs (b.passed + length ds) r (weigh_all handheld (L ++ M) ds (weighs w))) is.parts
        (opened_on x p r e n g L M is.rest is.first (subst (Read log m b L M) is.parts read) is.read is.left small (subst (λ (ds : List D.Deed). length ds < 0x10000) is.parts few))
