-- Regions in two halves: heads and texts tell the region, and heads their bytes. The laws of one region are those of several, one after another. Assumes nothing.
use Rattle.lists.proofs.Kit.{ℕ, zero, suc, ◌+◌, ◌<◌, ◌≡◌, refl, sym, ap, ap₂, ◌∙◌, subst, ◌↔◌, List, [], ◌∷◌, ◌++◌, map, map-append, Option, arith, length, take, drop, length-append, length-map, take-append-drop, take_at, drop_at, take-append_seam, drop-append_seam}
use lib.Seq.{take-length}
use Rattle.lists.specs.Bytes.{Bytes}
use Rattle.lists.proofs.Bytes.{bytes_append, bytes_zeros}
use Rattle.lists.specs.Every.{All}
use Rattle.lists.proofs.Every.{all_append, all_map, all_take}
use Rattle.lists.proofs.Seqs.{cut as cut_alike}
use Rattle.slots.specs.Slots.{places, front, sum}
use Rattle.slots.proofs.Codes.{Code}
use Rattle.slots.proofs.Tables.{front_length, places_bytes}
use Rattle.counted_lists.specs.Counted.{Distinct}
use Rattle.writing.specs.Settings.{Text}
use Rattle.tables.specs.Allowed.{KeyedOk}
use Rattle.tables.proofs.LayoutLaws.{table_wide, list_wide, list_bytes, table_one, list_table_one}
use Rattle.tables.proofs.OrderLaws.{distinct_made}
use Rattle.tables.proofs.TextLaws.{Unit16}
use Rattle.tables.specs.Heads.{Halves}
use Rattle.shared_texts.specs.Regions.{Region, plain, table, listed, followed, nothing, ◌then◌, whole, row_units, filled_list, last_bytes}
use Rattle.shared_texts.proofs.HeadCodes.{Headed, Kept}
use Rattle.shared_texts.proofs.Rows.{Halved, rows_counted, rows_heads, rows_texts, rows_again, filled_length, filled_ok, filled_heads, filled_texts, list_counted, list_texts, list_again, list_length, list_ok, list_heads, list_back, no_texts, last_sum, front_counted}

-- what the two halves of a region have to do with it, and the heads with their bytes
pub record Lawful (p : Region) : Type 0 where
  pub long : (x : p.Own) → map length (p.texts x) ≡ p.counts (p.head x)
  pub again : (x : p.Own) → p.fill (p.head x) (p.texts x) ≡ x
  pub head_back : (h : p.Head) (ts : List Text) → map length ts ≡ p.counts h → p.head (p.fill h ts) ≡ h
  pub texts_back : (h : p.Head) (ts : List Text) → map length ts ≡ p.counts h → p.texts (p.fill h ts) ≡ ts
  pub head_ok : (x : p.Own) → p.Ok x → p.HeadOk (p.head x)
  pub texts_ok : (x : p.Own) → p.Ok x → All (All Unit16) (p.texts x)
  pub own_ok : (h : p.Head) (ts : List Text) → p.HeadOk h → All (All Unit16) ts → map length ts ≡ p.counts h → p.Ok (p.fill h ts)
  pub wide : (h : p.Head) → p.HeadOk h → length (p.bytes h) ≡ p.wide
  pub one : (h k : p.Head) → p.HeadOk h → p.HeadOk k → p.bytes h ≡ p.bytes k → h ≡ k
  pub summed : (h : p.Head) → p.HeadOk h → p.units (p.bytes h) ≡ sum (p.counts h)

-- its bytes are bytes
abbrev pub AreBytes : Region → Type 0
AreBytes p = (h : p.Head) → p.HeadOk h → Bytes (p.bytes h)

-- ---- a region without texts

pub plain_lawful : {A : Type 0} (P : A → Type 0) (w : ℕ) (f : A → List ℕ) → Code P w f → Lawful (plain P w f)
plain_lawful {A} P w f c =
    record {
      long = λ x. refl;
      again = λ x. refl;
      head_back = λ h ts e. refl;
      texts_back = λ h ts e. no_texts ts e;
      head_ok = λ x p. p;
      texts_ok = λ x p. tt;
      own_ok = λ h ts p q e. p;
      wide = λ h p. c.long h;
      one = c.one;
      summed = λ h p. refl;
    }

-- ---- tables that have texts

module _ {A H : Type 0} {k : Halves A H} {P : A → Type 0} {Q : H → Type 0} {own : ℕ} {f : H → List ℕ} (c : Kept k P Q own f) (n : ℕ) where
  -- its two halves, and its heads
  abbrev l : Halved k P Q
  l = c.halved

  abbrev d : Headed k.units Q own f
  d = c.headed

  -- n slots count what their heads do
  slots_summed : (os : List (Option H)) → length os ≡ n → last_bytes own n (places (suc own) f os) ≡ sum (row_units k.units os)
  slots_summed os e =
      last_sum k.units own f d.code.long d.last os n (omega arith) ∙ ap (λ (m : List (Option H)). sum (row_units k.units m)) (ap (λ (i : ℕ). take i os) (sym e) ∙ take-length os)

  -- an indexed table
  pub table_lawful : Lawful (table k P Q n own f)
  table_lawful =
      record {
        long = rows_counted k P Q l;
        again = rows_again k P Q l;
        head_back = filled_heads k P Q l;
        texts_back = filled_texts k P Q l;
        head_ok = λ os p. (length-map os _ ∙ p.0, rows_heads k P Q l os p.1);
        texts_ok = λ os p. rows_texts k P Q l os p.1;
        own_ok = λ hs ts p q e. (filled_length k P Q l hs ts ∙ p.0, filled_ok k P Q l hs ts p.1 q e);
        wide = λ hs p. table_wide d.code hs n p.0;
        one = λ hs ks p q e. table_one d.code d.shown p q e;
        summed = λ hs p. slots_summed hs p.0;
      }

  pub table_bytes : AreBytes (table k P Q n own f)
  table_bytes hs p = places_bytes Q (suc own) f d.are_bytes hs p.1

  -- a list table of which no two entries have one key
  module _ {K : Type 0} (key : A → K) (head_key : H → K) (same : (a : A) → head_key (k.head a) ≡ key a) where
    -- so no two heads have
    heads_apart : (xs : List A) → All P xs → Distinct head_key (map k.head xs) ↔ Distinct key xs
    heads_apart = distinct_made P k.head head_key key (λ a b p q. (λ e. sym (same a) ∙ e ∙ same b, λ e. same a ∙ e ∙ sym (same b)))

    pub list_lawful : Lawful (listed k (KeyedOk P key n) (KeyedOk Q head_key n) n own f)
    list_lawful =
        record {
          long = list_counted k P Q l;
          again = list_again k P Q l;
          head_back = list_heads k P Q l;
          texts_back = list_back k P Q l;
          head_ok = λ xs p. ((omega (arith, length-map xs k.head, p.0.0), all_map P Q k.head l.head_ok xs p.0.1), (heads_apart xs p.0.1).1 p.1);
          texts_ok = λ xs p. list_texts k P Q l xs p.0.1;
          own_ok = λ hs ts p q e.
              let ok = list_ok k P Q l hs ts p.0.1 q e in
              ((omega (arith, list_length k P Q l hs ts, p.0.0), ok), (heads_apart (filled_list k.join hs ts) ok).0 (subst (Distinct head_key) (sym (list_heads k P Q l hs ts e)) p.1));
          wide = λ hs p. list_wide d.code n hs;
          one = λ hs ks p q e. list_table_one d.code d.shown p.0 q.0 e;
          summed = λ hs p. slots_summed (front n hs) (front_length n hs) ∙ ap sum (front_counted k.units n hs p.0.0);
        }

    pub list_are_bytes : n < 65536 → AreBytes (listed k (KeyedOk P key n) (KeyedOk Q head_key n) n own f)
    list_are_bytes few hs p = list_bytes Q (suc own) f d.are_bytes n hs few p.0

-- a region, and bytes behind it
module _ (p : Region) (n : ℕ) (g : p.Head → List ℕ) (l : Lawful p) (long : (h : p.Head) → length (g h) ≡ n) where
  pub followed_lawful : Lawful (followed p n g)
  followed_lawful =
      record {
        long = l.long;
        again = l.again;
        head_back = l.head_back;
        texts_back = l.texts_back;
        head_ok = l.head_ok;
        texts_ok = l.texts_ok;
        own_ok = l.own_ok;
        wide = λ h o. length-append (p.bytes h) (g h) ∙ ap₂ (λ (a b : ℕ). a + b) (l.wide h o) (long h);
        one = λ h k o r e. l.one h k o r (cut_alike (p.bytes h) (p.bytes k) (l.wide h o ∙ sym (l.wide k r)) e).0;
        summed = λ h o. ap p.units (take_at (p.bytes h) (g h) p.wide (l.wide h o)) ∙ l.summed h o;
      }

-- ---- regions one after another

-- the sum of numbers, and then others
pub sum_append : (ns ms : List ℕ) → sum (ns ++ ms) ≡ sum ns + sum ms
sum_append [] ms = omega arith
sum_append (n ∷ ns) ms = omega (arith, sum_append ns ms)

-- the first n of what a function makes
pub map_take : {A B : Type 0} (g : A → B) (n : ℕ) (xs : List A) → map g (take n xs) ≡ take n (map g xs)
map_take g zero xs = refl
map_take g (suc n) [] = refl
map_take g (suc n) (x ∷ xs) = ap (λ l. g x ∷ l) (map_take g n xs)

-- and the others
map_drop : {A B : Type 0} (g : A → B) (n : ℕ) (xs : List A) → map g (drop n xs) ≡ drop n (map g xs)
map_drop g zero xs = refl
map_drop g (suc n) [] = refl
map_drop g (suc n) (x ∷ xs) = map_drop g n xs

-- what all are, those from n on are
all_drop : {A : Type 0} (P : A → Type 0) (n : ℕ) (xs : List A) → All P xs → All P (drop n xs)
all_drop P zero xs p = p
all_drop P (suc n) [] p = tt
all_drop P (suc n) (x ∷ xs) p = all_drop P n xs p.1

-- texts counted by two lists: the first of them, and the others
texts_first : (ts : List Text) (ns ms : List ℕ) → map length ts ≡ ns ++ ms → map length (take (length ns) ts) ≡ ns
texts_first ts ns ms e = map_take length (length ns) ts ∙ ap (take (length ns)) e ∙ take-append_seam ns ms

texts_after : (ts : List Text) (ns ms : List ℕ) → map length ts ≡ ns ++ ms → map length (drop (length ns) ts) ≡ ms
texts_after ts ns ms e = map_drop length (length ns) ts ∙ ap (drop (length ns)) e ∙ drop-append_seam ns ms

module _ (p q : Region) (k : Lawful p) (l : Lawful q) where
  -- the texts of the first are as many as it counts
  first_many : (x : p.Own) → length (p.texts x) ≡ length (p.counts (p.head x))
  first_many x = sym (length-map (p.texts x) length) ∙ ap length (k.long x)

  pub then_lawful : Lawful (◌then◌ p q)
  then_lawful =
      record {
        long = λ x. map-append length (p.texts x.0) (q.texts x.1) ∙ ap₂ (λ (a b : List ℕ). a ++ b) (k.long x.0) (l.long x.1);
        again = λ x.
            let n : ℕ = length (p.counts (p.head x.0)) in
            let a = ap (p.fill (p.head x.0)) (take_at (p.texts x.0) (q.texts x.1) n (first_many x.0)) ∙ k.again x.0 in
            let b = ap (q.fill (q.head x.1)) (drop_at (p.texts x.0) (q.texts x.1) n (first_many x.0)) ∙ l.again x.1 in
            λ i. (a i, b i);
        head_back = λ h ts e.
            let a = k.head_back h.0 _ (texts_first ts (p.counts h.0) (q.counts h.1) e) in
            let b = l.head_back h.1 _ (texts_after ts (p.counts h.0) (q.counts h.1) e) in
            λ i. (a i, b i);
        texts_back = λ h ts e.
            ap₂ (λ (a b : List Text). a ++ b) (k.texts_back h.0 _ (texts_first ts (p.counts h.0) (q.counts h.1) e)) (l.texts_back h.1 _ (texts_after ts (p.counts h.0) (q.counts h.1) e))
            ∙ take-append-drop (length (p.counts h.0)) ts;
        head_ok = λ x o. (k.head_ok x.0 o.0, l.head_ok x.1 o.1);
        texts_ok = λ x o. all_append (All Unit16) (p.texts x.0) (q.texts x.1) (k.texts_ok x.0 o.0) (l.texts_ok x.1 o.1);
        own_ok = λ h ts o u e.
            let n : ℕ = length (p.counts h.0) in (
              k.own_ok h.0 (take n ts) o.0 (all_take (All Unit16) n ts u) (texts_first ts (p.counts h.0) (q.counts h.1) e),
              l.own_ok h.1 (drop n ts) o.1 (all_drop (All Unit16) n ts u) (texts_after ts (p.counts h.0) (q.counts h.1) e),
            );
        wide = λ h o. length-append (p.bytes h.0) (q.bytes h.1) ∙ ap₂ (λ (a b : ℕ). a + b) (k.wide h.0 o.0) (l.wide h.1 o.1);
        one = λ h j o r e.
            let c = cut_alike (p.bytes h.0) (p.bytes j.0) (k.wide h.0 o.0 ∙ sym (k.wide j.0 r.0)) e in
            let a = k.one h.0 j.0 o.0 r.0 c.0 in
            let b = l.one h.1 j.1 o.1 r.1 c.1 in
            λ i. (a i, b i);
        summed = λ h o.
            let w = k.wide h.0 o.0 in
            ap₂ (λ (a b : List ℕ). p.units a + q.units b) (take_at (p.bytes h.0) (q.bytes h.1) p.wide w) (drop_at (p.bytes h.0) (q.bytes h.1) p.wide w)
            ∙ ap₂ (λ (a b : ℕ). a + b) (k.summed h.0 o.0) (l.summed h.1 o.1)
            ∙ sym (sum_append (p.counts h.0) (q.counts h.1));
      }

-- no region
nothing_lawful : Lawful nothing
nothing_lawful = plain_lawful (λ (x : Unit {0}). Unit {0}) 0 (λ x. []) (record { long = λ x. refl; one = λ x y p q e. refl })

-- every region of a list has the laws
abbrev pub AllLawful : List Region → Type 0
AllLawful [] = Unit {0}
AllLawful (p ∷ ps) = Lawful p × AllLawful ps

-- WHOLE-LAWFUL: so all together have them
pub whole_lawful : (ps : List Region) → AllLawful ps → Lawful (whole ps)
whole_lawful [] l = nothing_lawful
whole_lawful (p ∷ ps) l = then_lawful p (whole ps) l.0 (whole_lawful ps l.1)

-- every region of a list is bytes
abbrev pub AllBytes : List Region → Type 0
AllBytes [] = Unit {0}
AllBytes (p ∷ ps) = AreBytes p × AllBytes ps

-- WHOLE-BYTES: so all together are
pub whole_bytes : (ps : List Region) → AllBytes ps → AreBytes (whole ps)
whole_bytes [] b h o = bytes_zeros 0
whole_bytes (p ∷ ps) b h o = bytes_append (p.bytes h.0) ((whole ps).bytes h.1) (b.0 h.0 o.0) (whole_bytes ps b.1 h.1 o.1)
