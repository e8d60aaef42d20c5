-- Parameters are whole bytes, as many as docs/REPORTS.md says, and those in range have a writing. Assumes nothing.
use Prim.Native.Nat.{ℕ, zero, suc, ◌+◌, ◌*◌, ◌≤◌, ◌<◌}
use mathlib.Core.Path.{◌≡◌, refl}
use mathlib.Core.Logic.{◌≢◌}
use mathlib.Core.List.{List, [], ◌∷◌, ◌++◌, map}
use mathlib.Core.Bool.{Bool, true, false}
use mathlib.Core.Option.{Option, none, some}
use native.Mathlib.Omega.{arith}
use lib.ListN.{length}
use Rattle.lists.specs.Every.{All}
use Rattle.lists.proofs.Every.{all_append, all_map}
use Rattle.writing.specs.declared.KeyTarget.{KeyTarget}
use Rattle.writing.specs.declared.KeyTarget.TheVariants.{Current, ToGroup, ToIndividual}
use Rattle.writing.specs.Canonical.{FitsField}
use Rattle.writing.specs.Fields.{Field, val, item, widths}
use Rattle.writing.specs.Ranges.{HashSize, no_hash, hash_4, hash_10, InNumber}
use Rattle.writing.specs.Settings.{Text, Number, Hash, unicode16}
use Rattle.writing.specs.Writing.{bit, text, fill, number, current, to_group}
use Rattle.writing.proofs.Bits.{widths_append, widths_map}
use Rattle.writing.proofs.CanonicalLaws.{plain_length, plain_shows}
use Rattle.writing.proofs.Whole.{text_widths, fill_whole}
use Rattle.tables.specs.Allowed.{TargetOk}
use Rattle.tables.specs.Layout.{key_address}
use Rattle.reports.specs.declared.Asked.{Asked}
use Rattle.reports.specs.declared.Asked.TheVariants.{Groups, Individuals, Lines, Key as AKey, QuickTexts, Home, Channels, System, StatusTexts, Hash as AHash}
use Rattle.reports.specs.Cut.{item_size}
use Rattle.reports.specs.Items.{Item, group, individual, line, key, quick, home, channel, system, status, hash, unknown, kept, item_fields, item_bytes, items_bytes, ItemWritten, ItemsWritten, InHash, InItem, least, most}
use Rattle.reports.specs.Contents.{Contents, make}
use Rattle.reports.proofs.ByType.{View, known, other, view}

-- ---- how many bytes

-- the fields have so many bytes, between these
pub record Sized (fs : List Field) (least most : ℕ) : Type 0 where
  pub bytes : ℕ
  pub wide : widths fs ≡ 8 * bytes
  pub low : least ≤ bytes
  pub high : bytes ≤ most

-- a text
text_sized : (us : Text) (a b : ℕ) → a ≤ length us → length us ≤ b → Sized (text unicode16 us) (2 + 2 * a) (2 + 2 * b)
text_sized us a b p q = record { bytes = 2 * suc (length us); wide = omega (arith, text_widths unicode16 us); low = omega arith; high = omega arith }

-- what fills a byte
fill_small : (n : ℕ) → widths (fill n) ≤ 4
fill_small zero = omega arith
fill_small (suc zero) = omega arith
fill_small (suc (suc n)) = fill_small n

-- a number
number_sized : (ds : Number) → InNumber ds → Sized (number ds) 1 10
number_sized ds h =
    let (k, e) = fill_whole (suc (length ds)) in
    let w : widths (number ds) ≡ 8 * k = simp widths_append (omega (arith, widths_map (item 4 15) 4 (λ v. refl) ds)) in
    record { bytes = k; wide = w; low = omega (arith, h.0); high = omega (arith, h.1, fill_small (suc (length ds))) }

-- whole bytes before others
after : (fs gs : List Field) (n a b : ℕ) → widths fs ≡ 8 * n → Sized gs a b → Sized (fs ++ gs) (n + a) (n + b)
after fs gs n a b e s = record { bytes = n + s.bytes; wide = omega (arith, widths_append fs gs, s.wide); low = omega (arith, s.low); high = omega (arith, s.high) }

exactly : (fs : List Field) (n : ℕ) → widths fs ≡ 8 * n → Sized fs n n
exactly fs n e = record { bytes = n; wide = e; low = omega arith; high = omega arith }

wider : {fs : List Field} {a b c d : ℕ} → Sized fs a b → c ≤ a → b ≤ d → Sized fs c d
wider s p q = record { bytes = s.bytes; wide = s.wide; low = omega (arith, s.low); high = omega (arith, s.high) }

-- a kept hash
hash_within : {code n : ℕ} → HashSize code n → n ≤ 10
hash_within no_hash = omega arith
hash_within hash_4 = omega arith
hash_within hash_10 = omega arith

kept_sized : (h : Option Hash) → InHash h → Sized (kept h) 1 12
kept_sized none p = record { bytes = 1; wide = refl; low = omega arith; high = omega arith }
kept_sized (some h) p = record {
  bytes = 2 + length h.value;
  wide = omega (arith, widths_map (val 8) 8 (λ v. refl) h.value);
  low = omega arith;
  high = omega (arith, hash_within p.0.size);
}

-- every type has its row's least and most
pub type_sized : (k : Asked) (x : Contents k) → InItem (make k x) → Sized (item_fields (make k x)) (least k) (most k)
type_sized Groups x p =
    let s = text_sized x.1.text 0 16 (omega arith) p.1.text.short in
    record { bytes = 7 + s.bytes; wide = omega (arith, s.wide); low = omega (arith, s.low); high = omega (arith, s.high) }
type_sized Individuals x p =
    let s = text_sized x.1.text 0 16 (omega arith) p.1.text.short in
    record { bytes = 6 + s.bytes; wide = omega (arith, s.wide); low = omega (arith, s.low); high = omega (arith, s.high) }
type_sized Lines x p =
    let n = number_sized x.1.number p.1.number in
    let s = text_sized x.1.text 0 16 (omega arith) p.1.text.short in
    record {
      bytes = 4 + (n.bytes + s.bytes);
      wide = omega (arith, widths_append (number x.1.number) (text unicode16 x.1.text), n.wide, s.wide);
      low = omega (arith, n.low, s.low);
      high = omega (arith, n.high, s.high);
    }
type_sized AKey x p = exactly (item_fields (key x)) 6 refl
type_sized QuickTexts x p =
    let s = text_sized x.1 1 23 p.1.some_unit p.1.text.short in
    record { bytes = 3 + s.bytes; wide = omega (arith, s.wide); low = omega (arith, s.low); high = omega (arith, s.high) }
type_sized Home x p = exactly (item_fields (home x)) 5 refl
type_sized Channels x p = exactly (item_fields (channel x.0 x.1)) 5 refl
type_sized System x p = exactly (item_fields (system x)) 5 refl
type_sized StatusTexts x p =
    let s = text_sized x.2 0 16 (omega arith) p.3.short in
    record { bytes = 4 + s.bytes; wide = omega (arith, s.wide); low = omega (arith, s.low); high = omega (arith, s.high) }
type_sized AHash x p =
    let s = kept_sized x p in
    record { bytes = 1 + s.bytes; wide = omega (arith, s.wide); low = omega (arith, s.low); high = omega (arith, s.high) }

-- 2 to 51
least_all : (k : Asked) → 2 ≤ least k
least_all Groups = omega arith
least_all Individuals = omega arith
least_all Lines = omega arith
least_all AKey = omega arith
least_all QuickTexts = omega arith
least_all Home = omega arith
least_all Channels = omega arith
least_all System = omega arith
least_all StatusTexts = omega arith
least_all AHash = omega arith

most_all : (k : Asked) → most k ≤ 51
most_all Groups = omega arith
most_all Individuals = omega arith
most_all Lines = omega arith
most_all AKey = omega arith
most_all QuickTexts = omega arith
most_all Home = omega arith
most_all Channels = omega arith
most_all System = omega arith
most_all StatusTexts = omega arith
most_all AHash = omega arith

sized_by : {i : Item} → View i → InItem i → Sized (item_fields i) 2 51
sized_by (known k x) p = wider (type_sized k x p) (least_all k) (most_all k)
sized_by (other b) p = wider (exactly (item_fields (unknown b)) 2 refl) (omega arith) (omega arith)

pub item_sized : (i : Item) → InItem i → Sized (item_fields i) 2 51
item_sized i = sized_by (view i)

bytes_sized : (i : Item) {a b : ℕ} → Sized (item_fields i) a b → (a ≤ item_size i) × (item_size i ≤ b)
bytes_sized i s = let e : item_size i ≡ s.bytes = plain_length (item_fields i) s.bytes s.wide in (omega (arith, s.low), omega (arith, s.high))

-- ITEM LENGTH: the bytes of a parameter in range, by its type and overall
pub type_length : (k : Asked) (x : Contents k) → InItem (make k x) → (least k ≤ item_size (make k x)) × (item_size (make k x) ≤ most k)
type_length k x p = bytes_sized (make k x) (type_sized k x p)

pub item_length : (i : Item) → InItem i → (2 ≤ item_size i) × (item_size i ≤ 51)
item_length i p = bytes_sized i (item_sized i p)

-- ---- those in range have a writing

bit_fits : (b : Bool) → bit b < 2
bit_fits true = omega arith
bit_fits false = omega arith

text_fits : (us : Text) → All (λ u. (u ≢ 0) × (u < 65536)) us → All FitsField (text unicode16 us)
text_fits [] h = (omega arith, tt)
text_fits (u ∷ us) h = ((h.0.1, h.0.0), text_fits us h.1)

fill_fits : (n : ℕ) → All FitsField (fill n)
fill_fits zero = tt
fill_fits (suc zero) = (omega arith, tt)
fill_fits (suc (suc n)) = fill_fits n

number_fits : (ds : Number) → All (◌≤ 9) ds → All FitsField (number ds)
number_fits ds h =
    all_append FitsField (map (item 4 15) ds) (val 4 15 ∷ fill (suc (length ds)))
    (all_map (◌≤ 9) FitsField (item 4 15) (λ d l. (omega arith, λ e. omega arith)) ds h)
    (omega arith, fill_fits (suc (length ds)))

target_fits : (t : KeyTarget) → TargetOk t → key_address t < 16777216
target_fits (Current g) p = omega arith
target_fits (ToGroup a) p = p.1
target_fits (ToIndividual a) p = p.1

hash_code : {code n : ℕ} → HashSize code n → code < 256
hash_code no_hash = omega arith
hash_code hash_4 = omega arith
hash_code hash_10 = omega arith

kept_fits : (h : Option Hash) → InHash h → All FitsField (kept h)
kept_fits none p = (omega arith, tt)
kept_fits (some h) p = (omega arith, (hash_code p.0.size, all_map (◌< 256) FitsField (val 8) (λ b l. l) h.value p.0.bytes))

pub item_fits : (i : Item) → InItem i → All FitsField (item_fields i)
item_fits (group p g) h = (
  omega arith,
  (
    omega arith,
    (
      omega arith,
      (
        h.1.address.1,
        (
          h.0,
          (
            h.1.attribute.1,
            (
              bit_fits g.flags.broadcast,
              (
                bit_fits g.flags.encryption,
                (
                  bit_fits g.flags.ovcm,
                  (bit_fits g.flags.emergency, (h.1.priority, (tt, text_fits g.text h.1.text.units))),
                ),
              ),
            ),
          ),
        ),
      ),
    ),
  ),
)
item_fits (individual p x) h =
    (omega arith, (omega arith, (omega arith, (h.1.address.1, (h.0, (bit_fits x.flags.encryption, (bit_fits x.flags.emergency, (h.1.priority, text_fits x.text h.1.text.units))))))))
item_fits (line p l) h = (
  omega arith,
  (
    omega arith,
    (
      omega arith,
      (
        bit_fits l.flags.pabx,
        (
          bit_fits l.flags.encryption,
          (
            bit_fits l.flags.emergency,
            (
              h.1.priority,
              (
                tt,
                (
                  h.0,
                  all_append FitsField (number l.number) (text unicode16 l.text) (number_fits l.number h.1.number.2) (text_fits l.text h.1.text.units),
                ),
              ),
            ),
          ),
        ),
      ),
    ),
  ),
)
item_fits (key k) h = (omega arith, (omega arith, (omega arith, (bit_fits (to_group k.target), (bit_fits (current k.target), (bit_fits k.flags.voice, (bit_fits k.flags.status, (bit_fits k.flags.siren, (tt, (target_fits k.target h, tt))))))))))
item_fits (quick i us) h = (omega arith, (omega arith, (omega arith, (h.0, (tt, text_fits us h.1.text.units)))))
item_fits (home x) h = (omega arith, (omega arith, (omega arith, (h.nzi, (omega (arith, h.np), (tt, tt))))))
item_fits (channel n p) h = (omega arith, (omega arith, (omega arith, (omega (arith, h.0.1), (h.1, tt)))))
item_fits (system s) h = (omega arith, (omega arith, (omega arith, (h.lai, (omega (arith, h.la), (omega (arith, h.roaming), (bit_fits s.par, (tt, tt))))))))
item_fits (status c p us) h = (omega arith, (omega arith, (omega arith, (omega (arith, h.1), (h.2, text_fits us h.3.units)))))
item_fits (hash x) h = (omega arith, kept_fits x h)
item_fits (unknown b) h = (h.0, (omega arith, (omega arith, tt)))

-- ITEM WRITTEN: a parameter in range is written with reserved bits 0
pub item_written : (i : Item) → InItem i → ItemWritten i (item_bytes i)
item_written i p = let s = item_sized i p in plain_shows (item_fields i) s.bytes s.wide (item_fits i p)

pub items_written : (l : List Item) → All InItem l → ItemsWritten l (items_bytes l)
items_written [] p = refl
items_written (i ∷ l) p = (item_bytes i, items_bytes l, refl, item_written i p.0, items_written l p.1)
