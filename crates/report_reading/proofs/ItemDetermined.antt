-- ITEM DETERMINED: reading a parameter has one answer, places included; and a report's parameters are read one after the other. Assumes nothing.
use Rattle.std.specs.Prelude.{Option as Maybe, Some, None}
use Rattle.lists.proofs.Kit.{ℕ, ◌+◌, ◌*◌, ◌≤◌, ◌≡◌, refl, sym, ap, ◌∙◌, subst, subst₂, mul_comm, List, [], ◌∷◌, ◌++◌, map, none, some, arith, length, drop, length-append, length-drop}
use Rattle.lists.specs.Every.{All}
use Rattle.writing.specs.Fields.{Field, val, widths}
use Rattle.writing.specs.Settings.{Text, Number, Hash as AHash, unicode16}
use Rattle.writing.specs.Writing.{text, number}
use Rattle.writing.proofs.Bits.{widths_map}
use Rattle.writing.proofs.Whole.{Whole, text_whole, number_whole}
use Rattle.read_fields.specs.Places.{FieldsAt}
use Rattle.read_fields.specs.TextsAndNumbers.{NumberIs}
use Rattle.read_fields.specs.declared.hashes.HashPlace.{HashPlace}
use Rattle.read_fields.specs.declared.numbers.NumberPlace.{NumberPlace}
use Rattle.read_fields.specs.declared.texts.TextPlace.{TextPlace}
use Rattle.read_carrier.proofs.CarrierLaws.{wide_bytes}
use Rattle.reports.specs.Items.{Item, group, individual, line, key, quick, home, channel, system, status, hash, unknown, item_fields, ItemsWritten, InItem}
use Rattle.reports.specs.Reports.{ReportOf}
use Rattle.reports.proofs.ItemOne.{item_one}
use Rattle.report_reading.specs.Reading.{TextEnds, HashEnds, Says, ReadAt, IsRead, Walked}
use Rattle.report_reading.specs.declared.items.Item.{Item as Found}
use Rattle.report_reading.specs.declared.items.Item.TheVariants.{Group, Individual, Line, Quick, Status, Hash}
use Rattle.report_reading.specs.Reading.{ItemRead}
use Rattle.report_reading.proofs.MessageLaws.{head_stands, items_stand}
use Rattle.report_reading.proofs.WalkLaws.{walk_on, first_stands}

-- ---- places

-- fields of whole bytes that end at one place start at one place
one_start : (fs : List Field) (m : List ℕ) (s t next : ℕ) → Whole fs → FieldsAt fs m s next → FieldsAt fs m t next → s ≡ t
one_start fs m s t next (n, w) x y =
    omega (arith, x.ends, y.ends, wide_bytes fs n x.bytes w x.written, wide_bytes fs n y.bytes w y.written)

text_place : (m : List ℕ) (p q : TextPlace) (us : Text) (next : ℕ) → TextEnds m p us next → TextEnds m q us next → p ≡ q
text_place m p q us next x y =
    let at : (t : TextPlace) → TextEnds m t us next → FieldsAt (text unicode16 us) m t.start next
    = λ t z. subst (λ c. FieldsAt (text c us) m t.start next) z.coding z.is.stands in
    let s : p.start ≡ q.start = one_start (text unicode16 us) m p.start q.start next (text_whole unicode16 us) (at p x) (at q y) in
    let u : p.units ≡ q.units = sym x.is.units ∙ y.is.units in
    let c = x.coding ∙ sym y.coding in
    λ i. record { start = s i; units = u i; coding = c i }

number_place : (m : List ℕ) (p q : NumberPlace) (ds : Number) (next : ℕ) → NumberIs m p ds next → NumberIs m q ds next → p ≡ q
number_place m p q ds next x y =
    let s : p.start ≡ q.start = one_start (number ds) m p.start q.start next (number_whole ds) x.stands y.stands in
    let d : p.digits ≡ q.digits = sym x.digits ∙ y.digits in
    λ i. record { start = s i; digits = d i }

hash_place : (m : List ℕ) (p q : HashPlace) (h : AHash) (next : ℕ) → HashEnds m p h next → HashEnds m q h next → p ≡ q
hash_place m p q h next x y =
    let w : widths (map (val 8) h.value) ≡ 8 * length h.value
    = widths_map (val 8) 8 (λ v. refl) h.value ∙ mul_comm (length h.value) 8 in
    let s : p.start ≡ q.start = one_start (map (val 8) h.value) m p.start q.start next (length h.value, w) x.stands y.stands in
    let c : p.code ≡ q.code = x.code ∙ sym y.code in
    λ i. record { code = c i; start = s i }

-- what is read of a parameter is one thing
pub says_one : (m : List ℕ) (next : ℕ) (i : Item) (r s : Found) → Says m next i r → Says m next i s → r ≡ s
says_one m next (group p g) r s (t, e, x) (u, d, y) = e ∙ ap (Group p g.flags g.address) (text_place m t u g.text next x y) ∙ sym d
says_one m next (individual p g) r s (t, e, x) (u, d, y) = e ∙ ap (Individual p g.flags g.address) (text_place m t u g.text next x y) ∙ sym d
says_one m next (line p l) r s (n, t, e, k, x) (o, u, d, j, y) =
    let a : t ≡ u = text_place m t u l.text next x y in
    let b : n ≡ o = number_place m n o l.number u.start (subst (λ (z : TextPlace). NumberIs m n l.number z.start) a k) j in
    e ∙ (λ i. Line p l.flags (b i) (a i)) ∙ sym d
says_one m next (key k) r s e d = e ∙ sym d
says_one m next (quick i us) r s (t, e, x) (u, d, y) = e ∙ ap (Quick i) (text_place m t u us next x y) ∙ sym d
says_one m next (home h) r s e d = e ∙ sym d
says_one m next (channel n p) r s e d = e ∙ sym d
says_one m next (system c) r s e d = e ∙ sym d
says_one m next (status c p us) r s (t, e, x) (u, d, y) = e ∙ ap (Status c p) (text_place m t u us next x y) ∙ sym d
says_one m next (hash none) r s e d = e ∙ sym d
says_one m next (hash (some h)) r s (p, e, x) (q, d, y) = e ∙ ap Hash (hash_place m p q h next x y) ∙ sym d
says_one m next (unknown b) r s e d = e ∙ sym d

-- ---- the theorems

-- a parameter in range stands at a place in one way
pub stands_one : (m : List ℕ) (at : ℕ) (i j : Item) (n k : ℕ) → InItem i → InItem j → FieldsAt (item_fields i) m at n → FieldsAt (item_fields j) m at k
    → (i ≡ j) × (n ≡ k)
stands_one m at i j n k a b x y =
    let (e, l) = item_one i j x.bytes y.bytes x.rest y.rest a b x.written y.written (sym x.split ∙ y.split) in
    (e, x.ends ∙ ap (λ (bs : List ℕ). at + length bs) l ∙ sym y.ends)

-- ITEM DETERMINED: two answers that the contract of reading a parameter allows are equal
pub item_determined : (m : List ℕ) (at : ℕ) (a b : ItemRead) → ReadAt m at a → ReadAt m at b → a ≡ b
item_determined m at (Some (r, n)) (Some (s, k)) (i, x, p, y) (j, z, q, w) =
    let (e, d) = stands_one m at i j n k p q y w in
    let o : r ≡ s = says_one m k j r s (subst₂ (λ (l : ℕ) (t : Item). Says m l t r) d e x) z in
    λ t. Some (o t, d t)
item_determined m at (Some (r, n)) None (i, x, p, y) never = absurd (never i n p y)
item_determined m at None (Some (s, k)) never (j, z, q, w) = absurd (never j k q w)
item_determined m at None None x y = refl

-- ITEM READ: a parameter in range that stands at a place is what reading there gives
pub item_read : (m : List ℕ) (at next : ℕ) (i : Item) → InItem i → FieldsAt (item_fields i) m at next → IsRead m at next i
item_read m at next i p y (Some (s, k)) (j, z, q, w) =
    let (e, d) = stands_one m at j i k next q p w y in
    (s, ap (λ (n : ℕ). Some (s, n)) d, subst₂ (λ (l : ℕ) (t : Item). Says m l t s) d e z)
item_read m at next i p y None never = absurd (never i next p y)

-- parameters that are written from a place on are walked
walked : (m : List ℕ) (at : ℕ) (l : List Item) → at ≤ length m → All InItem l → ItemsWritten l (drop at m) → Walked m at l
walked m at [] o p w = omega (arith, sym (length-drop at m) ∙ ap length w)
walked m at (i ∷ l) o p w =
    let (next, y) = first_stands m at i l w in
    let more : ItemsWritten l (drop next m) = (walk_on m at i i l next p.0 p.0 y w).1 in
    let e : length (drop at m) ≡ length (y.bytes ++ y.rest) = ap length y.split in
    let n : next ≤ length m = omega (arith, y.ends, length-append y.bytes y.rest, length-drop at m) in
    (next, y, item_read m at next i p.0 y, walked m next l n p.1 more)

-- PARAMETERS READ: the parameters of a report are read one after the other from byte 10 on, up to the message's end
pub parameters_read : {total index : ℕ} {items : List Item} {m : List ℕ} → ReportOf total index items m → Walked m 10 items
parameters_read {total} {index} {items} {m} r =
    let y = head_stands r in
    let e : length (drop 6 m) ≡ length (y.bytes ++ y.rest) = ap length y.split in
    walked m 10 items (omega (arith, y.ends, length-append y.bytes y.rest, length-drop 6 m)) r.in_range (items_stand r)
