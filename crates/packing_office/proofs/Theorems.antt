-- What the office may rely on: what is read has its bits, one answer, and its bits give the values back. Assumes nothing.
use Rattle.lists.proofs.Kit.{ℕ, ◌+◌, ◌*◌, ◌/◌, ◌%◌, ◌≤◌, ◌<◌, ◌≡◌, refl, sym, ap, ◌∙◌, subst, Bool, true, false, cond, List, length, drop, none, some, arith, ltb, ltb-true}
use Rattle.lists.specs.Every.{All}
use Rattle.lists.specs.Ladder.{Answers}
use Rattle.writing.specs.Canonical.{side_by_side, FitsField}
use Rattle.writing.specs.declared.KeyFlags.{KeyFlags}
use Rattle.writing.specs.declared.KeyTarget.{KeyTarget}
use Rattle.writing.specs.declared.KeyTarget.TheVariants.{Current, ToGroup, ToIndividual}
use Rattle.writing.specs.Ranges.{HashSize, no_hash, hash_4, hash_10}
use Rattle.writing.specs.Settings.{Text}
use Rattle.writing.specs.Writing.{bit}
use Rattle.tables.specs.Allowed.{TargetOk}
use Rattle.tables.specs.Layout.{key_flags, key_address}
use Rattle.tables.proofs.EntryCodes.{bit_small}
use Rattle.read_fields.specs.declared.texts.TextPlace.{TextPlace}
use Rattle.reports.specs.Items.{Item, group, individual, line, key, quick, home, channel, system, status, hash, unknown, InItem}
use Rattle.reports.specs.Reading.{Read, reading}
use Rattle.reports.proofs.Determined.{reading_determined}
use Rattle.reports.proofs.Theorems.{read_small}
use Rattle.report_reading.specs.declared.items.Item.{Item as Found}
use Rattle.report_reading.specs.declared.items.Item.TheVariants.{Unknown}
use Rattle.std.specs.Prelude.{Some, None}
use Rattle.report_reading.specs.declared.messages.ReportRead.{ReportRead}
use Rattle.report_reading.specs.Reading.{ItemRead, Says, TextEnds, ReadAt, ReadAs, told}
use Rattle.report_reading.proofs.ItemDetermined.{item_determined}
use Rattle.packing.specs.PackedValues.{PacksFields, WhereFit}
use Rattle.packing.proofs.SideBySide.{read_back}
use Rattle.packing_office.specs.declared.parameter.Parameter.{Parameter}
use Rattle.packing_office.specs.declared.places.Places.{Places}
use Rattle.packing_office.specs.PackedReading.{message_fields, AnswersMessage, entry, parameter, parameter_read, parameter_fields, AnswersParameter, bare, texted, places, places_read, places_fields, AnswersPlaces}
use Rattle.packing_office.proofs.Packing.{MessagePacked}

-- ---- a message

-- MESSAGE PACKED: what the reader answers is packed whole
pub message_packed : (most : ℕ) (m : List ℕ) (x : ReportRead) (r : ℕ) → ReadAs most m x → MessagePacked x r → AnswersMessage most m r
message_packed most m x r (items, many, a) packs =
    let (n, t, i, l) = read_small most m (told x items) a in
    let f : All FitsField (message_fields (told x items)) = (l, (i, (t, (n, tt)))) in
    record { read = told x items; allowed = a; packs = record { fits = f; bits = packs items many f } }

-- MESSAGE DETERMINED: one number
pub message_determined : (most : ℕ) (m : List ℕ) (r q : ℕ) → AnswersMessage most m r → AnswersMessage most m q → r ≡ q
message_determined most m r q x y =
    x.packs.bits ∙ ap (λ (z : Read). side_by_side (message_fields z)) (reading_determined most m x.read y.read x.allowed y.allowed) ∙ sym y.packs.bits

-- MESSAGE UNPACKED: shifts and masks give the values back, and no other bit is set
pub message_unpacked : (x : Read) (r : ℕ) → PacksFields (message_fields x) r
    → (r % 256 ≡ x.number) × (r / 256 % 256 ≡ x.total) × (r / 65536 % 256 ≡ x.index) × (r / 16777216 % 256 ≡ length x.items) × (r < 4294967296)
message_unpacked x r p =
    let ((l, (i, (t, (n, _)))), small) = read_back (message_fields x) r p in
    (omega (arith, n), t, i, l, small)

-- ---- a parameter

parameter_fits : (p : Parameter) → p.value < 16777216 → p.index < 4096 → p.flags < 256 → p.asked < 256 → All FitsField (parameter_fields p)
parameter_fits p v i f a = (v, (omega arith, (omega (arith, bit_small p.unknown), (i, (f, (a, tt))))))

entry_fits : (asked flags index value : ℕ) → value < 16777216 → index < 4096 → flags < 256 → asked < 256 → All FitsField (parameter_fields (entry asked flags index value))
entry_fits asked flags index value = parameter_fits (entry asked flags index value)

key_small : (t : KeyTarget) (f : KeyFlags) → TargetOk t → (key_flags (record { target = t; flags = f }) < 256) × (key_address t < 16777216)
key_small (Current g) f ok = (omega (arith, bit_small g, bit_small f.voice, bit_small f.status, bit_small f.siren), omega arith)
key_small (ToGroup a) f ok = (omega (arith, bit_small f.voice, bit_small f.status, bit_small f.siren), ok.1)
key_small (ToIndividual a) f ok = (omega (arith, bit_small f.voice, bit_small f.status, bit_small f.siren), ok.1)

abbrev Fits : Found → Type 0
Fits f = All FitsField (parameter_fields (parameter f))

-- what is read of a parameter in range has its bits
said_fits : (m : List ℕ) (next : ℕ) (i : Item) (f : Found) → Says m next i f → InItem i → Fits f
said_fits m next (group p g) f (t, e, _) (l, ok) =
    subst Fits (sym e) (entry_fits _ _ _ _ ok.address.1 (omega arith)
    (omega (arith, ok.attribute.1, ok.priority, bit_small g.flags.broadcast, bit_small g.flags.encryption, bit_small g.flags.ovcm, bit_small g.flags.emergency)) (omega arith))
said_fits m next (individual p x) f (t, e, _) (l, ok) =
    subst Fits (sym e) (entry_fits _ _ _ _ ok.address.1 (omega arith) (omega (arith, ok.priority, bit_small x.flags.encryption, bit_small x.flags.emergency)) (omega arith))
said_fits m next (line p x) f (n, t, e, _, _) (l, ok) =
    subst Fits (sym e) (entry_fits _ _ _ _ (omega arith) (omega arith)
    (omega (arith, ok.priority, bit_small x.flags.pabx, bit_small x.flags.encryption, bit_small x.flags.emergency)) (omega arith))
said_fits m next (key k) f e ok = let (x, y) = key_small k.target k.flags ok in subst Fits (sym e) (entry_fits _ _ _ _ y (omega arith) x (omega arith))
said_fits m next (quick i us) f (t, e, _) (l, ok) = subst Fits (sym e) (entry_fits _ _ _ _ (omega arith) (omega arith) (omega arith) (omega arith))
said_fits m next (home h) f e ok = subst Fits (sym e) (entry_fits _ _ _ _ (omega (arith, ok.nzi, ok.np)) (omega arith) (omega arith) (omega arith))
said_fits m next (channel n p) f e (ok, l) = subst Fits (sym e) (entry_fits _ _ _ _ (omega (arith, ok.1)) l (omega arith) (omega arith))
said_fits m next (system s) f e ok =
    subst Fits (sym e) (entry_fits _ _ _ _ (omega (arith, ok.lai, ok.la, ok.roaming, bit_small s.par)) (omega arith) (omega arith) (omega arith))
said_fits m next (status c p us) f (t, e, _) ok = subst Fits (sym e) (entry_fits _ _ _ _ (omega arith) (omega (arith, ok.1)) (omega arith) (omega arith))
said_fits m next (hash none) f e ok = subst Fits (sym e) (entry_fits _ _ _ _ (omega arith) (omega arith) (omega arith) (omega arith))
said_fits m next (hash (some h)) f (p, e, _) ok = subst Fits (sym e) (entry_fits _ _ _ _ (omega arith) (omega arith) (omega arith) (omega arith))
said_fits m next (unknown b) f e ok = subst Fits (sym e) (parameter_fits (parameter (Unknown b)) (omega arith) (omega arith) (omega arith) ok.0)

-- PARAMETER PACKED: what is read at a place is packed whole
pub parameter_whole : (m : List ℕ) (at : ℕ) (x : ItemRead) (r : ℕ) → ReadAt m at x → WhereFit (parameter_fields (parameter_read x)) r → AnswersParameter m at r
parameter_whole m at x r a packs = let f = fits x a in record { read = x; allowed = a; packs = record { fits = f; bits = packs f } }
  where
    fits : (x : ItemRead) → ReadAt m at x → All FitsField (parameter_fields (parameter_read x))
    fits (Some (f, next)) (i, s, ok, _) = said_fits m next i f s ok
    fits None never = parameter_fits (entry 0 0 0 0) (omega arith) (omega arith) (omega arith) (omega arith)

-- PARAMETER DETERMINED: one number
pub parameter_determined : (m : List ℕ) (at r q : ℕ) → AnswersParameter m at r → AnswersParameter m at q → r ≡ q
parameter_determined m at r q x y =
    x.packs.bits ∙ ap (λ (z : ItemRead). side_by_side (parameter_fields (parameter_read z))) (item_determined m at x.read y.read x.allowed y.allowed) ∙ sym y.packs.bits

-- PARAMETER UNPACKED
pub parameter_unpacked : (p : Parameter) (r : ℕ) → PacksFields (parameter_fields p) r
    → (r % 256 ≡ p.asked) × (r / 256 % 256 ≡ p.flags) × (r / 65536 % 4096 ≡ p.index) × (r / 268435456 % 2 ≡ bit p.unknown)
    × (r / 536870912 % 8 ≡ 0) × (r / 4294967296 % 16777216 ≡ p.value) × (r < 72057594037927936)
parameter_unpacked p r packs =
    let ((v, (z, (u, (i, (f, (a, _)))))), small) = read_back (parameter_fields p) r packs in
    (omega (arith, a), f, i, u, z, v, small)

-- ---- where its parts stand

places_fit : (p : Places) → p.size < 256 → p.number < 65536 → p.units < 128 → p.text < 65536 → p.next < 65536 → All FitsField (places_fields p)
places_fit p s n u t x = (s, (n, (omega arith, (t, (x, tt)))))

abbrev Places16 : ℕ → Found → Type 0
Places16 next f = All FitsField (places_fields (places f next))

code_small : {code size : ℕ} → HashSize code size → code < 256
code_small no_hash = omega arith
code_small hash_4 = omega arith
code_small hash_10 = omega arith

-- a parameter without a text and a number
bare_fit : (next : ℕ) → next < 65536 → All FitsField (places_fields (bare next 0 0))
bare_fit next l = places_fit (bare next 0 0) (omega arith) (omega arith) (omega arith) (omega arith) l

module _ (m : List ℕ) (next : ℕ) (l : next < 65536) where
  -- what stands before the parameter's end has 16 bits too
  text_fits : (t : TextPlace) (us : Text) → TextEnds m t us next → length us ≤ 23 → (t.units < 128) × (t.start < 65536)
  text_fits t us x short = (omega (arith, x.is.units), omega (arith, x.is.stands.ends))

  texted_fit : (t : TextPlace) (us : Text) → TextEnds m t us next → length us ≤ 23 → All FitsField (places_fields (texted next t 0 0))
  texted_fit t us x short = let (u, s) = text_fits t us x short in places_fit (texted next t 0 0) (omega arith) (omega arith) u s l

  said_places : (i : Item) (f : Found) → Says m next i f → InItem i → Places16 next f
  said_places (group p g) f (t, e, x) (_, ok) = subst (Places16 next) (sym e) (texted_fit t g.text x (omega (arith, ok.text.short)))
  said_places (individual p y) f (t, e, x) (_, ok) = subst (Places16 next) (sym e) (texted_fit t y.text x (omega (arith, ok.text.short)))
  said_places (line p y) f (n, t, e, d, x) (_, ok) =
      let (u, s) = text_fits t y.text x (omega (arith, ok.text.short)) in
      subst (Places16 next) (sym e) (places_fit (texted next t n.start n.digits) (omega (arith, d.digits, ok.number.1)) (omega (arith, d.stands.ends, s)) u s l)
  said_places (key k) f e ok = subst (Places16 next) (sym e) (bare_fit next l)
  said_places (quick i us) f (t, e, x) (_, ok) = subst (Places16 next) (sym e) (texted_fit t us x ok.text.short)
  said_places (home h) f e ok = subst (Places16 next) (sym e) (bare_fit next l)
  said_places (channel n p) f e ok = subst (Places16 next) (sym e) (bare_fit next l)
  said_places (system s) f e ok = subst (Places16 next) (sym e) (bare_fit next l)
  said_places (status c p us) f (t, e, x) (_, _, _, ok) = subst (Places16 next) (sym e) (texted_fit t us x (omega (arith, ok.short)))
  said_places (hash none) f e ok = subst (Places16 next) (sym e) (bare_fit next l)
  said_places (hash (some h)) f (p, e, x) (ok, _) =
      let c : p.code < 256 = omega (arith, x.code, code_small ok.size) in
      subst (Places16 next) (sym e) (places_fit (bare next p.start p.code) c (omega (arith, x.stands.ends)) (omega arith) (omega arith) l)
  said_places (unknown b) f e ok = subst (Places16 next) (sym e) (bare_fit next l)

-- PLACES PACKED: where the parts of what is read stand is packed whole
pub places_whole : (m : List ℕ) (at : ℕ) (x : ItemRead) (r : ℕ) → ReadAt m at x → WhereFit (places_fields (places_read x)) r → AnswersPlaces m at r
places_whole m at x r a packs = let f = fits x a in record { read = x; allowed = a; packs = record { fits = f; bits = packs f } }
  where
    by : (f : Found) (next : ℕ) (b : Bool) → ltb next 65536 ≡ b → (i : Item) → Says m next i f → InItem i → All FitsField (places_fields (cond b (places f next) (bare 0 0 0)))
    by f next true e i s ok = said_places m next (ltb-true next 65536 e) i f s ok
    by f next false e i s ok = bare_fit 0 (omega arith)

    fits : (x : ItemRead) → ReadAt m at x → All FitsField (places_fields (places_read x))
    fits (Some (f, next)) (i, s, ok, _) = by f next (ltb next 65536) refl i s ok
    fits None never = bare_fit 0 (omega arith)

-- PLACES DETERMINED: one number
pub places_determined : (m : List ℕ) (at r q : ℕ) → AnswersPlaces m at r → AnswersPlaces m at q → r ≡ q
places_determined m at r q x y =
    x.packs.bits ∙ ap (λ (z : ItemRead). side_by_side (places_fields (places_read z))) (item_determined m at x.read y.read x.allowed y.allowed) ∙ sym y.packs.bits

-- PLACES UNPACKED
pub places_unpacked : (p : Places) (r : ℕ) → PacksFields (places_fields p) r
    → (r % 65536 ≡ p.next) × (r / 65536 % 65536 ≡ p.text) × (r / 4294967296 % 256 ≡ p.units * 2) × (r / 1099511627776 % 65536 ≡ p.number)
    × (r / 72057594037927936 % 256 ≡ p.size)
places_unpacked p r packs =
    let ((s, (n, (u, (t, (x, _))))), small) = read_back (places_fields p) r packs in
    (omega (arith, x), t, u, n, s)
