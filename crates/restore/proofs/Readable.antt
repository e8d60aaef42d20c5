-- Settings that any set can read: one lemma for each kind that is exported. Assumes nothing.
use Rattle.lists.proofs.Kit.{ℕ, zero, suc, ◌+◌, ◌*◌, ◌/◌, ◌≤◌, ◌<◌, ◌≡◌, refl, List, [], ◌∷◌, ◌++◌, map, Option, none, some, arith, length}
use Rattle.lists.specs.Every.{All}
use Rattle.lists.proofs.Every.{all_turn}
use Rattle.slots.specs.Slots.{Present}
use Rattle.writing.specs.declared.HomeNumbers.{HomeNumbers}
use Rattle.writing.specs.declared.KeyFlags.{KeyFlags}
use Rattle.writing.specs.declared.KeyTarget.{KeyTarget}
use Rattle.writing.specs.declared.KeyTarget.TheVariants.{Current, ToGroup, ToIndividual}
use Rattle.writing.specs.declared.Operation.{Operation}
use Rattle.writing.specs.declared.Operation.TheVariants.{Add, Replace}
use Rattle.writing.specs.declared.SystemCode.{SystemCode}
use Rattle.writing.specs.Canonical.{FitsField, Fits, canonical}
use Rattle.writing.specs.Fields.{Field, val, item, widths, each}
use Rattle.writing.specs.Ranges.{text_limits, InRange, InChannel, InContact, InQuick, InStatus}
use Rattle.writing.specs.Settings.{Text, Contact, Addressed, Entry, Setting, lines, key, quick_texts, home, channels, system, status_texts, kind, unicode16}
use Rattle.writing.specs.Writing.{op_code, text, fill, number, addressed, contact, quick_text, status_text, key_address, body}
use Rattle.writing.proofs.Bits.{widths_append, widths_map}
use Rattle.writing.proofs.CanonicalLaws.{canonical_length}
use Rattle.writing.proofs.Whole.{text_widths}
use Rattle.tables.specs.Allowed.{QuickOk, StatusOk, LineOk, TargetOk, HomeOk, SystemOk}
use Rattle.tables.specs.Tables.{Line}
use Rattle.requests.specs.Requests.{item_of}
use Rattle.export_write.specs.ContactSettings.{clearing_flags, contacts_setting, contact_add}
use Rattle.export_write.specs.LineSettings.{no_line_flags, line_add, line_slot_setting}
use Rattle.export_write.specs.EntrySettings.{quick_add}
use Rattle.tables.specs.declared.members.Members.{Members}
use Rattle.tables.specs.declared.members.Members.TheVariants.{OfGroups, OfIndividuals}
use Rattle.export_write.specs.MemberWriters.{member_setting}
use Rattle.tables.specs.MemberKinds.{MemberIn}
use Rattle.tables.specs.Members.{member_ok}
use Rattle.export_write.proofs.ChannelWriting.{packed_fits}
use Rattle.export_write.proofs.FixedWriting.{key_fits, home_fits, system_fits}
use Rattle.export_write.proofs.ContactWriting.{contact_written}
use Rattle.export_write.proofs.LineWriting.{line_fits, line_slot_fits}
use Rattle.export_write.proofs.MemberWriting.{slot_written}
use Rattle.export_write.proofs.StartLaws.{type_small}
use Rattle.export_write.proofs.TextLists.{EntryOk, quick_fits, status_fits}

-- a setting that has a writing of at most so many bytes, is in range wherever it stands, and is no FF
pub record Readable (most : ℕ) (s : Setting) : Type 0 where
  pub fits : Fits unicode16 s
  pub ranged : (left : ℕ) → InRange text_limits left s
  pub no_last : item_of s ≡ none
  pub small : length (canonical unicode16 s) ≤ most

-- what a setting says fits where its fields after DataLength do, and are not too long
readable : (s : Setting) (most : ℕ) → All FitsField (body unicode16 s) → ((left : ℕ) → InRange text_limits left s) → item_of s ≡ none
    → widths (body unicode16 s) / 8 + 3 ≤ most → most ≤ 65536 → Readable most s
readable s most p r n h k =
    record { fits = (type_small (kind s), (omega arith, p)); ranged = r; no_last = n; small = omega (arith, canonical_length unicode16 s) }

-- ---- parts of the fields

fill_widths : (n : ℕ) → widths (fill n) ≤ 4
fill_widths zero = omega arith
fill_widths (suc zero) = omega arith
fill_widths (suc (suc n)) = fill_widths n

each_widths : {A : Type 0} (f : A → List Field) (w : ℕ) (es : List A) → All (λ e. widths (f e) ≤ w) es → widths (each f es) ≤ length es * w
each_widths f w [] p = omega arith
each_widths f w (e ∷ es) p = omega (arith, widths_append (f e) (each f es), p.0, each_widths f w es p.1)

-- ---- line contacts

-- "a replace with flags and Count 0"
pub lines_readable : Readable 5 (lines Replace no_line_flags [])
lines_readable =
    readable (lines Replace no_line_flags []) 5
    (omega arith, (omega arith, (omega arith, (omega arith, (omega arith, (tt, (omega arith, tt))))))) (λ left. tt) refl (omega arith) (omega arith)

contact_widths : (e : Contact) → InContact text_limits e → widths (contact unicode16 e) ≤ 352
contact_widths e r =
    omega (
      arith,
      widths_append (number e.number) (text unicode16 e.text),
      widths_append (map (item 4 15) e.number) (val 4 15 ∷ fill (suc (length e.number))),
      widths_map (item 4 15) 4 (λ v. refl) e.number,
      fill_widths (suc (length e.number)),
      text_widths unicode16 e.text,
      r.0.1,
      r.1,
    )

-- "one add per contact"
pub line_readable : (l : Line) → LineOk l → Readable 49 (line_add l)
line_readable l ok =
    let e : Contact = record { number = l.number; text = l.text } in
    let r : InContact text_limits e = (ok.number, ok.text.short) in
    readable (line_add l) 49 (line_fits l ok) (λ left. (r, tt)) refl (omega (arith, each_widths (contact unicode16) 352 (e ∷ []) (contact_widths e r, tt))) (omega arith)

-- ---- fixed contents

key_address_widths : (t : KeyTarget) → widths (key_address t) ≤ 24
key_address_widths (Current g) = omega arith
key_address_widths (ToGroup a) = omega arith
key_address_widths (ToIndividual a) = omega arith

key_ranged : (t : KeyTarget) (f : KeyFlags) → TargetOk t → (left : ℕ) → InRange text_limits left (key t f)
key_ranged (Current g) f ok left = tt
key_ranged (ToGroup a) f ok left = ok.0
key_ranged (ToIndividual a) f ok left = ok.0

-- the emergency key
pub key_readable : (t : KeyTarget) (f : KeyFlags) → TargetOk t → Readable 7 (key t f)
key_readable t f ok =
    readable (key t f) 7 (key_fits (record { target = t; flags = f }) ok) (key_ranged t f ok) refl (omega (arith, key_address_widths t)) (omega arith)

-- the home numbers
pub home_readable : (h : HomeNumbers) → HomeOk h → Readable 6 (home h)
home_readable h ok = readable (home h) 6 (home_fits h ok) (λ left. ok.np) refl (omega arith) (omega arith)

-- the system code
pub system_readable : (s : SystemCode) → SystemOk s → Readable 6 (system s)
system_readable s ok = readable (system s) 6 (system_fits s ok) (λ left. (ok.la, λ e. omega (arith, ok.roaming))) refl (omega arith) (omega arith)

-- ---- texts

-- an entry whose index stands in these bounds, and whose text is of a kind
pub record EntryIn (P : Text → Type 0) (from below : ℕ) (e : Entry) : Type 0 where
  pub low : from ≤ e.index
  pub high : e.index < below
  pub text : P e.text

-- one that a quick text is written as, and one that a status text is
abbrev pub QuickEntry : Entry → Type 0
QuickEntry = EntryIn QuickOk 0 64

abbrev pub StatusEntry : Entry → Type 0
StatusEntry = EntryIn StatusOk 32 128

quick_entry_widths : (e : Entry) → QuickEntry e → widths (quick_text unicode16 e) ≤ 392
quick_entry_widths e ok = omega (arith, text_widths unicode16 e.text, ok.text.text.short)

-- quick texts, of which fewer than 64 are counted
quick_readable : (o : Operation) (es : List Entry) → op_code o < 4 → ((left : ℕ) → InRange text_limits left (quick_texts o es)) → length es < 64 → All QuickEntry es
    → Readable (4 + length es * 49) (quick_texts o es)
quick_readable o es l r few ok =
    readable (quick_texts o es) (4 + length es * 49)
    (quick_fits o es (all_turn QuickEntry (EntryOk 64) (λ e q. (q.high, q.text.text.units)) es ok) few l) r refl
    (omega (arith, each_widths (quick_text unicode16) 392 es (all_turn QuickEntry (λ e. widths (quick_text unicode16 e) ≤ 392) quick_entry_widths es ok)))
    (omega arith)

quick_ranged : (es : List Entry) → All QuickEntry es → All (InQuick text_limits Add) es
quick_ranged es ok = all_turn QuickEntry (InQuick text_limits Add) (λ e q. (q.text.some_unit, q.text.text.short)) es ok

-- the single replace
pub quick_replace_readable : (es : List Entry) → length es < 64 → All QuickEntry es → Readable (4 + length es * 49) (quick_texts Replace es)
quick_replace_readable es few ok = quick_readable Replace es (omega arith) (λ left. quick_ranged es ok) few ok

-- "one add if there are 64"
pub quick_add_readable : (e : Entry) → QuickEntry e → Readable 53 (quick_add e)
quick_add_readable e ok = quick_readable Add (e ∷ []) (omega arith) (λ left. quick_ranged (e ∷ []) (ok, tt)) (omega arith) (ok, tt)

status_entry_widths : (e : Entry) → StatusEntry e → widths (status_text unicode16 e) ≤ 280
status_entry_widths e ok = omega (arith, text_widths unicode16 e.text, ok.text.short)

-- status texts, of which fewer than 256 are counted
pub status_readable : (es : List Entry) → length es < 256 → All StatusEntry es → Readable (5 + length es * 35) (status_texts Replace es)
status_readable es few ok =
    readable (status_texts Replace es) (5 + length es * 35)
    (status_fits es (all_turn StatusEntry (EntryOk 128) (λ e q. (q.high, q.text.units)) es ok) few)
    (λ left. all_turn StatusEntry (InStatus text_limits) (λ e q. (q.low, omega (arith, q.high), q.text.short)) es ok) refl
    (omega (arith, each_widths (status_text unicode16) 280 es (all_turn StatusEntry (λ e. widths (status_text unicode16 e) ≤ 280) status_entry_widths es ok)))
    (omega arith)

-- ---- channels

-- channels, of which fewer than 1024 are counted
pub channels_readable : (ns : List ℕ) → length ns < 1024 → All InChannel ns → Readable (5 + (3 * length ns + 1) / 2) (channels Replace ns)
channels_readable ns few ok =
    let w : widths (map (val 12) ns ++ fill (length ns)) ≤ 12 * length ns + 4
    = omega (arith, widths_append (map (val 12) ns) (fill (length ns)), widths_map (val 12) 12 (λ v. refl) ns, fill_widths (length ns)) in
    readable (channels Replace ns) (5 + (3 * length ns + 1) / 2)
    (omega arith, (tt, (few, packed_fits ns ok)))
    (λ left. ok) refl (omega arith) (omega arith)

-- ---- group and individual contacts

-- so many bytes stand before a setting's contacts
abbrev pub contacts_head : Members → ℕ
contacts_head OfGroups = 6
contacts_head OfIndividuals = 5

-- a replace with Count 0, whose attribute is in range
pub clearing_readable : (w : Members) → Readable (contacts_head w) (contacts_setting w Replace (clearing_flags w) [])
clearing_readable OfGroups =
    readable _ 6 (omega arith, (omega arith, (omega arith, (omega arith, (omega arith, (omega arith, (omega arith, (tt, (omega arith, tt))))))))) (λ left. (omega arith, tt)) refl
    (omega arith) (omega arith)
clearing_readable OfIndividuals =
    readable _ 5 (omega arith, (omega arith, (omega arith, (omega arith, (tt, (omega arith, tt)))))) (λ left. tt) refl (omega arith) (omega arith)

addressed_widths : {A : Type 0} (number_of_lem : A → ℕ) (e : Addressed A) → length e.text ≤ 16 → widths (each (addressed number_of_lem unicode16) (e ∷ [])) ≤ 296
addressed_widths number_of_lem e h =
    omega (arith, each_widths (addressed number_of_lem unicode16) 296 (e ∷ []) (omega (arith, text_widths unicode16 e.text), tt))

-- one add per contact
pub contact_readable : (w : Members) (x : MemberIn w) → member_ok w x → Readable (contacts_head w + 37) (contact_add w x)
contact_readable OfGroups x ok =
    let e : Addressed _ = record { address = x.address; text = x.text } in
    readable (contact_add OfGroups x) 43 (contact_written OfGroups x ok).fits (λ left. (ok.attribute.0, ((ok.address.0, ok.text.short), tt))) refl
    (omega (arith, addressed_widths (λ a. a.0) e ok.text.short)) (omega arith)
contact_readable OfIndividuals x ok =
    let e : Addressed _ = record { address = x.address; text = x.text } in
    readable (contact_add OfIndividuals x) 42 (contact_written OfIndividuals x ok).fits (λ left. ((ok.address.0, ok.text.short), tt)) refl
    (omega (arith, addressed_widths (λ a. a.0) e ok.text.short)) (omega arith)

-- ---- slots

slot_widths : (us : Text) → length us ≤ 16 → widths (text unicode16 us) ≤ 272
slot_widths us h = omega (arith, text_widths unicode16 us)

-- a group's or an individual's slot, which is there or not
pub member_readable : (w : Members) (i : ℕ) → i < 16 → (o : Option (MemberIn w)) → Present (member_ok w) o → Readable 42 (member_setting w i o)
member_readable OfGroups i h none ok = readable _ 42 (slot_written i h OfGroups none ok).fits (λ left. (tt, omega arith)) refl (omega arith) (omega arith)
member_readable OfGroups i h (some x) ok =
    readable _ 42 (slot_written i h OfGroups (some x) ok).fits (λ left. ((ok.attribute.0, ok.address.0), ok.text.short)) refl (omega (arith, slot_widths x.text ok.text.short)) (omega arith)
member_readable OfIndividuals i h none ok = readable _ 42 (slot_written i h OfIndividuals none ok).fits (λ left. (tt, omega arith)) refl (omega arith) (omega arith)
member_readable OfIndividuals i h (some x) ok =
    readable _ 42 (slot_written i h OfIndividuals (some x) ok).fits (λ left. (ok.address.0, ok.text.short)) refl (omega (arith, slot_widths x.text ok.text.short)) (omega arith)

-- a line slot
pub line_slot_readable : (i : ℕ) → i < 16 → (o : Option Line) → Present LineOk o → Readable 49 (line_slot_setting i o)
line_slot_readable i h none ok =
    readable _ 49 (line_slot_fits i h none ok) (λ left. (tt, (omega arith, omega arith, (omega arith, tt)), omega arith)) refl (omega arith) (omega arith)
line_slot_readable i h (some l) ok =
    let e : Contact = record { number = l.number; text = l.text } in
    readable _ 49 (line_slot_fits i h (some l) ok) (λ left. (tt, ok.number, ok.text.short)) refl (omega (arith, contact_widths e (ok.number, ok.text.short))) (omega arith)
