-- Entries that are left: the first of them, and those behind it. Assumes nothing.
use Rattle.lists.proofs.Kit.{ℕ, suc, ◌+◌, ◌-◌, ◌*◌, ◌<◌, ◌≡◌, refl, sym, ap, ◌∙◌, subst, subst⁻¹, false, List, [], ◌∷◌, map, head-eq_of_cons-eq, tail-eq_of_cons-eq, cons≢nil, arith, length, drop, get_or, length-drop, length-map, drop-cons}
use denote.Enum.Declared.{tag_of}
use types.Run.{OneOf, miss}
use Rattle.lists.specs.Every.{All}
use Rattle.writing.specs.declared.Coding.{Coding}
use Rattle.writing.specs.declared.Kind.{Kind}
use Rattle.writing.specs.declared.Kind.TheVariants as kinds
use Rattle.writing.specs.Fields.{each}
use Rattle.writing.specs.Settings.{Contact, Addressed, Entry}
use Rattle.writing.specs.Writing.{bit}
use Rattle.writing.specs.contracts.Kind.{the_type}
use Rattle.writing.proofs.Ends.{Ends}
use Rattle.writing.proofs.Unique.{contact_ends, quick_ends, status_ends, address_ends, addressed_ends}
use Rattle.writing.proofs.Whole.{Whole, contact_whole, addressed_whole}
use Rattle.read_fields.specs.declared.entries.AddressedPlace.{AddressedPlace}
use Rattle.read_fields.specs.declared.entries.ContactPlace.{ContactPlace}
use Rattle.read_fields.specs.declared.entries.EntryPlace.{EntryPlace}
use Rattle.read_fields.specs.declared.texts.TextPlace.{TextPlace}
use Rattle.read_fields.specs.Entries.{AddressedIs, ContactIs, EntryIs, channel_list}
use Rattle.read_fields.specs.Places.{FieldsAt}
use Rattle.read_fields.proofs.EntryLaws.{quick_whole, status_whole}
use Rattle.read_fields.proofs.Parts.{part_split}
use Rattle.read_fields.proofs.Walk.{one_part}
use Rattle.events.specs.Deeds.{Seen, number_code, seen_as, doing}
use Rattle.events.specs.Deeds as D
use Rattle.read_deeds.specs.declared.deeds.Put.{Put}
use Rattle.read_deeds.specs.declared.deeds.Left.{Left}
use Rattle.read_deeds.specs.declared.deeds.Turn.{Turn}
use Rattle.read_deeds.specs.ReadDeeds.{PutIs, DeedIs, Form, contact_entries, line_entries, quick_entries, status_entries, LeftOf, ChannelsLeft, LeftBy, LeftIs, Passed, NextOf, NextChannel, NextEntry}
use Rattle.read_deeds.proofs.BeginLaws.{text_seen}

-- ---- forms

-- those left from a place on, with one fewer to come
abbrev moved : Left → ℕ → Left
moved l next = record { kind = l.kind; operation = l.operation; hidden = l.hidden; pabx = l.pabx; coding = l.coding; start = next; total = l.total; count = l.count - 1 }

-- entries of this form say where they end, are whole bytes, and are seen the same wherever the others stand
pub record Plain (f : Form) : Type 0 where
  pub ends : (c : Coding) → Ends (f.form c)
  pub whole : (c : Coding) (e : f.Of) → Whole (f.form c e)
  pub same : (l : Left) (next : ℕ) (e : f.Of) → f.seen (moved l next) e ≡ f.seen l e

-- so are contacts, lines, quick texts and status texts
pub plain_contacts : Plain contact_entries
plain_contacts = record { ends = addressed_ends (λ a. a) (address_ends (λ a. a) (λ a b e. e)); whole = addressed_whole (λ a. a); same = λ l next e. refl }

pub plain_lines : Plain line_entries
plain_lines = record { ends = contact_ends; whole = contact_whole; same = λ l next e. refl }

pub plain_quick : Plain quick_entries
plain_quick = record { ends = quick_ends; whole = quick_whole; same = λ l next e. refl }

pub plain_status : Plain status_entries
plain_status = record { ends = status_ends; whole = status_whole; same = λ l next e. refl }

-- ---- the first entry that is left

-- it stands at the start and makes the first deed; the others stand behind it
record Ahead (f : Form) (m : List ℕ) (l : Left) (d : D.Deed) (ds : List D.Deed) : Type 0 where
  pub entry : f.Of
  pub more : List f.Of
  pub next : ℕ
  pub end : ℕ
  pub counted : suc (length more) ≡ l.count
  pub range : f.In entry
  pub others : All f.In more
  pub stands : FieldsAt (f.form l.coding entry) m l.start next
  pub behind : FieldsAt (each (f.form l.coding) more) m next end
  pub first : d ≡ doing l.kind l.operation (f.seen l entry)
  pub does : ds ≡ map (λ e. doing l.kind l.operation (f.seen l e)) more

module _ (f : Form) (plain : Plain f) (m : List ℕ) (l : Left) where
  -- where a deed is to come there is such an entry
  ahead : (d : D.Deed) (ds : List D.Deed) → LeftOf f m l (d ∷ ds) → Ahead f m l d ds
  ahead d ds x = go x.es refl
    where
      go : (es : List f.Of) → x.es ≡ es → Ahead f m l d ds
      go [] e = absurd (cons≢nil (x.does ∙ ap (map (λ a. doing l.kind l.operation (f.seen l a))) e))
      go (a ∷ more) e =
          let (n, w) = plain.whole l.coding a in
          let (y, z) = part_split (f.form l.coding a) (each (f.form l.coding) more) m l.start n x.end w
          (subst (λ (es : List f.Of). FieldsAt (each (f.form l.coding) es) m l.start x.end) e x.stands) in
          let i : All f.In (a ∷ more) = subst (All f.In) e x.in_range in
          let does = x.does ∙ ap (map (λ b. doing l.kind l.operation (f.seen l b))) e in
          record {
            entry = a;
            more = more;
            next = l.start + n;
            end = x.end;
            counted = sym (ap length e) ∙ x.counted;
            range = i.0;
            others = i.1;
            stands = y;
            behind = z;
            first = head-eq_of_cons-eq does;
            does = tail-eq_of_cons-eq does;
          }

  -- where none in range stands, none is left
  pub none_next : (r : Turn) → ((e : f.Of) (next : ℕ) → f.In e → FieldsAt (f.form l.coding e) m l.start next → ⊥) → NextOf f m l r
  none_next r never d ds x = let a = ahead d ds x in absurd (never a.entry a.next a.range a.stands)

  -- an entry that stands there, and is put so, was passed
  pub entry_next : (r : Turn) (p : Put) (e : f.Of) (next : ℕ) → FieldsAt (f.form l.coding e) m l.start next → (f.In e → PutIs m p (f.seen l e)) → Passed l p next r → NextOf f m l r
  entry_next r p e next x put passed d ds left =
      let a = ahead d ds left in
      let (same, ended) = one_part (f.form l.coding) (plain.ends l.coding) a.entry e m l.start a.next next a.stands x in
      let some_left : l.count ≡ 0 → ⊥ = λ z. omega (arith, a.counted) in
      let moves : r.left ≡ moved l next = passed.left some_left in (
        subst⁻¹ (DeedIs m r.deed) (a.first ∙ ap (λ (b : f.Of). doing l.kind l.operation (f.seen l b)) same)
            (passed.deed some_left m (f.seen l e) (put (subst f.In same a.range))),
        ap (λ (k : Left). k.kind) moves,
        subst⁻¹ (λ (k : Left). LeftOf f m k ds) moves
            (record {
              es = a.more;
              end = a.end;
              counted = omega (arith, a.counted);
              in_range = a.others;
              stands = subst (λ (k : ℕ). FieldsAt (each (f.form l.coding) a.more) m k a.end) ended a.behind;
              does = a.does ∙ sym (ap (λ (g : f.Of → Seen). map (λ b. doing l.kind l.operation (g b)) a.more) (λ i b. plain.same l next b i));
            }),
      )

-- ---- what was read is what is seen

-- a contact's address and text
pub contact_put : (m : List ℕ) (l : Left) (p : AddressedPlace) (e : Addressed ℕ) → AddressedIs m p e
    → PutIs m (record { key = p.address; name = p.address; hidden = l.hidden; text = p.text }) (contact_entries.seen l e)
contact_put m l p e x = record { key = sym x.address; name = sym x.address; hidden = refl; text = text_seen (x.end, x.text) }

-- a line's number and text
pub line_put : (m : List ℕ) (l : Left) (p : ContactPlace) (e : Contact) (code key : ℕ) → ContactIs m p e → code ≡ number_code e.number → key ≡ 2 * code + bit l.pabx
    → PutIs m (record { key = key; name = code; hidden = false; text = p.text }) (line_entries.seen l e)
line_put m l p e code key x c k =
    record { key = k ∙ ap (λ (n : ℕ). 2 * n + bit l.pabx) c; name = c; hidden = refl; text = text_seen (x.end, x.text) }

-- the index and the text of a quick text, and of a status text
pub quick_put : (m : List ℕ) (l : Left) (p : EntryPlace) (e : Entry) → EntryIs m p e
    → PutIs m (record { key = p.index; name = 0; hidden = false; text = p.text }) (quick_entries.seen l e)
quick_put m l p e x = record { key = sym x.index; name = refl; hidden = refl; text = text_seen (x.end, x.text) }

pub status_put : (m : List ℕ) (l : Left) (p : EntryPlace) (e : Entry) → EntryIs m p e
    → PutIs m (record { key = p.index - 32; name = 0; hidden = false; text = p.text }) (status_entries.seen l e)
status_put m l p e x = record { key = ap (◌- 32) (sym x.index); name = refl; hidden = refl; text = text_seen (x.end, x.text) }

-- ---- channels

-- a channel has no text
pub channel_put : (m : List ℕ) (n : ℕ) (p : TextPlace) → p.units ≡ 0 → PutIs m (record { key = n; name = 0; hidden = false; text = p }) (seen_as kinds.Channels n)
channel_put m n p e = record { key = refl; name = refl; hidden = refl; text = record { units = e; there = λ some. absurd (some refl) } }

module _ (m : List ℕ) (l : Left) where
  -- as many are to come as deeds
  channel_deeds : (ds : List D.Deed) → (x : ChannelsLeft m l ds) → length ds ≡ l.count
  channel_deeds ds x =
      let k = l.total - l.count in
      let n : length (drop k x.ns) ≡ length x.ns - k = length-drop k x.ns in
      ap length x.does ∙ length-map (drop k x.ns) (λ a. doing l.kind l.operation (seen_as kinds.Channels a)) ∙ omega (arith, x.counted, x.passed)

  -- no more are counted than there are
  pub none_channel : (r : Turn) → l.total < l.count → NextChannel m l r
  none_channel r h d ds x = absurd (omega (arith, x.passed))

  -- the channel in its place was passed
  pub channel_next : (r : Turn) (p : Put) (n : ℕ) → ((es : List ℕ) (next : ℕ) → FieldsAt (channel_list es) m l.start next → l.total - l.count < length es → n ≡ get_or es (l.total - l.count) 0)
      → PutIs m p (seen_as kinds.Channels n) → Passed l p l.start r → NextChannel m l r
  channel_next r p n read put passed d ds x =
      let c : suc (length ds) ≡ l.count = channel_deeds (d ∷ ds) x in
      let some_left : l.count ≡ 0 → ⊥ = λ z. omega arith in
      let moves : r.left ≡ moved l l.start = passed.left some_left in
      let i = l.total - l.count in
      let inside : i < length x.ns = omega (arith, x.counted, x.passed) in
      let does : d ∷ ds ≡ map (λ a. doing l.kind l.operation (seen_as kinds.Channels a)) (get_or x.ns i 0 ∷ drop (suc i) x.ns)
      = x.does ∙ ap (map (λ a. doing l.kind l.operation (seen_as kinds.Channels a))) (drop-cons x.ns i 0 inside) in
      let on : suc i ≡ l.total - (l.count - 1) = omega (arith, x.passed) in (
        subst⁻¹ (DeedIs m r.deed) (head-eq_of_cons-eq does ∙ ap (λ (a : ℕ). doing l.kind l.operation (seen_as kinds.Channels a)) (sym (read x.ns x.end x.stands inside)))
            (passed.deed some_left m (seen_as kinds.Channels n) put),
        ap (λ (k : Left). k.kind) moves,
        subst⁻¹ (λ (k : Left). ChannelsLeft m k ds) moves
            (record {
              ns = x.ns;
              end = x.end;
              counted = x.counted;
              passed = omega (arith, x.passed);
              stands = x.stands;
              does = tail-eq_of_cons-eq does ∙ ap (λ (k : ℕ). map (λ a. doing l.kind l.operation (seen_as kinds.Channels a)) (drop k x.ns)) on;
            }),
      )

-- ---- by kind

-- the next entry of a kind is the next of those that are left
pub entry_by : (k : Kind) (m : List ℕ) (l : Left) (r : Turn) → l.kind ≡ k
    → ((d : D.Deed) (ds : List D.Deed) → LeftBy k m l (d ∷ ds) → DeedIs m r.deed d × (r.left.kind ≡ l.kind) × LeftBy k m r.left ds) → NextEntry m l r
entry_by k m l r e next d ds x =
    let (deed, same, left) = next d ds (subst (λ (j : Kind). LeftBy j m l (d ∷ ds)) e x) in
    (deed, subst⁻¹ (λ (j : Kind). LeftBy j m r.left ds) (same ∙ e) left)

-- as many deeds are to come as entries are counted
pub left_counted : (m : List ℕ) (l : Left) (ds : List D.Deed) → LeftIs m l ds → length ds ≡ l.count
left_counted m l ds = by l.kind
  where
    -- of entries of a form
    of_form : (f : Form) → LeftOf f m l ds → length ds ≡ l.count
    of_form f x = ap length x.does ∙ length-map x.es (λ e. doing l.kind l.operation (f.seen l e)) ∙ x.counted

    -- of a setting that has none
    none : (l.count ≡ 0) × (ds ≡ []) → length ds ≡ l.count
    none (n, e) = ap length e ∙ sym n

    by : (k : Kind) → LeftBy k m l ds → length ds ≡ l.count
    by kinds.GroupContacts x = of_form contact_entries x
    by kinds.IndividualContacts x = of_form contact_entries x
    by kinds.Lines x = of_form line_entries x
    by kinds.Key x = none x
    by kinds.QuickTexts x = of_form quick_entries x
    by kinds.Home x = none x
    by kinds.Channels x = channel_deeds m l ds x
    by kinds.System x = none x
    by kinds.StatusTexts x = of_form status_entries x
    by kinds.Group x = none x
    by kinds.Individual x = none x
    by kinds.LineSlot x = none x
    by kinds.Last x = none x

-- the tags of the kinds whose settings have no entries
abbrev unlisted : List ℕ
unlisted = 3 ∷ 5 ∷ 7 ∷ 9 ∷ 10 ∷ 11 ∷ 12 ∷ []

-- of those none is left
pub entry_none : (m : List ℕ) (l : Left) (r : Turn) → OneOf unlisted (tag_of the_type l.kind) → NextEntry m l r
entry_none m l r other d ds x = absurd (by l.kind other x)
  where
    by : (k : Kind) → OneOf unlisted (tag_of the_type k) → LeftBy k m l (d ∷ ds) → ⊥
    by kinds.GroupContacts h x = miss unlisted 0 tt h
    by kinds.IndividualContacts h x = miss unlisted 1 tt h
    by kinds.Lines h x = miss unlisted 2 tt h
    by kinds.Key h x = cons≢nil x.1
    by kinds.QuickTexts h x = miss unlisted 4 tt h
    by kinds.Home h x = cons≢nil x.1
    by kinds.Channels h x = miss unlisted 6 tt h
    by kinds.System h x = cons≢nil x.1
    by kinds.StatusTexts h x = miss unlisted 8 tt h
    by kinds.Group h x = cons≢nil x.1
    by kinds.Individual h x = cons≢nil x.1
    by kinds.LineSlot h x = cons≢nil x.1
    by kinds.Last h x = cons≢nil x.1
