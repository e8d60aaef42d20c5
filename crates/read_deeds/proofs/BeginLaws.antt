-- Laws of the first deed of a setting: it was read, and the others are left. Assumes nothing.
use Rattle.lists.proofs.Kit.{ℕ, ◌≡◌, ◌-◌, refl, sym, ap, ◌∙◌, subst, subst⁻¹, arith, Bool, false, List, [], ◌∷◌, ◌++◌, map, map-map, length-map, drop, eqb}
use Rattle.lists.specs.Every.{All}
use Rattle.lists.proofs.Every.{all_turn, all_map}
use denote.Enum.Declared.{tag_of}
use types.Run.{OneOf, miss}
use Rattle.writing.specs.declared.Coding.{Coding}
use Rattle.writing.specs.declared.GroupFlags.{GroupFlags}
use Rattle.writing.specs.declared.IndividualFlags.{IndividualFlags}
use Rattle.writing.specs.declared.LineFlags.{LineFlags}
use Rattle.writing.specs.declared.Kind.{Kind}
use Rattle.writing.specs.declared.Kind.TheVariants as kinds
use Rattle.writing.specs.declared.Operation.{Operation}
use Rattle.writing.specs.declared.Operation.TheVariants.{Add, Delete, Replace}
use Rattle.writing.specs.Fields.{Field, each}
use Rattle.writing.specs.Ranges.{text_limits, InRange, InAddressed, InQuick}
use Rattle.writing.specs.Settings as S
use Rattle.writing.specs.Settings.{Text, Addressed, Entry}
use Rattle.writing.specs.Writing.{addressed}
use Rattle.read_fields.specs.Entries.{QuickFrom, channel_list}
use Rattle.read_fields.specs.Places.{FieldsAt}
use Rattle.read_fields.specs.declared.texts.TextPlace.{TextPlace}
use Rattle.settings.specs.declared.settings.Entries.{Entries}
use Rattle.settings.specs.declared.settings.GroupPlace.{GroupPlace}
use Rattle.settings.specs.declared.settings.IndividualPlace.{IndividualPlace}
use Rattle.settings.specs.declared.settings.LinePlace.{LinePlace}
use Rattle.settings.specs.declared.settings.Setting.{Setting as Read}
use Rattle.settings.specs.declared.settings.Setting.TheVariants.{GroupContacts, IndividualContacts, Lines, Key, QuickTexts, Home, Channels, System, StatusTexts, Group, Individual, LineSlot, Last}
use Rattle.settings.specs.contracts.settings.Setting.{the_type}
use Rattle.settings.specs.Meant.{EntriesAre, TextOf}
use Rattle.events.specs.Deeds.{nothing, opening, deeds, doing, seen_as}
use Rattle.events.specs.Deeds as D
use Rattle.read_deeds.specs.declared.deeds.Deed.{Deed}
use Rattle.read_deeds.specs.declared.deeds.Deed.TheVariants.{Nothing}
use Rattle.read_deeds.specs.declared.deeds.Left.{Left}
use Rattle.read_deeds.specs.declared.deeds.Turn.{Turn}
use Rattle.read_deeds.specs.ReadDeeds.{TextSeen, DeedIs, Form, contact_entries, line_entries, quick_entries, status_entries, LeftOf, ChannelsLeft, LeftIs, none_left, TurnIs, Begins, ListBegun, SingleBegun, MemberBegun, LineBegun, Unlisted, SlotBegins}

-- ---- texts

-- a text that stands at its place is seen there
pub text_seen : {m : List ℕ} {p : TextPlace} {us : Text} → TextOf m p us → TextSeen m p us
text_seen t = record { units = sym t.1.units; there = λ some. t }

-- ---- settings with one deed

-- it was read, and none is left
pub one_turn : (m : List ℕ) (r : Turn) (d : D.Deed) → DeedIs m r.deed d → r.left ≡ none_left → TurnIs m r (d ∷ [])
one_turn m r d is e = record { first = d; rest = []; parts = refl; read = is; left = subst⁻¹ (λ (l : Left). LeftIs m l []) e (refl, refl) }

-- nothing is seen of the setting
pub none_begun : (m : List ℕ) (r : Turn) → SingleBegun Nothing r → TurnIs m r (nothing ∷ [])
none_begun m r b = one_turn m r nothing (subst⁻¹ (λ (d : Deed). DeedIs m d nothing) b.deed tt) b.left

-- what is said of the deed that was made is said of the one that was answered
pub single_as : (m : List ℕ) (d : Deed) (r : Turn) (a : D.Deed) → SingleBegun d r → DeedIs m d a → DeedIs m r.deed a × (r.left ≡ none_left)
single_as m d r a b is = (subst⁻¹ (λ (x : Deed). DeedIs m x a) b.deed is, b.left)

-- ---- slots

-- what is said of the setting that is meant
of_meant : (m : List ℕ) (n : ℕ) (r : Turn) (s t : S.Setting) → s ≡ t → (InRange text_limits n t → TurnIs m r (deeds t)) → InRange text_limits n s → TurnIs m r (deeds s)
of_meant m n r s t e = subst⁻¹ (λ (x : S.Setting). InRange text_limits n x → TurnIs m r (deeds x)) e

module _ (m : List ℕ) (o : Operation) (r : Turn) where
  -- a group's
  pub group_begun : (f : GroupFlags) (p : GroupPlace) → MemberBegun kinds.Group o p.index p.address.0 (eqb f.attribute 1) p.text r → Begins m (Group o f p) r
  group_begun f p b s n (us, e, t) = let (is, l) = b m us t in of_meant m n r s _ e (λ i. one_turn m r _ is l)

  -- an individual's
  pub individual_begun : (f : IndividualFlags) (p : IndividualPlace) → MemberBegun kinds.Individual o p.index p.address.0 false p.text r → Begins m (Individual o f p) r
  individual_begun f p b s n (us, e, t) = let (is, l) = b m us t in of_meant m n r s _ e (λ i. one_turn m r _ is l)

  -- a line's
  pub line_slot_begun : (f : LineFlags) (p : LinePlace) → LineBegun m o p r → Begins m (LineSlot o f p) r
  line_slot_begun f p b s n (c, e, is) = of_meant m n r s _ e (λ i. let (d, l) = b c i.1 is in one_turn m r _ d l)

-- ---- lists

-- the entries that are left after the opening of a list
abbrev pub list_left : Kind → Operation → (hidden pabx : Bool) → Entries → Left
list_left k o hidden pabx p = record { kind = k; operation = o; hidden = hidden; pabx = pabx; coding = p.coding; start = p.start; total = p.count; count = p.count }

-- the opening was read, and they are left
pub list_turn : (m : List ℕ) (k : Kind) (o : Operation) (h x : Bool) (p : Entries) (r : Turn) (ds : List D.Deed) → ListBegun k o h x p r
    → LeftIs m (list_left k o h x p) ds → TurnIs m r (opening k o ∷ ds)
list_turn m k o h x p r ds b l = record { first = opening k o; rest = ds; parts = refl; read = b.deed m; left = subst⁻¹ (λ (y : Left). LeftIs m y ds) b.left l }

-- entries of a form are left
pub form_left : (f : Form) (m : List ℕ) (k : Kind) (o : Operation) (h x : Bool) (p : Entries) (es : List f.Of) → All f.In es
    → EntriesAre (λ c. each (f.form c)) m p es → LeftOf f m (list_left k o h x p) (map (λ e. doing k o (f.seen (list_left k o h x p) e)) es)
form_left f m k o h x p es range are = record { es = es; end = p.next; counted = are.counted; in_range = range; stands = are.stands; does = refl }

-- a contact by the number of its address
abbrev pub by_number : {A : Type 0} → (A → ℕ) → Addressed A → Addressed ℕ
by_number number e = record { address = number e.address; text = e.text }

-- is written the same
each_by : {A : Type 0} (number : A → ℕ) (c : Coding) (es : List (Addressed A)) → each (addressed number c) es ≡ each (addressed (λ a. a) c) (map (by_number number) es)
each_by number c [] = refl
each_by number c (e ∷ es) = ap (λ (fs : List Field). addressed number c e ++ fs) (each_by number c es)

-- contacts are left, by the numbers of their addresses
pub contacts_left : {A : Type 0} (number : A → ℕ) (m : List ℕ) (k : Kind) (o : Operation) (h x : Bool) (p : Entries) (es : List (Addressed A)) → All (InAddressed number text_limits) es
    → EntriesAre (λ c. each (addressed number c)) m p es
    → LeftOf contact_entries m (list_left k o h x p) (map (λ e. doing k o (record { key = number e.address; name = number e.address; hidden = h; text = e.text })) es)
contacts_left number m k o h x p es range are = record {
  es = map (by_number number) es;
  end = p.next;
  counted = length-map es (by_number number) ∙ are.counted;
  in_range = all_map (InAddressed number text_limits) (InAddressed (λ a. a) text_limits) (by_number number) (λ e i. i) es range;
  stands = subst (λ (fs : List Field). FieldsAt fs m p.start p.next) (each_by number p.coding es) are.stands;
  does = sym (map-map (λ (e : Addressed ℕ). doing k o (contact_entries.seen (list_left k o h x p) e)) (by_number number) es);
}

-- a quick text in range has at most so many units, whatever is done with it
quick_any : (o : Operation) (e : Entry) → InQuick text_limits o e → QuickFrom text_limits 0 e
quick_any Add e (some, few) = (omega arith, few)
quick_any Delete e few = (omega arith, few)
quick_any Replace e (some, few) = (omega arith, few)

-- channels are left
channels_left : (m : List ℕ) (k : Kind) (o : Operation) (h x : Bool) (p : Entries) (ns : List ℕ) → EntriesAre (λ c. channel_list) m p ns
    → ChannelsLeft m (list_left k o h x p) (map (λ n. doing k o (seen_as kinds.Channels n)) ns)
channels_left m k o h x p ns are =
    let none_passed : 0 ≡ p.count - p.count = omega arith in
    record {
      ns = ns;
      end = p.next;
      counted = are.counted;
      passed = omega arith;
      stands = are.stands;
      does = ap (λ (i : ℕ). map (λ n. doing k o (seen_as kinds.Channels n)) (drop i ns)) none_passed;
    }

module _ (m : List ℕ) (o : Operation) (p : Entries) (r : Turn) where
  -- group contacts
  pub groups_begun : (f : GroupFlags) → ListBegun kinds.GroupContacts o (eqb f.attribute 1) false p r → Begins m (GroupContacts o f p) r
  groups_begun f b s n (es, e, are) =
      of_meant m n r s _ e (λ i. list_turn m kinds.GroupContacts o _ _ p r _ b (contacts_left (λ a. a.0) m kinds.GroupContacts o (eqb f.attribute 1) false p es i.1 are))

  -- individual contacts
  pub individuals_begun : (f : IndividualFlags) → ListBegun kinds.IndividualContacts o false false p r → Begins m (IndividualContacts o f p) r
  individuals_begun f b s n (es, e, are) =
      of_meant m n r s _ e (λ i. list_turn m kinds.IndividualContacts o _ _ p r _ b (contacts_left (λ a. a.0) m kinds.IndividualContacts o false false p es i are))

  -- lines
  pub lines_begun : (f : LineFlags) → ListBegun kinds.Lines o false f.pabx p r → Begins m (Lines o f p) r
  lines_begun f b s n (es, e, are) = of_meant m n r s _ e (λ i. list_turn m kinds.Lines o _ _ p r _ b (form_left line_entries m kinds.Lines o false f.pabx p es i are))

  -- quick texts
  pub quick_begun : ListBegun kinds.QuickTexts o false false p r → Begins m (QuickTexts o p) r
  quick_begun b s n (es, e, are) =
      of_meant m n r s _ e
      (λ i. list_turn m kinds.QuickTexts o _ _ p r _ b (form_left quick_entries m kinds.QuickTexts o false false p es (all_turn (InQuick text_limits o) (QuickFrom text_limits 0) (quick_any o) es i) are))

  -- channels
  pub channels_begun : ListBegun kinds.Channels o false false p r → Begins m (Channels o p) r
  channels_begun b s n (ns, e, are) = of_meant m n r s _ e (λ i. list_turn m kinds.Channels o _ _ p r _ b (channels_left m kinds.Channels o false false p ns are))

  -- status texts
  pub status_begun : ListBegun kinds.StatusTexts o false false p r → Begins m (StatusTexts o p) r
  status_begun b s n (es, e, are) = of_meant m n r s _ e (λ i. list_turn m kinds.StatusTexts o _ _ p r _ b (form_left status_entries m kinds.StatusTexts o false false p es i are))

-- ---- any setting

-- what is said of a case is said of the setting
pub begins_as : (m : List ℕ) (r : Turn) (x y : Read) → x ≡ y → Begins m y r → Begins m x r
begins_as m r x y e b = subst⁻¹ (λ (z : Read). Begins m z r) e b

-- the settings that the code leaves over when it has taken the lists
abbrev pub unlisted_tags : List ℕ
unlisted_tags = 3 ∷ 5 ∷ 7 ∷ 9 ∷ 10 ∷ 11 ∷ 12 ∷ []

-- are for none of them
pub unlisted : (x : Read) → OneOf unlisted_tags (tag_of the_type x) → Unlisted x
unlisted (GroupContacts o f p) k = miss unlisted_tags 0 tt k
unlisted (IndividualContacts o f p) k = miss unlisted_tags 1 tt k
unlisted (Lines o f p) k = miss unlisted_tags 2 tt k
unlisted (Key t f) k = tt
unlisted (QuickTexts o p) k = miss unlisted_tags 4 tt k
unlisted (Home h) k = tt
unlisted (Channels o p) k = miss unlisted_tags 6 tt k
unlisted (System c) k = tt
unlisted (StatusTexts o p) k = miss unlisted_tags 8 tt k
unlisted (Group o f p) k = tt
unlisted (Individual o f p) k = tt
unlisted (LineSlot o f p) k = tt
unlisted (Last f p) k = tt

-- those that it leaves over when it has taken the slots
abbrev pub other_tags : List ℕ
other_tags = 0 ∷ 1 ∷ 2 ∷ 3 ∷ 4 ∷ 5 ∷ 6 ∷ 7 ∷ 8 ∷ 12 ∷ []

-- and where they are for no list, nothing is seen of them
pub others_begun : (m : List ℕ) (r : Turn) (x : Read) → OneOf other_tags (tag_of the_type x) → SingleBegun Nothing r → SlotBegins m x r
others_begun m r (GroupContacts o f p) k b u = absurd u
others_begun m r (IndividualContacts o f p) k b u = absurd u
others_begun m r (Lines o f p) k b u = absurd u
others_begun m r (Key t f) k b u = λ s n e. of_meant m n r s _ e (λ i. none_begun m r b)
others_begun m r (QuickTexts o p) k b u = absurd u
others_begun m r (Home h) k b u = λ s n e. of_meant m n r s _ e (λ i. none_begun m r b)
others_begun m r (Channels o p) k b u = absurd u
others_begun m r (System c) k b u = λ s n e. of_meant m n r s _ e (λ i. none_begun m r b)
others_begun m r (StatusTexts o p) k b u = absurd u
others_begun m r (Group o f p) k b u = absurd (miss other_tags 9 tt k)
others_begun m r (Individual o f p) k b u = absurd (miss other_tags 10 tt k)
others_begun m r (LineSlot o f p) k b u = absurd (miss other_tags 11 tt k)
others_begun m r (Last f p) k b u = λ s n z. of_meant m n r s _ z.1 (λ i. none_begun m r b)
