-- The deeds of a setting in range that fits its fields: they are few, and their texts are short. Assumes nothing.
use Rattle.lists.proofs.Kit.{ℕ, ◌≤◌, ◌<◌, List, arith, length, length-map}
use Rattle.lists.specs.Every.{All}
use Rattle.lists.proofs.Every.{all_map}
use Rattle.writing.specs.declared.Coding.{Coding}
use Rattle.writing.specs.declared.Kind.{Kind}
use Rattle.writing.specs.declared.Kind.TheVariants as kinds
use Rattle.writing.specs.declared.Operation.{Operation}
use Rattle.writing.specs.declared.Operation.TheVariants.{Add, Delete, Replace}
use Rattle.writing.specs.Canonical.{Fits}
use Rattle.writing.specs.Ranges.{text_limits, InRange, InAddressed, InContact, InChannel, InQuick, InStatus}
use Rattle.writing.specs.Settings.{Setting, Entry, group_contacts, individual_contacts, lines, key, quick_texts, home, channels, system, status_texts, group, individual, line_slot, last}
use Rattle.tables.specs.Apply.{line_of, contact_of}
use Rattle.events.specs.Deeds.{Seen, seen_as, doing, opening, listing, deeds}
use Rattle.events.specs.Settings.{member_at, line_at}
use Rattle.plain_weigh.specs.Weighing.{Short}

-- ---- texts are short

-- what an operation does first has no text
opening_short : (k : Kind) (o : Operation) → Short (opening k o)
opening_short k Add = tt
opening_short k Delete = tt
opening_short k Replace = tt

-- what it does with an entry has the entry's
doing_short : (k : Kind) (o : Operation) (a : Seen) → length a.text < 64 → Short (doing k o a)
doing_short k Add a h = h
doing_short k Delete a h = tt
doing_short k Replace a h = h

-- a list of entries
listing_short : {E : Type 0} (P : E → Type 0) (k : Kind) (o : Operation) (seen : E → Seen) → ((e : E) → P e → length (seen e).text < 64)
    → (es : List E) → All P es → All Short (listing k o seen es)
listing_short P k o seen h es p = (opening_short k o, all_map P Short (λ e. doing k o (seen e)) (λ e q. doing_short k o (seen e) (h e q)) es p)

-- a quick text
quick_short : (o : Operation) (e : Entry) → InQuick text_limits o e → length e.text < 64
quick_short Add e p = omega (arith, p.1)
quick_short Delete e p = omega (arith, p)
quick_short Replace e p = omega (arith, p.1)

-- DEEDS-SHORT: the texts of a setting in range are short
pub deeds_short : (left : ℕ) (s : Setting) → InRange text_limits left s → All Short (deeds s)
deeds_short left (group_contacts o f es) r =
    listing_short (InAddressed (λ a. a.0) text_limits) kinds.GroupContacts o (λ e. seen_as kinds.GroupContacts (contact_of f e)) (λ e p. omega (arith, p.1)) es r.1
deeds_short left (individual_contacts o f es) r =
    listing_short (InAddressed (λ a. a.0) text_limits) kinds.IndividualContacts o (λ e. seen_as kinds.IndividualContacts (contact_of f e)) (λ e p. omega (arith, p.1)) es r
deeds_short left (lines o f es) r = listing_short (InContact text_limits) kinds.Lines o (λ e. seen_as kinds.Lines (line_of f e)) (λ e p. omega (arith, p.1)) es r
deeds_short left (key t f) r = (tt, tt)
deeds_short left (quick_texts o es) r = listing_short (InQuick text_limits o) kinds.QuickTexts o (seen_as kinds.QuickTexts) (quick_short o) es r
deeds_short left (home h) r = (tt, tt)
deeds_short left (channels o ns) r = listing_short InChannel kinds.Channels o (seen_as kinds.Channels) (λ n p. omega arith) ns r
deeds_short left (system c) r = (tt, tt)
deeds_short left (status_texts o es) r = listing_short (InStatus text_limits) kinds.StatusTexts o (seen_as kinds.StatusTexts) (λ e p. omega (arith, p.2)) es r
deeds_short left (group o f s) r = (doing_short kinds.Group o (seen_as kinds.Group (member_at f s)) (omega (arith, r.1)), tt)
deeds_short left (individual o f s) r = (doing_short kinds.Individual o (seen_as kinds.Individual (member_at f s)) (omega (arith, r.1)), tt)
deeds_short left (line_slot o f s) r = (doing_short kinds.LineSlot o (seen_as kinds.LineSlot (line_at f s)) (omega (arith, r.2)), tt)
deeds_short left (last f h) r = (tt, tt)

-- ---- deeds are few

-- a list has one deed more than entries
listing_few : {E : Type 0} (k : Kind) (o : Operation) (seen : E → Seen) (es : List E) → length es < 0x400 → length (listing k o seen es) ≤ 0x400
listing_few k o seen es h = omega (arith, length-map es (λ e. doing k o (seen e)))

-- DEEDS-FEW: a list is counted in at most ten bits
pub deeds_few : (c : Coding) (s : Setting) → Fits c s → length (deeds s) ≤ 0x400
deeds_few c (group_contacts o f es) p = listing_few kinds.GroupContacts o (λ e. seen_as kinds.GroupContacts (contact_of f e)) es (omega (arith, p.1.1.1.1.1.1.1.1.1.1.0))
deeds_few c (individual_contacts o f es) p = listing_few kinds.IndividualContacts o (λ e. seen_as kinds.IndividualContacts (contact_of f e)) es (omega (arith, p.1.1.1.1.1.1.1.0))
deeds_few c (lines o f es) p = listing_few kinds.Lines o (λ e. seen_as kinds.Lines (line_of f e)) es (omega (arith, p.1.1.1.1.1.1.1.1.0))
deeds_few c (key t f) p = omega arith
deeds_few c (quick_texts o es) p = listing_few kinds.QuickTexts o (seen_as kinds.QuickTexts) es (omega (arith, p.1.1.1.0))
deeds_few c (home h) p = omega arith
deeds_few c (channels o ns) p = listing_few kinds.Channels o (seen_as kinds.Channels) ns (omega (arith, p.1.1.1.1.0))
deeds_few c (system x) p = omega arith
deeds_few c (status_texts o es) p = listing_few kinds.StatusTexts o (seen_as kinds.StatusTexts) es (omega (arith, p.1.1.1.1.0))
deeds_few c (group o f s) p = omega arith
deeds_few c (individual o f s) p = omega arith
deeds_few c (line_slot o f s) p = omega arith
deeds_few c (last f h) p = omega arith
