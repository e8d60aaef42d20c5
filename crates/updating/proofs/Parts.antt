-- PARTS: two sets have the same tables of a part exactly if its requests are the same bytes; and which parts differ. Assumes nothing.
use Rattle.lists.proofs.Kit.{ℕ, zero, suc, ◌+◌, ◌≤◌, ◌≡◌, ◌≢◌, refl, sym, ap, ◌∙◌, subst, ◌↔◌, ◌⊎◌, inl, inr, Bool, true, false, cond, true≢false, List, some, option_some_injective, arith, get_or, add-one, eqb, eqb-true, eqb-false}
use native.Mathlib.Decide.{dec_le}
use Rattle.slots.specs.Slots.{same?}
use Rattle.slots.proofs.Runs.{same_are, same_refl}
use Rattle.writing.specs.declared.Kind.{Kind}
use Rattle.writing.specs.declared.Kind.TheVariants as K
use Rattle.writing.specs.Carrier.{Request}
use Rattle.writing.specs.Settings.{Setting, unicode16}
use Rattle.tables.specs.declared.limits.Limits.{Limits}
use Rattle.tables.specs.Allowed.{Allowed}
use Rattle.tables.specs.Apply.{in_turn, change}
use Rattle.tables.specs.Owns.{Own, own, put_own, only}
use Rattle.tables.specs.Tables.{Tables, no_hash}
use Rattle.tables.proofs.Owns.{own_mix, own_other, same_kind}
use Rattle.requests.specs.Requests.{forget}
use Rattle.export.specs.declared.parts.Part.{Part}
use Rattle.export.specs.declared.parts.Part.TheVariants.{Lines, Fixed, QuickTexts, Channels, StatusTexts, Groups, Individuals, GroupContacts, IndividualContacts, LineSlots}
use Rattle.export.specs.Exportable.{Exportable}
use Rattle.export.specs.Exported.{ten, part_number, exported, request_bytes}
use Rattle.export.proofs.Determined.{one_part}
use Rattle.export.proofs.PartWriting.{ten_at}
use Rattle.restore.specs.Restored.{part_kinds, with_part, SameTables}
use Rattle.restore.proofs.PartRuns.{part_turn}
use Rattle.restore.proofs.Requests.{own_fits}
use Rattle.restore.proofs.StandardRequests.{exported_request, exported_only}
use Rattle.updating.specs.declared.proposing.Differing.{Differing}
use Rattle.updating.specs.declared.proposing.Differing.TheVariants.{Nothing, One, Several}
use Rattle.updating.specs.Updating.{SamePart, Sole, NoneOrSeveral, noted, Known}

-- ---- a part by its request

-- a part is exported of its own tables alone
pub same_exported : (p : Part) (t u : Tables) → SamePart p t u → exported p t ≡ exported p u
same_exported Lines t u h = ap (λ (l : Own K.Lines). exported Lines (put_own K.Lines t l)) (h K.Lines refl)
same_exported Fixed t u h = λ i. exported Fixed (put_own K.System (put_own K.Home (put_own K.Key t (h K.Key refl i)) (h K.Home refl i)) (h K.System refl i))
same_exported QuickTexts t u h = ap (λ (l : Own K.QuickTexts). exported QuickTexts (put_own K.QuickTexts t l)) (h K.QuickTexts refl)
same_exported Channels t u h = ap (λ (l : Own K.Channels). exported Channels (put_own K.Channels t l)) (h K.Channels refl)
same_exported StatusTexts t u h = ap (λ (l : Own K.StatusTexts). exported StatusTexts (put_own K.StatusTexts t l)) (h K.StatusTexts refl)
same_exported Groups t u h = ap (λ (l : Own K.Group). exported Groups (put_own K.Group t l)) (h K.Group refl)
same_exported Individuals t u h = ap (λ (l : Own K.Individual). exported Individuals (put_own K.Individual t l)) (h K.Individual refl)
same_exported GroupContacts t u h = ap (λ (l : Own K.GroupContacts). exported GroupContacts (put_own K.GroupContacts t l)) (h K.GroupContacts refl)
same_exported IndividualContacts t u h = ap (λ (l : Own K.IndividualContacts). exported IndividualContacts (put_own K.IndividualContacts t l)) (h K.IndividualContacts refl)
same_exported LineSlots t u h = ap (λ (l : Own K.LineSlot). exported LineSlots (put_own K.LineSlot t l)) (h K.LineSlot refl)

module _ (lim : Limits) (x : Exportable lim) (t u : Tables) (ok : Allowed lim t) (fine : Allowed lim u) (p : Part) where
  -- the part as one set has it, in any other
  turned : (v : Tables) (good : Allowed lim v) → in_turn (change lim) (exported p v) t ≡ some (with_part p v t)
  turned v good = part_turn lim lim v t good ok p (own_fits lim x v good p).places

  -- PART ONE: equal requests of a part are equal tables of it
  pub part_one : request_bytes (exported p t) ≡ request_bytes (exported p u) → SamePart p t u
  part_one e k h =
      let same : exported p t ≡ exported p u = exported_only lim x u fine p (exported p t) (subst (Request unicode16 (exported p t)) e (exported_request lim x t ok p).0) in
      let both : with_part p t t ≡ with_part p u t
      = option_some_injective (with_part p t t) (with_part p u t) (sym (turned t ok) ∙ ap (λ (l : List Setting). in_turn (change lim) l t) same ∙ turned u fine) in
      of_part t ∙ ap (own k) both ∙ sym (of_part u)
    where
      -- its tables are those that were put
      of_part : (v : Tables) → own k v ≡ own k (with_part p v t)
      of_part v = sym (own_mix (part_kinds p) t v k ∙ ap (λ (b : Bool). cond b (own k v) (own k t)) h)

  -- SAME REQUESTS: and back
  pub same_requests : (request_bytes (exported p t) ≡ request_bytes (exported p u)) ↔ SamePart p t u
  same_requests = (part_one, λ h. ap request_bytes (same_exported p t u h))

  -- SAME TOLD: so comparing the requests tells
  pub same_told : (r : Bool) → r ≡ same? (request_bytes (exported p t)) (request_bytes (exported p u)) → (r ≡ true) ↔ SamePart p t u
  same_told r e =
      let one : List ℕ = request_bytes (exported p t) in
      let other : List ℕ = request_bytes (exported p u) in
      (λ q. same_requests.0 (same_are one other (sym e ∙ q)), λ q. e ∙ ap (same? one) (sym (same_requests.1 q)) ∙ same_refl one)

-- ---- all parts

-- no part has the kept hash
no_last : (q : Part) → part_kinds q K.Last ≡ false
no_last Lines = refl
no_last Fixed = refl
no_last QuickTexts = refl
no_last Channels = refl
no_last StatusTexts = refl
no_last Groups = refl
no_last Individuals = refl
no_last GroupContacts = refl
no_last IndividualContacts = refl
no_last LineSlots = refl

-- so forgetting it changes the tables of none
forget_part : (q : Part) (t : Tables) → SamePart q (forget t) t
forget_part q t k h = by (only K.Last k) refl
  where
    by : (b : Bool) → only K.Last k ≡ b → own k (forget t) ≡ own k t
    by true e = absurd (true≢false (sym (ap (part_kinds q) (same_kind K.Last k e) ∙ h) ∙ no_last q))
    by false e = own_other K.Last k t no_hash e

-- ALL PARTS: where the tables of every part are the same, all are
pub all_parts : (t u : Tables) → ((q : Part) → SamePart q t u) → SameTables t u
all_parts t u h = λ i. record {
  hash = no_hash;
  key = h Fixed K.Key refl i;
  home = h Fixed K.Home refl i;
  system = h Fixed K.System refl i;
  quick = h QuickTexts K.QuickTexts refl i;
  status = h StatusTexts K.StatusTexts refl i;
  groups = h Groups K.Group refl i;
  individuals = h Individuals K.Individual refl i;
  line_slots = h LineSlots K.LineSlot refl i;
  group_contacts = h GroupContacts K.GroupContacts refl i;
  individual_contacts = h IndividualContacts K.IndividualContacts refl i;
  channels = h Channels K.Channels refl i;
  lines = h Lines K.Lines refl i;
}

-- the same part or another
part_or : (p q : Part) → (q ≡ p) ⊎ (q ≢ p)
part_or p q = by (eqb (part_number q) (part_number p)) refl
  where
    by : (b : Bool) → eqb (part_number q) (part_number p) ≡ b → (q ≡ p) ⊎ (q ≢ p)
    by true e = inl (one_part q p (eqb-true (part_number q) (part_number p) e))
    by false e = inr (λ d. eqb-false (part_number q) (part_number p) e (ap part_number d))

-- SOLE MIXED: the first's tables with the one part that differs as the second has it are the second's
pub sole_mixed : (p : Part) (t u : Tables) → Sole p t u → SameTables (with_part p u (forget t)) u
sole_mixed p t u (_, others) = all_parts (with_part p u (forget t)) u (λ q k h. own_mix (part_kinds p) (forget t) u k ∙ by q k h (part_kinds p k) refl)
  where
    by : (q : Part) (k : Kind) → part_kinds q k ≡ true → (b : Bool) → part_kinds p k ≡ b → cond b (own k u) (own k (forget t)) ≡ own k u
    by q k h true e = refl
    by q k h false e = forget_part q t k h ∙ others q (λ d. true≢false (sym h ∙ ap (λ (r : Part). part_kinds r k) d ∙ e)) k h

-- SOLE ONE: one part at most is the only one that differs
pub sole_one : (p q : Part) (t u : Tables) → Sole p t u → Sole q t u → p ≡ q
sole_one p q t u (_, others) (differs, _) = by (part_or p q)
  where
    by : (q ≡ p) ⊎ (q ≢ p) → p ≡ q
    by (inl e) = sym e
    by (inr n) = absurd (differs (others q n))

-- ---- one part after the other

-- the numbers of parts
pub number_range : (q : Part) → (1 ≤ part_number q) × (part_number q ≤ 10)
number_range Lines = (omega arith, omega arith)
number_range Fixed = (omega arith, omega arith)
number_range QuickTexts = (omega arith, omega arith)
number_range Channels = (omega arith, omega arith)
number_range StatusTexts = (omega arith, omega arith)
number_range Groups = (omega arith, omega arith)
number_range Individuals = (omega arith, omega arith)
number_range GroupContacts = (omega arith, omega arith)
number_range IndividualContacts = (omega arith, omega arith)
number_range LineSlots = (omega arith, omega arith)

module _ (t u : Tables) where
  -- none at first
  pub known_first : Known t u 0 Nothing
  known_first q h = absurd (omega (arith, h, (number_range q).0))

  module _ (k : ℕ) (p : Part) (n : part_number p ≡ k + 1) where
    -- of those up to the next number: it, or one before it
    up_to : (q : Part) → part_number q ≤ k + 1 → (part_number q ≤ k) ⊎ (q ≡ p)
    up_to q h = by (dec_le (part_number q) k)
      where
        by : Dec (part_number q ≤ k) → (part_number q ≤ k) ⊎ (q ≡ p)
        by (yes l) = inl l
        by (no f) = inr (one_part q p (omega (arith, h, f, n)))

    -- what holds of those before it and of it
    one_more : (P : Part → Type 0) → ((q : Part) → part_number q ≤ k → P q) → P p → (q : Part) → part_number q ≤ k + 1 → P q
    one_more P before here q h = by (up_to q h)
      where
        by : (part_number q ≤ k) ⊎ (q ≡ p) → P q
        by (inl l) = before q l
        by (inr e) = subst P (sym e) here

    -- KNOWN NEXT: with one part more
    pub known_next : (d : Differing) (r : Bool) → (r ≡ true) ↔ SamePart p t u → Known t u k d → Known t u (k + 1) (noted d (k + 1) r)
    known_next Nothing true is a = one_more (λ q. SamePart q t u) a (is.0 refl)
    known_next (One m) true is (s, e, l, differs, others) =
        (s, e, omega (arith, l), differs, one_more (λ q. q ≢ s → SamePart q t u) others (λ f. is.0 refl))
    known_next Several true is a = a
    known_next Nothing false is a =
        (p, n, omega arith, λ h. true≢false (sym (is.1 h)), one_more (λ q. q ≢ p → SamePart q t u) (λ q l f. a q l) (λ f. absurd (f refl)))
    known_next (One m) false is (s, e, l, differs, others) = (s, p, λ d. omega (arith, l, n, e, ap part_number d), differs, λ h. true≢false (sym (is.1 h)))
    known_next Several false is a = a

  -- of all ten: the only one that differs, or no such
  pub known_sole : (n : ℕ) → Known t u 10 (One n) → (p : Part) × (part_number p ≡ n) × Sole p t u
  known_sole n (p, e, l, differs, others) = (p, e, (differs, λ q f. others q (number_range q).1 f))

  -- none differs, or two do
  pub known_same : Known t u 10 Nothing → (q : Part) → SamePart q t u
  known_same a q = a q (number_range q).1

  pub known_several : Known t u 10 Several → (p : Part) → Sole p t u → ⊥
  known_several (q, r, n, a, b) p (_, others) = by (part_or p q) (part_or p r)
    where
      by : (q ≡ p) ⊎ (q ≢ p) → (r ≡ p) ⊎ (r ≢ p) → ⊥
      by (inr f) s = a (others q f)
      by (inl e) (inr f) = b (others r f)
      by (inl e) (inl d) = n (e ∙ sym d)

-- ---- none or several

module _ (lim : Limits) (x : Exportable lim) (t u : Tables) (ok : Allowed lim t) (fine : Allowed lim u) where
  -- which parts differ can be told, by their requests
  known_upto : (k : ℕ) → k ≤ 10 → (d : Differing) × Known t u k d
  known_upto zero h = (Nothing, known_first t u)
  known_upto (suc k) h =
      let (d, a) = known_upto k (omega (arith, h)) in
      let p : Part = get_or ten k Lines in
      let n : part_number p ≡ k + 1 = ten_at k (omega (arith, h)) in
      let r : Bool = same? (request_bytes (exported p t)) (request_bytes (exported p u)) in
      (noted d (k + 1) r, subst (λ (i : ℕ). Known t u i (noted d (k + 1) r)) (add-one k) (known_next t u k p n d r (same_told lim x t u ok fine p r refl) a))

  -- SINGLE OR NOT: one part is the only one that differs, or none differs, or several do
  pub single_or_not : ((p : Part) × Sole p t u) ⊎ NoneOrSeveral t u
  single_or_not = let (d, a) = known_upto 10 (omega arith) in by d a
    where
      by : (d : Differing) → Known t u 10 d → ((p : Part) × Sole p t u) ⊎ NoneOrSeveral t u
      by Nothing a = inr (inl (known_same t u a))
      by (One n) a = let (p, _, o) = known_sole t u n a in inl (p, o)
      by Several a = inr (inr a)

-- NOT BOTH: and not both
pub none_single : (t u : Tables) → NoneOrSeveral t u → (p : Part) → Sole p t u → ⊥
none_single t u (inl a) p o = o.0 (a p)
none_single t u (inr a) p o = known_several t u a p o
