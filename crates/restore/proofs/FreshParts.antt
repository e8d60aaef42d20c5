-- FRESH PARTS: a fresh set that takes parts in their order has, at each, the part's tables fresh, no more text than they were exported of, and so much as was carried. Assumes nothing.
use Rattle.lists.proofs.Kit.{ℕ, suc, ◌+◌, ◌-◌, ◌≤◌, ◌≡◌, ◌≢◌, refl, sym, ap, ap₂, ◌∙◌, subst, subst⁻¹, Bool, true, false, cond, ◌||◌, List, [], ◌∷◌, ◌++◌, map, map-append, append-nil, arith, length, take, drop, take-append_seam, append_snoc, zero-add}
use Rattle.slots.specs.Slots.{sum}
use Rattle.writing.specs.declared.Kind.{Kind}
use Rattle.writing.specs.declared.Kind.TheVariants as K
use Rattle.tables.specs.declared.limits.Limits.{Limits}
use Rattle.tables.specs.Allowed.{Allowed}
use Rattle.tables.specs.Apply.{apply}
use Rattle.tables.specs.Owns.{Own, own, only}
use Rattle.tables.specs.Tables.{Tables, no_hash, fresh}
use Rattle.tables.specs.Texts.{text_sum, text_size, TextRoom, Passes, WhereShared}
use Rattle.tables.proofs.AllowedLaws.{forget_allowed}
use Rattle.tables.proofs.Owns.{own_mix, own_other, same_kind}
use Rattle.tables.proofs.RoomSentences.{Stuck}
use Rattle.tables.proofs.FormLaws.{shared_then}
use Rattle.requests.specs.Requests.{forget}
use Rattle.shared_texts.specs.Rooms.{Under}
use Rattle.shared_texts.proofs.RegionLaws.{sum_append}
use Rattle.shared_texts.proofs.RoomLaws.{under_sum}
use Rattle.export.specs.declared.parts.Part.{Part}
use Rattle.export.specs.declared.parts.Part.TheVariants.{Lines, Fixed, QuickTexts, Channels, StatusTexts, Groups, Individuals, GroupContacts, IndividualContacts, LineSlots}
use Rattle.export.specs.Exported.{ten, part_number, exported}
use Rattle.restore.specs.Restored.{part_kinds, with_part, with_parts, SameTables, Ready, PlacesFor, carried, carried_by, texts_before, texts_upto, first_past, FreshPart, HasRoom}
use Rattle.restore.proofs.FirstPast.{past_same}
use Rattle.restore.proofs.FreshRuns.{fresh_size, part_added, fresh_part_turn, fresh_stuck}
use Rattle.restore.proofs.TextRooms.{room_if, past_if}

-- ---- each table is one part's

-- whose; the kept hash is no part's, and stands with the fixed ones
part_of : Kind → Part
part_of K.GroupContacts = GroupContacts
part_of K.IndividualContacts = IndividualContacts
part_of K.Lines = Lines
part_of K.Key = Fixed
part_of K.QuickTexts = QuickTexts
part_of K.Home = Fixed
part_of K.Channels = Channels
part_of K.System = Fixed
part_of K.StatusTexts = StatusTexts
part_of K.Group = Groups
part_of K.Individual = Individuals
part_of K.LineSlot = LineSlots
part_of K.Last = Fixed

-- one of three
one_of : (a b c : Bool) {P : Type 0} → (a ≡ true → P) → (b ≡ true → P) → (c ≡ true → P) → (a || b || c) ≡ true → P
one_of true b c f g h e = f refl
one_of false true c f g h e = g refl
one_of false false c f g h e = h e

-- a kind of a part is no other part's, and not the hash
kind_of : (p : Part) (k : Kind) → part_kinds p k ≡ true → (part_of k ≡ p) × (only K.Last k ≡ false)
unfolding part_of
kind_of p k e = by p e
  where
    is : (j : Kind) (p : Part) → (part_of j ≡ p) × (only K.Last j ≡ false) → only j k ≡ true → (part_of k ≡ p) × (only K.Last k ≡ false)
    is j p h e = subst (λ (i : Kind). (part_of i ≡ p) × (only K.Last i ≡ false)) (same_kind j k e) h

    by : (p : Part) → part_kinds p k ≡ true → (part_of k ≡ p) × (only K.Last k ≡ false)
    by Lines e = is K.Lines Lines (refl, refl) e
    by Fixed e = one_of (only K.Key k) (only K.Home k) (only K.System k) (is K.Key Fixed (refl, refl)) (is K.Home Fixed (refl, refl)) (is K.System Fixed (refl, refl)) e
    by QuickTexts e = is K.QuickTexts QuickTexts (refl, refl) e
    by Channels e = is K.Channels Channels (refl, refl) e
    by StatusTexts e = is K.StatusTexts StatusTexts (refl, refl) e
    by Groups e = is K.Group Groups (refl, refl) e
    by Individuals e = is K.Individual Individuals (refl, refl) e
    by GroupContacts e = is K.GroupContacts GroupContacts (refl, refl) e
    by IndividualContacts e = is K.IndividualContacts IndividualContacts (refl, refl) e
    by LineSlots e = is K.LineSlot LineSlots (refl, refl) e

-- ---- what stays fresh

-- FRESH FORGET: the hash is no part's
pub fresh_forget : (p : Part) (u : Tables) → FreshPart p u → FreshPart p (forget u)
fresh_forget p u f k e = own_other K.Last k u no_hash (kind_of p k e).1 ∙ f k e

-- FRESH SET: of a fresh set, every part's tables are
pub fresh_set : (u : Tables) → SameTables u fresh → (p : Part) → FreshPart p u
fresh_set u s p k e =
    let h : only K.Last k ≡ false = (kind_of p k e).1 in
    sym (own_other K.Last k u no_hash h) ∙ ap (own k) s ∙ own_other K.Last k fresh no_hash h

-- FRESH OTHER: a part leaves the tables of the others
pub fresh_other : (p q : Part) (t u : Tables) → p ≢ q → FreshPart q u → FreshPart q (with_part p t u)
fresh_other p q t u n f k e = own_mix (part_kinds p) u t k ∙ by (part_kinds p k) refl
  where
    by : (b : Bool) → part_kinds p k ≡ b → cond b (own k t) (own k u) ≡ own k fresh
    by true h = absurd (n (sym (kind_of p k h).0 ∙ (kind_of q k e).0))
    by false h = f k e

-- ---- tables that have no more text than t

-- the hash has no text
forget_size : (k : Kind) (u : Tables) → text_size k (own k (forget u)) ≡ text_size k (own k u)
forget_size k u = by (only K.Last k) refl
  where
    by : (b : Bool) → only K.Last k ≡ b → text_size k (own k (forget u)) ≡ text_size k (own k u)
    by true h = subst (λ (j : Kind). text_size j (own j (forget u)) ≡ text_size j (own j u)) (same_kind K.Last k h) refl
    by false h = ap (text_size k) (own_other K.Last k u no_hash h)

module _ (t : Tables) where
  -- UNDER FRESH: those of a fresh set
  pub under_fresh : (u : Tables) → SameTables u fresh → Under u t
  under_fresh u s k =
      let e : text_size k (own k u) ≡ 0 = sym (forget_size k u) ∙ ap (λ (v : Tables). text_size k (own k v)) s ∙ forget_size k fresh ∙ fresh_size k in
      omega arith

  -- UNDER FORGET: with no hash
  pub under_forget : (u : Tables) → Under u t → Under (forget u) t
  under_forget u h k = let e : text_size k (own k (forget u)) ≡ text_size k (own k u) = forget_size k u in omega (arith, h k)

  -- UNDER PART: with a part as t has it
  pub under_part : (p : Part) (u : Tables) → Under u t → Under (with_part p t u) t
  under_part p u h k = subst⁻¹ (λ (x : Own k). text_size k x ≤ text_size k (own k t)) (own_mix (part_kinds p) u t k) (by (part_kinds p k))
    where
      by : (b : Bool) → text_size k (cond b (own k t) (own k u)) ≤ text_size k (own k t)
      by true = omega arith
      by false = h k

  -- with parts in turn
  pub under_parts : (ps : List Part) (u : Tables) → Under u t → Under (with_parts t ps u) t
  under_parts [] u h = h
  under_parts (p ∷ ps) u h = under_parts ps (with_part p t (forget u)) (under_part p (forget u) (under_forget u h))

-- ---- parts in their order

-- parts with the numbers from n on
abbrev Numbered : ℕ → List Part → Type 0
Numbered n [] = Unit {0}
Numbered n (p ∷ ps) = (part_number p ≡ n) × Numbered (suc n) ps

ten_numbered : Numbered 1 ten
ten_numbered = (refl, (refl, (refl, (refl, (refl, (refl, (refl, (refl, (refl, (refl, tt))))))))))

-- the first of them
numbered_left : (n : ℕ) (a b : List Part) → Numbered n (a ++ b) → Numbered n a
numbered_left n [] b m = tt
numbered_left n (p ∷ a) b m = (m.0, numbered_left (suc n) a b m.1)

-- one behind them
number_behind : (n : ℕ) (a : List Part) (p : Part) (b : List Part) → Numbered n (a ++ p ∷ b) → part_number p ≡ n + length a
number_behind n [] p b m = omega (arith, m.0)
number_behind n (q ∷ a) p b m = omega (arith, number_behind (suc n) a p b m.1)

-- the tables of the parts from number n on are those of a fresh set
abbrev FreshFrom : ℕ → Tables → Type 0
FreshFrom n u = (p : Part) → n ≤ part_number p → FreshPart p u

module _ (t : Tables) where
  -- after the part with that number, those from the next on
  fresh_next : (n : ℕ) (p : Part) (u : Tables) → part_number p ≡ n → FreshFrom n u → FreshFrom (suc n) (with_part p t (forget u))
  fresh_next n p u e f q h = fresh_other p q t (forget u) (λ s. omega (arith, e, h, ap part_number s)) (fresh_forget q u (f q (omega arith)))

  -- at each part, its own
  fresh_at : (n : ℕ) (a : List Part) (p : Part) (b : List Part) (u : Tables) → Numbered n (a ++ p ∷ b) → FreshFrom n u → FreshPart p (with_parts t a u)
  fresh_at n [] p b u m f = f p (omega (arith, m.0))
  fresh_at n (q ∷ a) p b u m f = fresh_at (suc n) a p b (with_part q t (forget u)) m.1 (fresh_next n q u m.0 f)

  -- and the sum is what was held and what the parts carried
  parts_added : (n : ℕ) (ps : List Part) (u : Tables) → Numbered n ps → FreshFrom n u → text_sum (with_parts t ps u) ≡ text_sum u + carried_by t ps
  parts_added n [] u m f = omega arith
  parts_added n (p ∷ ps) u m f =
      let e : text_sum (with_part p t (forget u)) ≡ text_sum u + carried (exported p t) = part_added t (forget u) p (fresh_forget p u (f p (omega (arith, m.0)))) in
      omega (arith, parts_added (suc n) ps (with_part p t (forget u)) m.1 (fresh_next n p u m.0 f))

-- ---- the ten, from a fresh set

-- one part more at the end
pub parts_more : (t : Tables) (ps : List Part) (p : Part) (u : Tables) → with_parts t (ps ++ (p ∷ [])) u ≡ with_part p t (forget (with_parts t ps u))
parts_more t [] p u = refl
parts_more t (q ∷ ps) p u = parts_more t ps p (with_part q t (forget u))

-- where each part stands
part_at : (p : Part) → take (part_number p - 1) ten ++ (p ∷ drop (part_number p) ten) ≡ ten
part_at Lines = refl
part_at Fixed = refl
part_at QuickTexts = refl
part_at Channels = refl
part_at StatusTexts = refl
part_at Groups = refl
part_at Individuals = refl
part_at GroupContacts = refl
part_at IndividualContacts = refl
part_at LineSlots = refl

-- u is what a fresh set has come to where these parts of t are to be taken next, in their order
pub record Coming (t : Tables) (ps : List Part) (u : Tables) : Type 0 where
  pub taken : List Part
  pub behind : List Part
  pub start : Tables
  pub new : SameTables start fresh
  pub order : taken ++ (ps ++ behind) ≡ ten
  pub now : u ≡ with_parts t taken start

-- SUM ALL: up to the last part, the texts are those of t
pub sum_all : (t : Tables) → texts_upto t LineSlots ≡ text_sum t
sum_all t = let e : text_sum t ≡ 0 + carried_by t ten = parts_added t 1 ten fresh ten_numbered (λ q h. fresh_set fresh refl q) in omega arith

-- SUM MOST: and up to any, no more
pub sum_most : (t : Tables) (p : Part) → texts_upto t p ≤ text_sum t
sum_most t p =
    let e : carried_by t ten ≡ texts_before t p + carried_by t (p ∷ drop (part_number p) ten)
    = ap (carried_by t) (sym (part_at p)) ∙ carried_both (take (part_number p - 1) ten) (p ∷ drop (part_number p) ten) in
    let a : texts_upto t LineSlots ≡ text_sum t = sum_all t in
    omega arith
  where
    -- what parts carry, and then others
    carried_both : (a b : List Part) → carried_by t (a ++ b) ≡ carried_by t a + carried_by t b
    carried_both a b = ap sum (map-append (λ q. carried (exported q t)) a b) ∙ sum_append (map (λ q. carried (exported q t)) a) (map (λ q. carried (exported q t)) b)

module _ (t : Tables) where
  -- COMING FIRST: the first of them, to a fresh set
  pub coming_first : (u : Tables) (ps behind : List Part) → ps ++ behind ≡ ten → SameTables u fresh → Coming t ps u
  coming_first u ps behind e s = record { taken = []; behind = behind; start = u; new = s; order = e; now = refl }

  -- COMING NEXT: a part was taken
  pub coming_next : (u : Tables) (p : Part) (ps : List Part) → Coming t (p ∷ ps) u → Coming t ps (with_part p t (forget u))
  coming_next u p ps c = record {
    taken = c.taken ++ (p ∷ []);
    behind = c.behind;
    start = c.start;
    new = c.new;
    order = append_snoc c.taken p (ps ++ c.behind) ∙ c.order;
    now = ap (λ (v : Tables). with_part p t (forget v)) c.now ∙ sym (parts_more t c.taken p c.start);
  }

  -- COMING BEHIND: all before them were taken
  pub coming_behind : (u : Tables) (before ps : List Part) → before ++ ps ≡ ten → SameTables u fresh → Coming t ps (with_parts t before u)
  coming_behind u before ps e s =
      record { taken = before; behind = []; start = u; new = s; order = ap (λ (l : List Part). before ++ l) (append-nil ps) ∙ e; now = refl }

  -- COMING UNDER: table by table, it has no more text than t
  pub coming_under : (u : Tables) (ps : List Part) → Coming t ps u → Under u t
  coming_under u ps c = subst⁻¹ (λ (v : Tables). Under v t) c.now (under_parts t c.taken c.start (under_fresh t c.start c.new))

  module _ (u : Tables) (p : Part) (ps : List Part) (c : Coming t (p ∷ ps) u) where
    abbrev later : List Part
    later = ps ++ c.behind

    numbered : Numbered 1 (c.taken ++ (p ∷ later))
    numbered = subst⁻¹ (Numbered 1) c.order ten_numbered

    -- those taken are those before it
    taken_before : c.taken ≡ take (part_number p - 1) ten
    taken_before =
        let n : length c.taken ≡ part_number p - 1 = omega (arith, number_behind 1 c.taken p later numbered) in
        sym (take-append_seam c.taken (p ∷ later)) ∙ ap₂ (λ (k : ℕ) (l : List Part). take k l) n c.order

    -- COMING FRESH: the next part's tables are still those of a fresh set
    pub coming_fresh : FreshPart p (forget u)
    coming_fresh = fresh_forget p u (subst⁻¹ (FreshPart p) c.now (fresh_at t 1 c.taken p later c.start numbered (λ q h. fresh_set c.start c.new q)))

    -- COMING HELD: the texts so far are those of the parts before it
    pub coming_held : text_sum u ≡ texts_before t p
    coming_held =
        ap text_sum c.now
        ∙ parts_added t 1 c.taken c.start (numbered_left 1 c.taken (p ∷ later) numbered) (λ q h. fresh_set c.start c.new q)
        ∙ ap₂ (λ (n : ℕ) (l : List Part). n + carried_by t l) (ap text_sum c.new) taken_before
        ∙ zero-add (texts_before t p)

    -- COMING SUM: and with it, those up to it
    pub coming_sum : text_sum (with_part p t (forget u)) ≡ texts_upto t p
    coming_sum = part_added t (forget u) p coming_fresh ∙ ap (λ (n : ℕ). n + carried (exported p t)) coming_held

-- ---- in a set with places for a part

module _ (from to : Limits) (t u : Tables) (ok : Allowed from t) (old : Allowed to u) (p : Part) (places : PlacesFor to t p) where
  -- COMING TURN: the settings of the part that a set comes to have room in turn where the texts up to it have
  pub coming_turn : (ps : List Part) → WhereShared to.texts (Coming t (p ∷ ps) u) → TextRoom to.texts (texts_upto t p) → HasRoom to t p u
  coming_turn ps c h =
      fresh_part_turn from to t (forget u) ok (forget_allowed to u old) p places (shared_then to.texts (coming_fresh t u p ps) c)
      (room_if to.texts (text_sum (with_part p t (forget u))) (texts_upto t p)
      (shared_then to.texts {P = Coming t (p ∷ ps) u} (λ y. omega (arith, coming_sum t u p ps y)) c) h)

  -- READY TURN: and those of any part, in a set that is ready, where all texts have
  pub ready_turn : Ready to.texts u → TextRoom to.texts (text_sum t) → HasRoom to t p u
  ready_turn r h =
      fresh_part_turn from to t (forget u) ok (forget_allowed to u old) p places
      (shared_then to.texts {P = SameTables u fresh} (λ s. fresh_forget p u (fresh_set u s p)) r)
      (room_if to.texts (text_sum (with_part p t (forget u))) (text_sum t)
      (shared_then to.texts {P = SameTables u fresh} (λ s. under_sum (with_part p t (forget u)) t (under_part t p (forget u) (under_forget t u (under_fresh t u s)))) r) h)

  -- COMING STUCK: where the texts up to it pass the area, they are stuck at the first setting with which the texts do
  pub coming_stuck : (ps : List Part) → WhereShared to.texts (Coming t (p ∷ ps) u) → Passes to.texts (texts_upto t p)
      → (s : Stuck (apply to) (exported p t) (forget u)) × (length s.done + 1 ≡ first_past to.texts (texts_before t p) (exported p t))
  coming_stuck ps c h =
      let (s, e) = fresh_stuck from to t (forget u) ok (forget_allowed to u old) p places (shared_then to.texts (coming_fresh t u p ps) c) old.texts
      (past_if to.texts (texts_upto t p) (text_sum (with_part p t (forget u)))
      (shared_then to.texts {P = Coming t (p ∷ ps) u} (λ y. omega (arith, coming_sum t u p ps y)) c) h) in
      (s, e ∙ past_same to.texts (text_sum u) (texts_before t p) (exported p t) (shared_then to.texts (coming_held t u p ps) c))
