-- Group, individual and line slots: what stands in one is what the last setting for it sent. Assumes nothing.
use Rattle.lists.proofs.Kit.{ℕ, ◌<◌, ◌≡◌, refl, sym, ap, ◌∙◌, subst⁻¹, Bool, true, false, cond, List, Option, none, some, option_some_injective, eqb-true, eqb-false, eqb, length, get_or, set, length-set, get_or-set_same, get_or-set_other}
use Rattle.writing.specs.declared.Kind.{Kind}
use Rattle.writing.specs.declared.Kind.TheVariants.{Group, Individual, LineSlot}
use Rattle.writing.specs.Settings.{Setting, kind, group_contacts, individual_contacts, lines, key, quick_texts, home, channels, system, status_texts, group, individual, line_slot, last}
use Rattle.tables.specs.declared.limits.Limits.{Limits}
use Rattle.tables.specs.Apply.{apply, slot_after}
use Rattle.tables.specs.Tables.{Tables}
use Rattle.tables.specs.Owns.{own, put_own}
use Rattle.tables.proofs.Owns.{others_stay}
use Rattle.tables.proofs.RoomSentences.{apply_change}
use Rattle.requests.specs.Requests.{forget, or_else}
use Rattle.laws_screen.specs.Reached.{to_group, to_individual, to_line_slot}
use Rattle.laws_screen.proofs.Sent.{Sees}

-- a table becomes another of as many places, in which place i is what a setting leaves in it
abbrev Step : {A : Type 0} → List (Option A) → List (Option A) → (ℕ → Option (Option A)) → Type 0
Step os ps to = (length ps ≡ length os) × ((i : ℕ) → i < length os → get_or ps i none ≡ or_else (to i) (get_or os i none))

-- a table that stays
stays : {A : Type 0} {os ps : List (Option A)} → ps ≡ os → Step os ps (λ i. none)
stays e = (ap length e, λ i h. ap (λ k. get_or k i none) e)

-- a table of which a place is set
is_set : {A : Type 0} (os ps : List (Option A)) (j : ℕ) (o : Option A) → ps ≡ set os j o → Step os ps (λ i. cond (eqb j i) (some o) none)
is_set os ps j o e = (ap length e ∙ length-set os j o, λ i h. ap (λ k. get_or k i none) e ∙ go i h (eqb j i) refl)
  where
    go : (i : ℕ) → i < length os → (b : Bool) → eqb j i ≡ b → get_or (set os j o) i none ≡ or_else (cond (eqb j i) (some o) none) (get_or os i none)
    go i h true e = rw (e, eqb-true j i e) (get_or-set_same os i o none h)
    go i h false e = rw e (get_or-set_other os j i o none (λ q. eqb-false j i e (sym q)))

-- the places of a table whose settings do so
sees : {A : Type 0} (of : Tables → List (Option A)) (to : ℕ → Setting → Option (Option A)) → ((t : Tables) → of (forget t) ≡ of t)
    → ((lim : Limits) (s : Setting) (t u : Tables) → apply lim s t ≡ some u → Step (of t) (of u) (λ i. to i s))
    → (i : ℕ) → Sees (λ t. get_or (of t) i none) (λ t. i < length (of t)) (to i)
sees {A} of to forgets step i = record {
  forgets = λ t h. (ap (λ k. get_or k i none) (forgets t), subst⁻¹ (λ (k : List (Option A)). i < length k) (forgets t) h);
  step = λ lim s t u e h. let (many, each) = step lim s t u e in (each i h, subst⁻¹ (λ (j : ℕ). i < j) many h);
}

-- ---- the three tables

group_step : (lim : Limits) (s : Setting) (t u : Tables) → apply lim s t ≡ some u → Step t.groups u.groups (λ i. to_group i s)
group_step lim (group_contacts o f es) t u e = stays (others_stay lim (group_contacts o f es) t u Group e refl)
group_step lim (individual_contacts o f es) t u e = stays (others_stay lim (individual_contacts o f es) t u Group e refl)
group_step lim (lines o f es) t u e = stays (others_stay lim (lines o f es) t u Group e refl)
group_step lim (key x f) t u e = stays (others_stay lim (key x f) t u Group e refl)
group_step lim (quick_texts o es) t u e = stays (others_stay lim (quick_texts o es) t u Group e refl)
group_step lim (home h) t u e = stays (others_stay lim (home h) t u Group e refl)
group_step lim (channels o ns) t u e = stays (others_stay lim (channels o ns) t u Group e refl)
group_step lim (system x) t u e = stays (others_stay lim (system x) t u Group e refl)
group_step lim (status_texts o es) t u e = stays (others_stay lim (status_texts o es) t u Group e refl)
group_step lim (group o f s) t u e =
    is_set t.groups u.groups s.index (slot_after o (record { flags = f; address = s.address; text = s.text }))
    (sym (ap (λ x. x.groups) (option_some_injective (put_own Group t (set t.groups s.index (slot_after o (record { flags = f; address = s.address; text = s.text })))) u (apply_change lim (group o f s) t u e))))
group_step lim (individual o f s) t u e = stays (others_stay lim (individual o f s) t u Group e refl)
group_step lim (line_slot o f s) t u e = stays (others_stay lim (line_slot o f s) t u Group e refl)
group_step lim (last f h) t u e = stays (others_stay lim (last f h) t u Group e refl)

individual_step : (lim : Limits) (s : Setting) (t u : Tables) → apply lim s t ≡ some u → Step t.individuals u.individuals (λ i. to_individual i s)
individual_step lim (group_contacts o f es) t u e = stays (others_stay lim (group_contacts o f es) t u Individual e refl)
individual_step lim (individual_contacts o f es) t u e = stays (others_stay lim (individual_contacts o f es) t u Individual e refl)
individual_step lim (lines o f es) t u e = stays (others_stay lim (lines o f es) t u Individual e refl)
individual_step lim (key x f) t u e = stays (others_stay lim (key x f) t u Individual e refl)
individual_step lim (quick_texts o es) t u e = stays (others_stay lim (quick_texts o es) t u Individual e refl)
individual_step lim (home h) t u e = stays (others_stay lim (home h) t u Individual e refl)
individual_step lim (channels o ns) t u e = stays (others_stay lim (channels o ns) t u Individual e refl)
individual_step lim (system x) t u e = stays (others_stay lim (system x) t u Individual e refl)
individual_step lim (status_texts o es) t u e = stays (others_stay lim (status_texts o es) t u Individual e refl)
individual_step lim (group o f s) t u e = stays (others_stay lim (group o f s) t u Individual e refl)
individual_step lim (individual o f s) t u e =
    is_set t.individuals u.individuals s.index (slot_after o (record { flags = f; address = s.address; text = s.text }))
    (sym (ap (λ x. x.individuals) (option_some_injective (put_own Individual t (set t.individuals s.index (slot_after o (record { flags = f; address = s.address; text = s.text })))) u (apply_change lim (individual o f s) t u e))))
individual_step lim (line_slot o f s) t u e = stays (others_stay lim (line_slot o f s) t u Individual e refl)
individual_step lim (last f h) t u e = stays (others_stay lim (last f h) t u Individual e refl)

line_slot_step : (lim : Limits) (s : Setting) (t u : Tables) → apply lim s t ≡ some u → Step t.line_slots u.line_slots (λ i. to_line_slot i s)
line_slot_step lim (group_contacts o f es) t u e = stays (others_stay lim (group_contacts o f es) t u LineSlot e refl)
line_slot_step lim (individual_contacts o f es) t u e = stays (others_stay lim (individual_contacts o f es) t u LineSlot e refl)
line_slot_step lim (lines o f es) t u e = stays (others_stay lim (lines o f es) t u LineSlot e refl)
line_slot_step lim (key x f) t u e = stays (others_stay lim (key x f) t u LineSlot e refl)
line_slot_step lim (quick_texts o es) t u e = stays (others_stay lim (quick_texts o es) t u LineSlot e refl)
line_slot_step lim (home h) t u e = stays (others_stay lim (home h) t u LineSlot e refl)
line_slot_step lim (channels o ns) t u e = stays (others_stay lim (channels o ns) t u LineSlot e refl)
line_slot_step lim (system x) t u e = stays (others_stay lim (system x) t u LineSlot e refl)
line_slot_step lim (status_texts o es) t u e = stays (others_stay lim (status_texts o es) t u LineSlot e refl)
line_slot_step lim (group o f s) t u e = stays (others_stay lim (group o f s) t u LineSlot e refl)
line_slot_step lim (individual o f s) t u e = stays (others_stay lim (individual o f s) t u LineSlot e refl)
line_slot_step lim (line_slot o f s) t u e =
    is_set t.line_slots u.line_slots s.index (slot_after o (record { flags = f; number = s.address; text = s.text }))
    (sym (ap (λ x. x.line_slots) (option_some_injective (put_own LineSlot t (set t.line_slots s.index (slot_after o (record { flags = f; number = s.address; text = s.text })))) u (apply_change lim (line_slot o f s) t u e))))
line_slot_step lim (last f h) t u e = stays (others_stay lim (last f h) t u LineSlot e refl)

-- GROUP PLACES, INDIVIDUAL PLACES, LINE PLACES
pub group_places : (i : ℕ) → Sees (λ t. get_or t.groups i none) (λ t. i < length t.groups) (to_group i)
group_places = sees (λ t. t.groups) to_group (λ t. refl) group_step

pub individual_places : (i : ℕ) → Sees (λ t. get_or t.individuals i none) (λ t. i < length t.individuals) (to_individual i)
individual_places = sees (λ t. t.individuals) to_individual (λ t. refl) individual_step

pub line_slot_places : (i : ℕ) → Sees (λ t. get_or t.line_slots i none) (λ t. i < length t.line_slots) (to_line_slot i)
line_slot_places = sees (λ t. t.line_slots) to_line_slot (λ t. refl) line_slot_step
