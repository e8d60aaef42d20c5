-- Each kind of setting has its own table: what is equal there, and what stays. One case a kind. Assumes nothing.
use Rattle.lists.proofs.Kit.{ℕ, ◌≡◌, refl, sym, ap, ◌∙◌, subst, Bool, true, false, cond, ◌||◌, true≢false, List, [], ◌∷◌, Option, none, some, option_some_injective, option_none_ne_some, eqb-true}
use Rattle.lists.specs.Every.{All}
use Rattle.writing.specs.Writing.{type_byte}
use Rattle.writing.proofs.Unique.{one_kind}
use Rattle.writing.specs.declared.Kind.{Kind}
use Rattle.writing.specs.declared.Kind.TheVariants.{GroupContacts, IndividualContacts, Lines, Key, QuickTexts, Home, Channels, System, StatusTexts, Group, Individual, LineSlot, Last}
use Rattle.writing.specs.Settings.{Setting, kind}
use Rattle.tables.specs.declared.limits.Limits.{Limits}
use Rattle.tables.specs.Apply.{apply, own_after, and_then, in_turn}
use Rattle.tables.specs.Tables.{Tables}
use Rattle.tables.specs.Owns.{Own, own, mix, only, touches, Agree, put_own}
use Rattle.tables.proofs.RoomSentences.{came, put_mixes, apply_change, own_table}

-- OWN-MIX: each table is that of one or of the other
pub own_mix : (p : Kind → Bool) (t u : Tables) (k : Kind) → own k (mix p t u) ≡ cond (p k) (own k u) (own k t)
own_mix p t u GroupContacts = refl
own_mix p t u IndividualContacts = refl
own_mix p t u Lines = refl
own_mix p t u Key = refl
own_mix p t u QuickTexts = refl
own_mix p t u Home = refl
own_mix p t u Channels = refl
own_mix p t u System = refl
own_mix p t u StatusTexts = refl
own_mix p t u Group = refl
own_mix p t u Individual = refl
own_mix p t u LineSlot = refl
own_mix p t u Last = refl

-- ALIKE: tables are equal where every one is
pub alike : (t u : Tables) → ((k : Kind) → own k t ≡ own k u) → t ≡ u
alike t u e = λ i. record {
  hash = e Last i;
  key = e Key i;
  home = e Home i;
  system = e System i;
  quick = e QuickTexts i;
  status = e StatusTexts i;
  groups = e Group i;
  individuals = e Individual i;
  line_slots = e LineSlot i;
  group_contacts = e GroupContacts i;
  individual_contacts = e IndividualContacts i;
  channels = e Channels i;
  lines = e Lines i;
}

-- OTHERS STAY: a setting leaves every table but its own
pub others_stay : (lim : Limits) (s : Setting) (t u : Tables) (k : Kind) → apply lim s t ≡ some u → only (kind s) k ≡ false → own k u ≡ own k t
others_stay lim s t u k e h =
    ap (own k) (own_table lim s t u e) ∙ own_mix (only (kind s)) t u k ∙ ap (λ (b : Bool). cond b (own k u) (own k t)) h

-- OWN-OTHER: a table that was put leaves the others
pub own_other : (k j : Kind) (t : Tables) (x : Own k) → only k j ≡ false → own j (put_own k t x) ≡ own j t
own_other k j t x h =
    ap (own j) (put_mixes k t x) ∙ own_mix (only k) t (put_own k t x) j ∙ ap (λ (b : Bool). cond b (own j (put_own k t x)) (own j t)) h

-- OWN-PUT: a table that was put is there
pub own_put : (k : Kind) (t : Tables) (x : Own k) → own k (put_own k t x) ≡ x
own_put GroupContacts t x = refl
own_put IndividualContacts t x = refl
own_put Lines t x = refl
own_put Key t x = refl
own_put QuickTexts t x = refl
own_put Home t x = refl
own_put Channels t x = refl
own_put System t x = refl
own_put StatusTexts t x = refl
own_put Group t x = refl
own_put Individual t x = refl
own_put LineSlot t x = refl
own_put Last t x = refl

-- OWN ALONE: what a setting makes of its table depends on that table alone
pub own_alone : (lim : Limits) (s : Setting) (t t' u u' : Tables) → apply lim s t ≡ some u → apply lim s t' ≡ some u' → own (kind s) t ≡ own (kind s) t' → own (kind s) u ≡ own (kind s) u'
own_alone lim s t t' u u' e e' h =
    let (a, p, q) = came (put_own (kind s) t) (own_after lim s (own (kind s) t)) u (apply_change lim s t u e) in
    let (b, p', q') = came (put_own (kind s) t') (own_after lim s (own (kind s) t')) u' (apply_change lim s t' u' e') in
    let r : a ≡ b = option_some_injective a b (sym p ∙ ap (own_after lim s) h ∙ p') in
    sym (ap (own (kind s)) q) ∙ own_put (kind s) t a ∙ r ∙ sym (own_put (kind s) t' b) ∙ ap (own (kind s)) q'

-- ---- settings in turn

-- the first step of settings in turn, and the others
pub first : (lim : Limits) (s : Setting) (l : List Setting) (t u : Tables) → in_turn (apply lim) (s ∷ l) t ≡ some u → (v : Tables) × (apply lim s t ≡ some v) × (in_turn (apply lim) l v ≡ some u)
first lim s l t u e = go (apply lim s t) refl e
  where
    go : (o : Option Tables) → apply lim s t ≡ o → and_then o (in_turn (apply lim) l) ≡ some u → (v : Tables) × (apply lim s t ≡ some v) × (in_turn (apply lim) l v ≡ some u)
    go none d h = absurd (option_none_ne_some u h)
    go (some v) d h = (v, d, h)

pub or_false : (a b : Bool) → (a || b) ≡ false → (a ≡ false) × (b ≡ false)
or_false false b e = (refl, e)
or_false true b e = absurd (true≢false e)

-- FRAME: settings leave every table that they do not touch
pub untouched_stays : (lim : Limits) (l : List Setting) (t u : Tables) (k : Kind) → in_turn (apply lim) l t ≡ some u → touches l k ≡ false → own k u ≡ own k t
untouched_stays lim [] t u k e h = ap (own k) (sym (option_some_injective t u e))
untouched_stays lim (s ∷ l) t u k e h =
    let (v, a, b) = first lim s l t u e in
    let (x, y) = or_false (only (kind s) k) (touches l k) h in
    untouched_stays lim l v u k b y ∙ others_stay lim s t v k a x

-- a kind is found equal by its type byte
pub same_kind : (k j : Kind) → only k j ≡ true → k ≡ j
same_kind k j e = one_kind k j (eqb-true (type_byte k) (type_byte j) e)

-- LOCAL: settings whose tables are among p make equal tables of equal tables
pub local : (lim : Limits) (p : Kind → Bool) (l : List Setting) (t t' u u' : Tables) → All (λ s. p (kind s) ≡ true) l → Agree p t t' → in_turn (apply lim) l t ≡ some u → in_turn (apply lim) l t' ≡ some u' → Agree p u u'
local lim p [] t t' u u' among g e e' = λ k h. ap (own k) (sym (option_some_injective t u e)) ∙ g k h ∙ ap (own k) (option_some_injective t' u' e')
local lim p (s ∷ l) t t' u u' among g e e' =
    let (v, a, b) = first lim s l t u e in
    let (v', a', b') = first lim s l t' u' e' in
    local lim p l v v' u u' among.1 (λ k h. one k h v v' a a' (only (kind s) k) refl) b b'
  where
    one : (k : Kind) → p k ≡ true → (v v' : Tables) → apply lim s t ≡ some v → apply lim s t' ≡ some v' → (c : Bool) → only (kind s) k ≡ c → own k v ≡ own k v'
    one k h v v' a a' false o = others_stay lim s t v k a o ∙ g k h ∙ sym (others_stay lim s t' v' k a' o)
    one k h v v' a a' true o = subst (λ (j : Kind). own j v ≡ own j v') (same_kind (kind s) k o) (own_alone lim s t t' v v' a a' (g (kind s) among.0))
