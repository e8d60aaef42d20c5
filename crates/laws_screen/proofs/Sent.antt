-- What stands in a place is what the last setting for it sent: over any place, whether of a slot or of a key. Assumes nothing.
use Rattle.lists.proofs.Kit.{ℕ, zero, suc, ◌≡◌, refl, sym, ap, ◌∙◌, subst, ◌↔◌, ◌⊎◌, inl, inr, List, [], ◌∷◌, ◌++◌, Option, none, some, option_none_ne_some, length}
use Rattle.lists.specs.Every.{All}
use Rattle.writing.specs.Settings.{Setting}
use Rattle.tables.specs.declared.limits.Limits.{Limits}
use Rattle.tables.specs.Apply.{apply}
use Rattle.tables.specs.Tables.{Tables, fresh}
use Rattle.laws_taking.specs.Demands.{InTurn}
use Rattle.requests.specs.Requests.{forget, or_else}
use Rattle.laws_screen.specs.Reached.{InOrder, all_of, LastSent}

-- ---- the last of a list

module _ {A : Type 0} (to : Setting → Option (Option A)) where
  -- what the settings leave of a
  abbrev pub left_by : Option A → List Setting → Option A
  left_by a [] = a
  left_by a (s ∷ l) = left_by (or_else (to s) a) l

  -- one list after another
  pub left_append : (a : Option A) (l k : List Setting) → left_by a (l ++ k) ≡ left_by (left_by a l) k
  left_append a [] k = refl
  left_append a (s ∷ l) k = left_append (or_else (to s) a) l k

  -- settings that are not for the slot leave it
  left_untouched : (a : Option A) (l : List Setting) → All (λ s. to s ≡ none) l → left_by a l ≡ a
  left_untouched a [] p = refl
  left_untouched a (s ∷ l) p = left_untouched (or_else (to s) a) l p.1 ∙ ap (λ o. or_else o a) p.0

  -- the last that is for it, if there is one
  record Touched (a : Option A) (l : List Setting) : Type 0 where
    before : List Setting
    setting : Setting
    after : List Setting
    content : Option A
    split : l ≡ before ++ (setting ∷ after)
    sent : to setting ≡ some content
    untouched : All (λ s. to s ≡ none) after
    left : left_by a l ≡ content

  find_last : (a : Option A) (l : List Setting) → Touched a l ⊎ All (λ s. to s ≡ none) l
  find_last a [] = inr tt
  find_last a (s ∷ l) = by (find_last (or_else (to s) a) l) (to s) refl
    where
      by : Touched (or_else (to s) a) l ⊎ All (λ s. to s ≡ none) l → (o : Option (Option A)) → to s ≡ o → Touched a (s ∷ l) ⊎ All (λ s. to s ≡ none) (s ∷ l)
      by (inl x) o e = inl (record { before = s ∷ x.before; setting = x.setting; after = x.after; content = x.content; split = ap (λ k. s ∷ k) x.split; sent = x.sent; untouched = x.untouched; left = x.left })
      by (inr p) none e = inr (e, p)
      by (inr p) (some c) e =
          inl (record { before = []; setting = s; after = l; content = c; split = refl; sent = e; untouched = p; left = left_untouched (or_else (to s) a) l p ∙ ap (λ o. or_else o a) e })

  -- what is left was sent last
  pub left_sent : (l : List Setting) (a : A) → left_by none l ≡ some a → LastSent to l a
  left_sent l a e = by (find_last none l)
    where
      by : Touched none l ⊎ All (λ s. to s ≡ none) l → LastSent to l a
      by (inl x) = record { before = x.before; setting = x.setting; after = x.after; split = x.split; sent = x.sent ∙ ap some (sym x.left ∙ e); untouched = x.untouched }
      by (inr p) = absurd (option_none_ne_some a (sym (left_untouched none l p) ∙ e))

  -- and what was sent last is left
  pub sent_left : (l : List Setting) (a : A) (b : Option A) → LastSent to l a → left_by b l ≡ some a
  sent_left l a b x =
      ap (left_by b) x.split ∙ left_append b x.before (x.setting ∷ x.after)
      ∙ left_untouched (or_else (to x.setting) (left_by b x.before)) x.after x.untouched ∙ ap (λ o. or_else o (left_by b x.before)) x.sent

-- ---- a place of the tables

-- what is seen of the tables at a place, in which tables it can be, and which settings are for it
pub record Sees {A : Type 0} (see : Tables → Option A) (In : Tables → Type 0) (to : Setting → Option (Option A)) : Type 0 where
  pub forgets : (t : Tables) → In t → (see (forget t) ≡ see t) × In (forget t)
  pub step : (lim : Limits) (s : Setting) (t u : Tables) → apply lim s t ≡ some u → In t → (see u ≡ or_else (to s) (see t)) × In u

module _ {A : Type 0} (see : Tables → Option A) (In : Tables → Type 0) (to : Setting → Option (Option A)) (p : Sees see In to) (lim : Limits) where
  -- the settings of a request, in turn
  turn_left : (n : ℕ) (t u : Tables) (l : List Setting) → InTurn lim n t l u → In t → (see u ≡ left_by to (see t) l) × In u
  turn_left n t u [] z h = (ap see (sym z), subst In z h)
  turn_left zero t u (s ∷ l) z h = absurd z
  turn_left (suc n) t u (s ∷ l) (r, v, e, z) h =
      let (each, k) = p.step lim s t v e h in
      let (d, w) = turn_left n v u l z k in
      (d ∙ ap (λ o. left_by to o l) each, w)

  -- the settings of all requests, in order
  order_left : (t u : Tables) (log : List (List Setting)) → InOrder lim t log u → In t → see u ≡ left_by to (see t) (all_of log)
  order_left t u [] z h = ap see (sym z)
  order_left t u (l ∷ log) (v, x, z) h =
      let (same, k) = p.forgets t h in
      let (d, w) = turn_left (length l) (forget t) v l x k in
      order_left v u log z w ∙ ap (λ o. left_by to o (all_of log)) (d ∙ ap (λ o. left_by to o l) same) ∙ sym (left_append to (see t) l (all_of log))

  -- SENT EXACTLY: from a start, what is seen was sent last, and what was sent last is seen
  pub sent_exactly : (log : List (List Setting)) (t : Tables) → InOrder lim fresh log t → In fresh → see fresh ≡ none
      → (a : A) → (see t ≡ some a) ↔ LastSent to (all_of log) a
  sent_exactly log t o h z a =
      let e = order_left fresh t log o h ∙ ap (λ x. left_by to x (all_of log)) z in
      (λ s. left_sent to (all_of log) a (sym e ∙ s), λ s. e ∙ sent_left to (all_of log) a none s)
