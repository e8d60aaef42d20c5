-- A request sent twice: docs/RULES.md, D6, for every set, store and message as received. Assumes nothing.
use Rattle.lists.proofs.Kit.{ℕ, ◌≡◌, refl, sym, ap, ◌∙◌, subst, ◌⊎◌, inl, inr, Bool, true, false, ◌||◌, true≢false, List, [], ◌∷◌, some, option_some_injective, length, eqb, eqb-true, eqb-false}
use Rattle.lists.specs.Every.{All}
use Rattle.writing.specs.declared.Coding.{Coding}
use Rattle.writing.specs.declared.Kind.{Kind}
use Rattle.writing.specs.declared.Kind.TheVariants.{Last}
use Rattle.writing.specs.declared.Operation.{Operation}
use Rattle.writing.specs.declared.Operation.TheVariants.{Replace}
use Rattle.writing.specs.Carrier.{Request, RequestOf}
use Rattle.writing.specs.Settings.{Setting, kind, group_contacts, individual_contacts, lines, key, quick_texts, home, channels, system, status_texts, group, individual, line_slot, last}
use Rattle.writing.specs.Writing.{WrittenAll}
use Rattle.tables.specs.declared.limits.Limits.{Limits}
use Rattle.tables.specs.declared.members.Members.TheVariants.{OfGroups, OfIndividuals}
use Rattle.tables.specs.Apply.{apply, in_turn, own_after, contacts_after, lines_after, quick_after, status_after, channels_after}
use Rattle.tables.specs.Limits.{contact_places}
use Rattle.tables.specs.Forms.{layout}
use Rattle.tables.specs.Owns.{Own, own, only, touches, put_own}
use Rattle.tables.specs.Store.{Holds}
use Rattle.tables.specs.Tables.{Tables, no_hash}
use Rattle.shared_texts.proofs.Forms.{layout_one}
use Rattle.tables.proofs.Owns.{alike, own_put, own_other, first, untouched_stays, same_kind}
use Rattle.tables.proofs.RoomSentences.{came, apply_change}
use Rattle.requests.specs.Requests.{forget}
use Rattle.station.specs.Taking.{AfterTaking}
use Rattle.laws_taking.specs.Demands.{InTurn}
use Rattle.laws_taking.proofs.Theorems.{store_stays, counted_written}
use Rattle.joining.specs.Twice.{Replaces}
use Rattle.laws_joining.specs.Sending.{Sent}
use Rattle.laws_joining.proofs.OneRequest.{in_turn_of, taken_in_turn}

-- ---- tables

-- what a replace makes, it makes of nothing that was there
from_empty : {A B : Type 0} (f : Operation → A → B) (x y : A) (o : Operation) → o ≡ Replace → f Replace x ≡ f Replace y → f o x ≡ f o y
from_empty f x y o r e = ap (λ (p : Operation). f p x) r ∙ e ∙ sym (ap (λ (p : Operation). f p y) r)

module _ (lim : Limits) where
  -- a setting that replaces makes the same of any table of its kind; so does an FF
  whatever_was : (s : Setting) → Replaces s → (x y : Own (kind s)) → own_after lim s x ≡ own_after lim s y
  whatever_was (group_contacts o f es) r x y = from_empty (λ p. contacts_after OfGroups contact_places p f es) x y o r refl
  whatever_was (individual_contacts o f es) r x y = from_empty (λ p. contacts_after OfIndividuals contact_places p f es) x y o r refl
  whatever_was (lines o f es) r x y = from_empty (λ p. lines_after lim.lines p f es) x y o r refl
  whatever_was (key t f) r x y = absurd r
  whatever_was (quick_texts o es) r x y = from_empty (λ p. quick_after p es) x y o r refl
  whatever_was (home h) r x y = absurd r
  whatever_was (channels o ns) r x y = from_empty (λ p. channels_after lim.channels p ns) x y o r refl
  whatever_was (system s) r x y = absurd r
  whatever_was (status_texts o es) r x y = from_empty (λ p. status_after p es) x y o r refl
  whatever_was (group o f s) r x y = absurd r
  whatever_was (individual o f s) r x y = absurd r
  whatever_was (line_slot o f s) r x y = absurd r
  whatever_was (last f h) r x y = refl

  -- so what it leaves in its table is its own
  replaced : (s : Setting) (t t' u u' : Tables) → Replaces s → apply lim s t ≡ some u → apply lim s t' ≡ some u' → own (kind s) u ≡ own (kind s) u'
  replaced s t t' u u' r e e' =
      let (a, p, q) = came (put_own (kind s) t) (own_after lim s (own (kind s) t)) u (apply_change lim s t u e) in
      let (b, p', q') = came (put_own (kind s) t') (own_after lim s (own (kind s) t')) u' (apply_change lim s t' u' e') in
      let same : a ≡ b = option_some_injective a b (sym p ∙ whatever_was s r (own (kind s) t) (own (kind s) t') ∙ p') in
      sym (ap (own (kind s)) q) ∙ own_put (kind s) t a ∙ same ∙ sym (own_put (kind s) t' b) ∙ ap (own (kind s)) q'

  -- of settings that all replace, in turn: every table that they touch
  all_replaced : (l : List Setting) (t t' u u' : Tables) (k : Kind) → All Replaces l → in_turn (apply lim) l t ≡ some u → in_turn (apply lim) l t' ≡ some u'
      → touches l k ≡ true → own k u ≡ own k u'
  all_replaced [] t t' u u' k r e e' h = absurd (true≢false (sym h))
  all_replaced (s ∷ l) t t' u u' k r e e' h =
      let (v, a, b) = first lim s l t u e in
      let (v', a', b') = first lim s l t' u' e' in
      by v v' a a' b b' (all_replaced l v v' u u' k r.1 b b') (touches l k) refl (only (kind s) k) refl h
    where
      by : (v v' : Tables) → apply lim s t ≡ some v → apply lim s t' ≡ some v' → in_turn (apply lim) l v ≡ some u → in_turn (apply lim) l v' ≡ some u'
          → (touches l k ≡ true → own k u ≡ own k u') → (c : Bool) → touches l k ≡ c → (d : Bool) → only (kind s) k ≡ d → (only (kind s) k || touches l k) ≡ true
          → own k u ≡ own k u'
      by v v' a a' b b' more true x d y z = more x
      by v v' a a' b b' more false x true y z =
          untouched_stays lim l v u k b x
          ∙ subst (λ (j : Kind). own j v ≡ own j v') (same_kind (kind s) k y) (replaced s t t' v v' r.0 a a')
          ∙ sym (untouched_stays lim l v' u' k b' x)
      by v v' a a' b b' more false x false y z = absurd (true≢false (sym z ∙ ap (λ (c : Bool). c || touches l k) y ∙ x))

  -- taken again, each time without the hash that was kept, they leave the tables as they are
  twice : (l : List Setting) (t u v : Tables) → All Replaces l → in_turn (apply lim) l (forget t) ≡ some u → in_turn (apply lim) l (forget u) ≡ some v → v ≡ u
  twice l t u v r e f = alike v u (λ k. by k (touches l k) refl)
    where
      -- a table that they do not touch was not forgotten: a hash that they do not bring was none before
      stays : (k : Kind) (c : Bool) → only Last k ≡ c → touches l k ≡ false → own k (forget u) ≡ own k u
      stays k false o h = own_other Last k u no_hash o
      stays k true o h =
          subst (λ (j : Kind). touches l j ≡ false → own j (forget u) ≡ own j u) (same_kind Last k o) (λ n. sym (untouched_stays lim l (forget t) u Last e n)) h

      by : (k : Kind) (c : Bool) → touches l k ≡ c → own k v ≡ own k u
      by k true h = all_replaced l (forget u) (forget t) v u k r f e h
      by k false h = untouched_stays lim l (forget u) v k f h ∙ stays k (only Last k) refl h

-- ---- messages

module _ (lim : Limits) {c : Coding} (l : List Setting) {bs message : List ℕ} (r : RequestOf c (length l) bs message) (w : WrittenAll c l bs) where
  -- the message is a request of these settings
  abbrev request : Request c l message
  request = record { data_bytes = r.data_bytes; carried = r.carried; written = counted_written r.counted refl refl w }

  -- REPLACE TWICE: D6, "A request whose settings all replace .. leaves the same store when it is sent twice as when it is sent once"
  pub replace_twice : All Replaces l → {store : List ℕ} {x y : AfterTaking} → Sent lim message store x → Sent lim message x.store y → x.answer.number ≡ 0 → y.store ≡ x.store
  replace_twice replaces {store} {x} {y} once again n = by (eqb y.answer.number 0) refl
    where
      by : (b : Bool) → eqb y.answer.number 0 ≡ b → y.store ≡ x.store
      by false e = store_stays lim message x.store again.reply y again.comes_to (eqb-false y.answer.number 0 e)
      by true e =
          let (t, u, _, p, h) = taken_in_turn lim request once n in
          let (u', v, i, q, j) = taken_in_turn lim request again (eqb-true y.answer.number 0 e) in
          let z : u' ≡ u = layout_one lim u' u i.0 h.0 (sym i.1 ∙ h.1) in
          let same : v ≡ u = twice lim l t u v replaces (in_turn_of lim (length l) (forget t) u l p)
          (in_turn_of lim (length l) (forget u) v l (subst (λ (s : Tables). InTurn lim (length l) (forget s) l v) z q)) in
          j.1 ∙ ap (layout lim) same ∙ sym h.1
