-- Lines of the two IDtypes: a setting of one leaves those of the other, and both may have one number. Assumes nothing.
use Rattle.lists.proofs.Kit.{ℕ, ◌≤◌, ◌≡◌, refl, sym, ap, ◌∙◌, subst, ◌≢◌, Bool, true, List, [], ◌∷◌, map, none, some, arith, eq-eqb, eqb, get_or}
use Rattle.lists.proofs.Every.{all_any}
use Rattle.slots.specs.Slots.{unless, Present}
use Rattle.counted_lists.proofs.KeyedLists.{put_leaves, put_stays, drop_leaves}
use Rattle.writing.specs.declared.Kind.TheVariants.{Lines}
use Rattle.writing.specs.declared.LineFlags.{LineFlags}
use Rattle.writing.specs.declared.Operation.{Operation}
use Rattle.writing.specs.declared.Operation.TheVariants.{Add, Delete, Replace}
use Rattle.writing.specs.Settings.{Contact}
use Rattle.writing.specs.Writing.{bit}
use Rattle.tables.specs.declared.limits.Limits.{Limits}
use Rattle.tables.specs.Allowed.{Allowed, LineOk}
use Rattle.tables.specs.Apply.{start_from, has_key, line_of, entry_key, line_step, lines_after}
use Rattle.tables.specs.Owns.{put_own}
use Rattle.tables.specs.Tables.{Line, LineKey, line_key, Tables}
use Rattle.tables.specs.Texts.{text_sum, TextRoom}
use Rattle.tables.proofs.AllowedLaws.{put_allowed}
use Rattle.tables.proofs.Sentences.{key_is_both}
use Rattle.tables.proofs.StepLaws.{turn_keeps}

-- whether a line has the IDtype
abbrev pub has_type : Bool → Line → Bool
has_type b l = eqb (bit l.flags.pabx) (bit b)

-- the lines of the other IDtype, in order
abbrev pub other_type : Bool → List Line → List Line
other_type b ls = unless (has_type b) ls

-- a line with an entry's key has the IDtype of its setting
entry_type : (f : LineFlags) (e : Contact) (l : Line) → line_key l ≡ entry_key f e → has_type f.pabx l ≡ true
entry_type f e l q = eq-eqb (bit l.flags.pabx) (bit f.pabx) (ap (λ (k : LineKey). bit k.pabx) q)

module _ (room : ℕ) (f : LineFlags) (ls : List Line) where
  -- the lines of the other IDtype are those of ls
  abbrev Left : List Line → Type 0
  Left us = other_type f.pabx us ≡ other_type f.pabx ls

  -- one entry leaves them
  step_leaves : (o : Operation) (e : Contact) (us : List Line) → Left us → Present Left (line_step room o f e us)
  step_leaves Add e us h = put_leaves line_key has_key key_is_both (has_type f.pabx) (line_of f e) (entry_type f e) room us (other_type f.pabx ls) h
  step_leaves Delete e us h = drop_leaves line_key has_key key_is_both (has_type f.pabx) (entry_key f e) (entry_type f e) us ∙ h
  step_leaves Replace e us h = put_leaves line_key has_key key_is_both (has_type f.pabx) (line_of f e) (entry_type f e) room us (other_type f.pabx ls) h

  -- only a replace empties the table
  start_leaves : (o : Operation) → o ≢ Replace → Left (start_from o [] ls)
  start_leaves Add n = refl
  start_leaves Delete n = refl
  start_leaves Replace n = absurd (n refl)

  -- OTHER-TYPE-STAYS: an add or a delete under one IDtype leaves the lines of the other, in order
  pub other_type_stays : (o : Operation) → o ≢ Replace → (es : List Contact) (ms : List Line) → lines_after room o f es ls ≡ some ms → other_type f.pabx ms ≡ other_type f.pabx ls
  other_type_stays o n es ms q =
      subst (Present Left) q (turn_keeps Left (λ e. Unit {0}) (line_step room o f) (λ e us _ h. step_leaves o e us h) es (start_from o [] ls) (all_any (λ e. Unit {0}) (λ e. tt) es) (start_leaves o n))

  -- and an add leaves each in its place
  pub other_type_in_place : (es : List Contact) (ms : List Line) → lines_after room Add f es ls ≡ some ms → (i : ℕ) (l : Line) → l.flags.pabx ≢ f.pabx
      → get_or (map some ls) i none ≡ some l → get_or (map some ms) i none ≡ some l
  other_type_in_place es ms q i l n h =
      subst (Present (λ us. get_or (map some us) i none ≡ some l)) q
      (turn_keeps (λ us. get_or (map some us) i none ≡ some l) (λ e. Unit {0}) (line_step room Add f)
      (λ e us _ g. put_stays line_key has_key key_is_both (line_of f e) l (λ k. n (ap (λ (j : LineKey). j.pabx) k)) room us i g) es ls (all_any (λ e. Unit {0}) (λ e. tt) es) h)

-- BOTH-TYPES: a PSTN and a PABX line are allowed beside each other, also with the same digits
pub both_types : (lim : Limits) (t : Tables) → Allowed lim t → 2 ≤ lim.lines → (l m : Line) → LineOk l → LineOk m → l.flags.pabx ≢ m.flags.pabx → TextRoom lim.texts (text_sum (put_own Lines t (l ∷ m ∷ []))) → Allowed lim (put_own Lines t (l ∷ m ∷ []))
both_types lim t ok room l m p q n texts = put_allowed lim t ok Lines (l ∷ m ∷ []) ((omega arith, (p, (q, tt))), (((λ e. n (sym (ap (λ (k : LineKey). k.pabx) e))), tt), (tt, tt))) texts
