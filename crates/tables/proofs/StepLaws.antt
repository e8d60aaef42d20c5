-- What each operation leaves of a table is allowed, entry by entry. Assumes nothing.
use Rattle.lists.proofs.Kit.{ℕ, ◌-◌, ◌<◌, ◌≡◌, refl, ◌∙◌, ◌↔◌, Bool, true, false, cond, List, [], ◌∷◌, ◌++◌, Option, none, some, arith, ltb-true, ltb, length, get_or, set, length-append, length-set, replicate}
use Rattle.lists.specs.Every.{All}
use Rattle.lists.proofs.Every.{all_append, all_get, all_set}
use Rattle.slots.specs.Slots.{unless, index_of, put_at, Present}
use Rattle.slots.proofs.Tables.{put_all, put_short, unless_all, unless_short}
use Rattle.counted_lists.specs.Counted.{put_keyed}
use Rattle.counted_lists.proofs.KeyedLists.{put_distinct, unless_distinct}
use Rattle.writing.specs.declared.LineFlags.{LineFlags}
use Rattle.writing.specs.declared.Operation.{Operation}
use Rattle.writing.specs.declared.Operation.TheVariants.{Add, Delete, Replace}
use Rattle.writing.specs.Ranges.{InChannel}
use Rattle.writing.specs.Settings.{Text, Contact, Addressed, Entry}
use Rattle.tables.specs.Allowed.{QuickOk, StatusOk, LineOk, PlacesOk, ListOk, KeyedOk, LinesOk}
use Rattle.tables.specs.Apply.{and_then, in_turn, start_from, keyed_step, has_key, line_of, line_step, lines_after, contact_of, contacts_after, if_absent, quick_step, quick_after, status_step, status_after, put_channel, channel_step, channels_after}
use Rattle.tables.specs.Limits.{quick_places, status_places}
use Rattle.tables.specs.declared.members.Members.{Members}
use Rattle.tables.specs.MemberKinds.{FlagsIn, AddressIn, MemberIn, contact_key}
use Rattle.tables.specs.Members.{member_ok}
use Rattle.tables.specs.Tables.{Line, line_key}
use Rattle.tables.proofs.ContactSentences.{has_number, key_is_number}
use Rattle.tables.proofs.FitsLaws.{QuickFit}
use Rattle.tables.proofs.FreshLaws.{empty_table}
use Rattle.tables.proofs.Sentences.{key_is_both}

-- ---- one place

-- what is put in a place, or nothing
pub place_keeps : {A : Type 0} (P : A → Type 0) (n k : ℕ) (o : Option A) (os : List (Option A)) → Present P o → PlacesOk P n os → PlacesOk P n (set os k o)
place_keeps P n k o os p i = (length-set os k o ∙ i.0, all_set (Present P) os k o p i.1)

-- ---- a list

-- entries are taken out
unless_keeps : {A : Type 0} (P : A → Type 0) (room : ℕ) (p : A → Bool) (ls : List A) → ListOk P room ls → ListOk P room (unless p ls)
unless_keeps P room p ls i = (omega (arith, unless_short p ls, i.0), unless_all P p ls i.1)

-- ---- entries in turn

module _ {A T : Type 0} (I : T → Type 0) (Q : A → Type 0) (step : A → T → Option T) (keeps : (a : A) (t : T) → Q a → I t → Present I (step a t)) where
  -- what each entry keeps, all entries in turn keep
  pub turn_keeps : (xs : List A) (t : T) → All Q xs → I t → Present I (in_turn step xs t)
  turn_keeps [] t q i = i
  turn_keeps (a ∷ xs) t q i = go (λ u p. turn_keeps xs u q.1 p) (step a t) (keeps a t q.0 i)
    where
      go : ((u : T) → I u → Present I (in_turn step xs u)) → (o : Option T) → Present I o → Present I (and_then o (in_turn step xs))
      go r none p = tt
      go r (some u) p = r u p

-- a replace starts from the empty table
pub start_keeps : {T : Type 0} (I : T → Type 0) (o : Operation) (empty t : T) → I empty → I t → I (start_from o empty t)
start_keeps I Add empty t e i = i
start_keeps I Delete empty t e i = i
start_keeps I Replace empty t e i = e

-- ---- lists by a key

module _ {A K : Type 0} (P : A → Type 0) (key : A → K) (has : K → A → Bool) (decides : (k : K) (a : A) → (has k a ≡ true) ↔ (key a ≡ k)) (room : ℕ) where
  -- an entry is added where there is room
  put_keeps : (a : A) (ls : List A) → P a → KeyedOk P key room ls → Present (KeyedOk P key room) (put_keyed (has (key a)) room a ls)
  put_keeps a ls h i = go (ltb at room) refl
    where
      at : ℕ
      at = index_of (has (key a)) ls

      go : (b : Bool) → ltb at room ≡ b → Present (KeyedOk P key room) (cond b (some (put_at at a ls)) none)
      go true e = ((put_short at room a ls (ltb-true _ _ e) i.0.0, put_all P at a ls h i.0.1), put_distinct key has decides a ls i.1)
      go false e = tt

  -- one entry of a setting
  pub keyed_step_keeps : (o : Operation) (a : A) (ls : List A) → P a → KeyedOk P key room ls → Present (KeyedOk P key room) (keyed_step (λ b. has (key b)) room o a ls)
  keyed_step_keeps Add a ls h i = put_keeps a ls h i
  keyed_step_keeps Delete a ls h i = (unless_keeps P room _ ls i.0, unless_distinct key _ ls i.1)
  keyed_step_keeps Replace a ls h i = put_keeps a ls h i

  -- a whole setting
  pub keyed_after_keeps : {E : Type 0} (made : E → A) (o : Operation) (es : List E) (ls : List A) → All (λ e. P (made e)) es → KeyedOk P key room ls
      → Present (KeyedOk P key room) (in_turn (λ e. keyed_step (λ b. has (key b)) room o (made e)) es (start_from o [] ls))
  keyed_after_keeps made o es ls h i =
      turn_keeps (KeyedOk P key room) (λ e. P (made e)) (λ e. keyed_step (λ b. has (key b)) room o (made e)) (λ e. keyed_step_keeps o (made e)) es (start_from o [] ls) h
      (start_keeps (KeyedOk P key room) o [] ls ((omega arith, tt), tt) i)

-- line contacts
pub line_step_keeps : (room : ℕ) (o : Operation) (f : LineFlags) (e : Contact) (ls : List Line) → LineOk (line_of f e) → LinesOk room ls → Present (LinesOk room) (line_step room o f e ls)
line_step_keeps room o f e = keyed_step_keeps LineOk line_key has_key key_is_both room o (line_of f e)

pub lines_after_keeps : (room : ℕ) (o : Operation) (f : LineFlags) (es : List Contact) (ls : List Line) → All (λ e. LineOk (line_of f e)) es → LinesOk room ls → Present (LinesOk room) (lines_after room o f es ls)
lines_after_keeps room o f = keyed_after_keeps LineOk line_key has_key key_is_both room (line_of f) o

-- group and individual contacts
pub contacts_after_keeps : (w : Members) (room : ℕ) (o : Operation) (f : FlagsIn w) (es : List (Addressed (AddressIn w))) (xs : List (MemberIn w)) → All (λ e. member_ok w (contact_of f e)) es
    → KeyedOk (member_ok w) (contact_key w) room xs → Present (KeyedOk (member_ok w) (contact_key w) room) (contacts_after w room o f es xs)
contacts_after_keeps w room o f = keyed_after_keeps (member_ok w) (contact_key w) (has_number w) (key_is_number w) room (contact_of f) o

-- ---- quick texts

-- an add puts a quick text where there is none
if_absent_keeps : (o : Option Text) (us : Text) → Present QuickOk o → QuickOk us → Present QuickOk (if_absent o us)
if_absent_keeps none us p q = q
if_absent_keeps (some vs) us p q = p

-- an add
quick_put_keeps : (e : Entry) (qs : List (Option Text)) → (e.index < quick_places) × QuickOk e.text → PlacesOk QuickOk quick_places qs → PlacesOk QuickOk quick_places (set qs e.index (if_absent (get_or qs e.index none) e.text))
quick_put_keeps e qs h i =
    place_keeps QuickOk quick_places e.index (if_absent (get_or qs e.index none) e.text) qs
    (if_absent_keeps (get_or qs e.index none) e.text (all_get (Present QuickOk) qs e.index none i.1 (omega (arith, i.0, h.0))) h.1) i

-- one entry of a setting
pub quick_step_keeps : (o : Operation) (e : Entry) (qs : List (Option Text)) → QuickFit o e → PlacesOk QuickOk quick_places qs → Present (PlacesOk QuickOk quick_places) (quick_step o e qs)
quick_step_keeps Add e qs h i = quick_put_keeps e qs h i
quick_step_keeps Delete e qs h i = place_keeps QuickOk quick_places e.index none qs tt i
quick_step_keeps Replace e qs h i = quick_put_keeps e qs h i

-- a whole setting
pub quick_after_keeps : (o : Operation) (es : List Entry) (qs : List (Option Text)) → All (QuickFit o) es → PlacesOk QuickOk quick_places qs → Present (PlacesOk QuickOk quick_places) (quick_after o es qs)
quick_after_keeps o es qs h i =
    turn_keeps (PlacesOk QuickOk quick_places) (QuickFit o) (quick_step o) (quick_step_keeps o) es (start_from o (replicate quick_places none) qs) h
    (start_keeps (PlacesOk QuickOk quick_places) o (replicate quick_places none) qs (empty_table QuickOk quick_places) i)

-- ---- status texts

-- one entry of a setting
pub status_step_keeps : (o : Operation) (e : Entry) (ss : List (Option Text)) → StatusOk e.text → PlacesOk StatusOk status_places ss → Present (PlacesOk StatusOk status_places) (status_step o e ss)
status_step_keeps Add e ss h i = place_keeps StatusOk status_places (e.index - 32) (some e.text) ss h i
status_step_keeps Delete e ss h i = place_keeps StatusOk status_places (e.index - 32) none ss tt i
status_step_keeps Replace e ss h i = place_keeps StatusOk status_places (e.index - 32) (some e.text) ss h i

-- a whole setting
pub status_after_keeps : (o : Operation) (es : List Entry) (ss : List (Option Text)) → All (λ e. StatusOk e.text) es → PlacesOk StatusOk status_places ss → Present (PlacesOk StatusOk status_places) (status_after o es ss)
status_after_keeps o es ss h i =
    turn_keeps (PlacesOk StatusOk status_places) (λ e. StatusOk e.text) (status_step o) (status_step_keeps o) es (start_from o (replicate status_places none) ss) h
    (start_keeps (PlacesOk StatusOk status_places) o (replicate status_places none) ss (empty_table StatusOk status_places) i)

-- ---- channels

-- a channel is added where there is room
pub put_channel_keeps : (room n : ℕ) (cs : List ℕ) → InChannel n → ListOk InChannel room cs → Present (ListOk InChannel room) (put_channel room n cs)
put_channel_keeps room n cs h i = go (ltb (length cs) room) refl
  where
    go : (b : Bool) → ltb (length cs) room ≡ b → Present (ListOk InChannel room) (cond b (some (cs ++ (n ∷ []))) none)
    go true e = (omega (arith, ltb-true (length cs) room e, length-append cs (n ∷ [])), all_append InChannel cs (n ∷ []) i.1 (h, tt))
    go false e = tt

-- one entry of a setting
pub channel_step_keeps : (room : ℕ) (o : Operation) (n : ℕ) (cs : List ℕ) → InChannel n → ListOk InChannel room cs → Present (ListOk InChannel room) (channel_step room o n cs)
channel_step_keeps room Add n cs h i = put_channel_keeps room n cs h i
channel_step_keeps room Delete n cs h i = unless_keeps InChannel room _ cs i
channel_step_keeps room Replace n cs h i = put_channel_keeps room n cs h i

-- a whole setting
pub channels_after_keeps : (room : ℕ) (o : Operation) (ns cs : List ℕ) → All InChannel ns → ListOk InChannel room cs → Present (ListOk InChannel room) (channels_after room o ns cs)
channels_after_keeps room o ns cs h i =
    turn_keeps (ListOk InChannel room) InChannel (channel_step room o) (channel_step_keeps room o) ns (start_from o [] cs) h
    (start_keeps (ListOk InChannel room) o [] cs (omega arith, tt) i)
