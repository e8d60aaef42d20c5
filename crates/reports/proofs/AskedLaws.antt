-- What a query is answered with is in range, and only its end is an error. Assumes nothing.
use Prim.Native.Nat.{ℕ, suc, ◌+◌, ◌%◌, ◌≤◌, ◌<◌}
use mathlib.Core.Path.{◌≡◌, refl, sym, ap, ◌∙◌, subst}
use mathlib.Core.Logic.{◌⊎◌, inl, inr, ⊎_elim}
use mathlib.Core.Bool.{Bool, true, false, cond}
use mathlib.Core.List.{List, [], ◌∷◌, ◌++◌, append-nil}
use mathlib.Core.Option.{Option, none, some, some-injective, none-ne-some}
use native.Mathlib.Nat.{mod-lt}
use native.Mathlib.Omega.{arith}
use borrow.Author.Tests.{eqb-true, eqb-false}
use lib.Dec.{eqb}
use lib.ListN.{length}
use Rattle.lists.specs.Every.{All}
use Rattle.lists.proofs.Every.{all_append, all_map, all_made}
use Rattle.slots.specs.Slots.{Present}
use Rattle.writing.specs.Settings.{Text, Entry, Hash}
use Rattle.tables.specs.declared.limits.Limits.{Limits}
use Rattle.tables.specs.Allowed.{Allowed, QuickOk, StatusOk, HashOk, GroupOk, IndividualOk, LineOk}
use Rattle.writing.specs.Ranges.{InChannel}
use Rattle.tables.specs.Tables.{Tables}
use Rattle.reports.specs.declared.Asked.{Asked}
use Rattle.reports.specs.declared.Asked.TheVariants.{Groups, Individuals, Lines, Key as AKey, QuickTexts, Home, Channels, System, StatusTexts, Hash as AHash}
use Rattle.export_write.specs.EntrySettings.{entries}
use Rattle.reports.specs.Asked.{numbered, quick_item, status_item, kept_hash, items_of, then_more, asked}
use Rattle.reports.specs.Items.{Item, group, individual, line, key, quick, home, channel, system, status, hash, InHash, InItem}
use Rattle.reports.specs.Reports.{Known, ErrorLast}
use Rattle.reports.specs.Types.{ask_byte, all_asked, first_asked, asked_by, NoType}

-- ---- which type a byte asks for

-- ASKED BACK: a type's byte asks for it
pub asked_back : (a : Asked) → asked_by (ask_byte a) ≡ some a
asked_back Groups = refl
asked_back Individuals = refl
asked_back Lines = refl
asked_back AKey = refl
asked_back QuickTexts = refl
asked_back Home = refl
asked_back Channels = refl
asked_back System = refl
asked_back StatusTexts = refl
asked_back AHash = refl

first_is : (b : ℕ) (l : List Asked) (a : Asked) → first_asked b l ≡ some a → ask_byte a ≡ b
first_is b [] a e = absurd (none-ne-some a e)
first_is b (x ∷ l) a e = go (λ d. first_is b l a d) (eqb (ask_byte x) b) refl e
  where
    go : (first_asked b l ≡ some a → ask_byte a ≡ b) → (t : Bool) → eqb (ask_byte x) b ≡ t → cond t (some x) (first_asked b l) ≡ some a → ask_byte a ≡ b
    go more true h d = ap ask_byte (sym (some-injective x a d)) ∙ eqb-true (ask_byte x) b h
    go more false h d = more d

-- what a byte asks for has that byte
pub asked_is : (b : ℕ) (a : Asked) → asked_by b ≡ some a → ask_byte a ≡ b
asked_is b a e = first_is b all_asked a e

-- a byte that asks for nothing is no type's
pub no_type : (b : ℕ) → asked_by b ≡ none → NoType b
no_type b e a d = none-ne-some a (sym e ∙ ap asked_by (sym d) ∙ asked_back a)

-- ---- in range

pub numbered_in : {A : Type 0} (P : A → Type 0) (room : ℕ) (f : ℕ → A → Item) → 0 < room → ((p : ℕ) (a : A) → p < room → P a → InItem (f p a))
    → (from : ℕ) (l : List A) → All P l → All InItem (numbered room f from l)
numbered_in P room f o h from [] p = tt
numbered_in P room f o h from (a ∷ l) p = (h (from % room) a (mod-lt from o) p.0, numbered_in P room f o h (suc from) l p.1)

-- an entry of a table whose first place has this index
pub record Placed (P : Text → Type 0) (first end : ℕ) (e : Entry) : Type 0 where
  pub low : first ≤ e.index
  pub high : e.index < end
  pub text : P e.text

pub entries_in : (P : Text → Type 0) (i end : ℕ) (os : List (Option Text)) → i + length os ≤ end → All (Present P) os → All (Placed P i end) (entries i os)
entries_in P i end [] h p = tt
entries_in P i end (none ∷ os) h p = lower (entries (suc i) os) (entries_in P (suc i) end os (omega arith) p.1)
  where
    lower : (es : List Entry) → All (Placed P (suc i) end) es → All (Placed P i end) es
    lower [] q = tt
    lower (e ∷ es) q = (record { low = omega (arith, q.0.low); high = q.0.high; text = q.0.text }, lower es q.1)
entries_in P i end (some us ∷ os) h p =
    (record { low = omega arith; high = omega arith; text = p.0 }, lower (entries (suc i) os) (entries_in P (suc i) end os (omega arith) p.1))
  where
    lower : (es : List Entry) → All (Placed P (suc i) end) es → All (Placed P i end) es
    lower [] q = tt
    lower (e ∷ es) q = (record { low = omega (arith, q.0.low); high = q.0.high; text = q.0.text }, lower es q.1)

kept_in : (h : Hash) → HashOk h → InHash (kept_hash h)
kept_in h p = go (eqb h.code 0) refl
  where
    go : (b : Bool) → eqb h.code 0 ≡ b → InHash (cond b none (some h))
    go true e = tt
    go false e = (p, eqb-false h.code 0 e)

-- ITEMS IN RANGE: what answers a type is in range
pub items_in : (m : Limits) (t : Tables) → Allowed m t → (a : Asked) → All InItem (items_of t a)
items_in m t h Groups = numbered_in GroupOk 16 group (omega arith) (λ p a l q. (l, q)) 0 t.group_contacts h.group_contacts.1
items_in m t h Individuals = numbered_in IndividualOk 16 individual (omega arith) (λ p a l q. (l, q)) 0 t.individual_contacts h.individual_contacts.1
items_in m t h Lines = numbered_in LineOk 16 line (omega arith) (λ p a l q. (l, q)) 0 t.lines h.lines.1
items_in m t h AKey = (h.key, tt)
items_in m t h QuickTexts =
    all_map (Placed QuickOk 0 64) InItem quick_item (λ e q. (q.high, q.text)) (entries 0 t.quick)
    (entries_in QuickOk 0 64 t.quick (omega (arith, h.quick.0)) h.quick.1)
items_in m t h Home = (h.home, tt)
items_in m t h Channels = numbered_in InChannel 4096 (λ p n. channel n p) (omega arith) (λ p n l q. (q, l)) 0 t.channels h.channels.1
items_in m t h System = (h.system, tt)
items_in m t h StatusTexts =
    numbered_in (Placed StatusOk 32 128) 256 status_item (omega arith) (λ p e l q. (q.low, omega (arith, q.high), l, q.text)) 0 (entries 32 t.status)
    (entries_in StatusOk 32 128 t.status (omega (arith, h.status.0)) h.status.1)
items_in m t h AHash = (kept_in t.hash h.hash, tt)

-- ASKED IN RANGE: and so is the whole report
pub asked_in : (m : Limits) (t : Tables) → Allowed m t → (types : List ℕ) → All (◌< 256) types → All InItem (asked t types)
asked_in m t h [] p = tt
asked_in m t h (b ∷ l) p = go (asked_by b) refl (asked_in m t h l p.1)
  where
    go : (o : Option Asked) → asked_by b ≡ o → All InItem (asked t l) → All InItem (then_more t b o (asked t l))
    go none e q = ((p.0, no_type b e), tt)
    go (some a) e q = all_append InItem (items_of t a) (asked t l) (items_in m t h a) q

-- ---- only the end is an error

pub numbered_known : {A : Type 0} (room : ℕ) (f : ℕ → A → Item) → ((p : ℕ) (a : A) → Known (f p a)) → (from : ℕ) (l : List A) → All Known (numbered room f from l)
numbered_known room f h from [] = tt
numbered_known room f h from (a ∷ l) = (h (from % room) a, numbered_known room f h (suc from) l)

pub items_known : (t : Tables) (a : Asked) → All Known (items_of t a)
items_known t Groups = numbered_known 16 group (λ p a. tt) 0 t.group_contacts
items_known t Individuals = numbered_known 16 individual (λ p a. tt) 0 t.individual_contacts
items_known t Lines = numbered_known 16 line (λ p a. tt) 0 t.lines
items_known t AKey = (tt, tt)
items_known t QuickTexts = all_made Known quick_item (λ e. tt) (entries 0 t.quick)
items_known t Home = (tt, tt)
items_known t Channels = numbered_known 4096 (λ p n. channel n p) (λ p a. tt) 0 t.channels
items_known t System = (tt, tt)
items_known t StatusTexts = numbered_known 256 status_item (λ p a. tt) 0 (entries 32 t.status)
items_known t AHash = (tt, tt)

module _ (P : Type 0) where
  -- entries before what ends so
  known_then : (g l : List Item) → All Known g → ErrorLast P l → ErrorLast P (g ++ l)
  known_then [] l k h = h
  known_then (i ∷ []) [] k h = inl k.0
  known_then (i ∷ []) (j ∷ l) k h = (k.0, h)
  known_then (i ∷ j ∷ g) l k h = (k.0, known_then (j ∷ g) l k.1 h)

  pub known_last : (g : List Item) → All Known g → ErrorLast P g
  known_last g k = subst (ErrorLast P) (append-nil g) (known_then g [] k tt)

  last_tail : (i : Item) (l : List Item) → ErrorLast P (i ∷ l) → ErrorLast P l
  last_tail i [] h = tt
  last_tail i (j ∷ l) h = h.1

  pub last_right : (g l : List Item) → ErrorLast P (g ++ l) → ErrorLast P l
  last_right [] l h = h
  last_right (i ∷ g) l h = last_right g l (last_tail i (g ++ l) h)

  pub last_left : (g l : List Item) → 1 ≤ length l → ErrorLast P (g ++ l) → All Known g
  last_left [] l o h = tt
  last_left (i ∷ []) [] o h = absurd (omega arith)
  last_left (i ∷ []) (j ∷ l) o h = (h.0, tt)
  last_left (i ∷ j ∷ g) l o h = (h.0, last_left (j ∷ g) l o h.1)

pub last_map : (P Q : Type 0) → (P → Q) → (g : List Item) → ErrorLast P g → ErrorLast Q g
last_map P Q f [] h = tt
last_map P Q f (i ∷ []) h = ⊎_elim (λ k. inl k) (λ p. inr (f p)) h
last_map P Q f (i ∷ j ∷ g) h = (h.0, last_map P Q f (j ∷ g) h.1)

-- ASKED ENDS: only the last parameter of a report is an error
pub asked_ends : (t : Tables) (types : List ℕ) → ErrorLast (Unit {0}) (asked t types)
asked_ends t [] = tt
asked_ends t (b ∷ l) = go (asked_by b) (asked_ends t l)
  where
    go : (o : Option Asked) → ErrorLast (Unit {0}) (asked t l) → ErrorLast (Unit {0}) (then_more t b o (asked t l))
    go none q = inr tt
    go (some a) q = known_then (Unit {0}) (items_of t a) (asked t l) (items_known t a) q
