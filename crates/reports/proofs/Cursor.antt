-- The parameters from a cursor on: a type that is asked for, a place of its table, and how many entries stand before it. Assumes nothing.
use Prim.Native.Nat.{ℕ, zero, suc, ◌+◌, ◌%◌, ◌≤◌, ◌<◌}
use mathlib.Core.Path.{◌≡◌, refl, sym, ap, ap₂, ◌∙◌}
use mathlib.Core.List.{List, [], ◌∷◌, ◌++◌, map}
use mathlib.Core.Option.{Option, none, some}
use native.Mathlib.Omega.{arith}
use lib.ListN.{length, get_or, drop, drop_of_length-le}
use lib.Seq.{drop-cons}
use Rattle.slots.specs.Slots.{pad, front}
use Rattle.writing.specs.Settings.{Text}
use Rattle.tables.specs.declared.limits.Limits.{Limits}
use Rattle.tables.specs.Allowed.{Allowed}
use Rattle.tables.specs.Limits.{contact_places}
use Rattle.tables.specs.Tables.{Tables}
use Rattle.reports.specs.declared.Asked.{Asked}
use Rattle.reports.specs.declared.Asked.TheVariants.{Groups, Individuals, Lines, Key as AKey, QuickTexts, Home, Channels, System, StatusTexts, Hash as AHash}
use Rattle.export_write.specs.EntrySettings.{entries}
use Rattle.reports.specs.Asked.{numbered, quick_item, status_item, kept_hash, items_of, then_more, asked}
use Rattle.reports.specs.Items.{Item, group, individual, line, key, quick, home, channel, system, status, hash, unknown}
use Rattle.reports.specs.Types.{asked_by}
use Rattle.reports.specs.TableSlots.{EntryOf, slots_of, item_at}

-- ---- every table as slots

-- the parameters of the slots from a place on
abbrev pub collected : {A : Type 0} → (ℕ → ℕ → A → Item) → ℕ → ℕ → List (Option A) → List Item
collected f p r [] = []
collected f p r (none ∷ os) = collected f (suc p) r os
collected f p r (some a ∷ os) = f p r a ∷ collected f (suc p) (suc r) os

-- ---- they are the parameters of the type

numbered_are : {A : Type 0} (room : ℕ) (f : ℕ → A → Item) (p r : ℕ) (l : List A) → numbered room f r l ≡ collected (λ q s a. f (s % room) a) p r (map some l)
numbered_are room f p r [] = refl
numbered_are room f p r (a ∷ l) = ap (λ x. f (r % room) a ∷ x) (numbered_are room f (suc p) (suc r) l)

padding : {A : Type 0} (f : ℕ → ℕ → A → Item) (p r n : ℕ) → collected f p r (pad none n []) ≡ []
padding f p r zero = refl
padding f p r (suc n) = padding f (suc p) r n

front_are : {A : Type 0} (f : ℕ → ℕ → A → Item) (p r n : ℕ) (l : List A) → length l ≤ n → collected f p r (map some l) ≡ collected f p r (front n l)
front_are f p r n [] h = sym (padding f p r n)
front_are f p r zero (a ∷ l) h = absurd (omega arith)
front_are f p r (suc n) (a ∷ l) h = ap (λ x. f p r a ∷ x) (front_are f (suc p) (suc r) n l (omega arith))

quick_are : (p r : ℕ) (os : List (Option Text)) → map quick_item (entries p os) ≡ collected (item_at QuickTexts) p r os
quick_are p r [] = refl
quick_are p r (none ∷ os) = quick_are (suc p) r os
quick_are p r (some us ∷ os) = ap (λ x. quick p us ∷ x) (quick_are (suc p) (suc r) os)

status_are : (i p r : ℕ) (os : List (Option Text)) → i ≡ p + 32 → numbered 256 status_item r (entries i os) ≡ collected (item_at StatusTexts) p r os
status_are i p r [] e = refl
status_are i p r (none ∷ os) e = status_are (suc i) (suc p) r os (omega arith)
status_are i p r (some us ∷ os) e = ap₂ (λ c x. status c (r % 256) us ∷ x) e (status_are (suc i) (suc p) (suc r) os (omega arith))

-- COLLECTED: what answers a type is collected from its slots, from the first on
pub items_are : (m : Limits) (t : Tables) → Allowed m t → (a : Asked) → items_of t a ≡ collected (item_at a) 0 0 (slots_of m t a)
items_are m t h Groups = numbered_are 16 group 0 0 t.group_contacts ∙ front_are (item_at Groups) 0 0 contact_places t.group_contacts h.group_contacts.0
items_are m t h Individuals = numbered_are 16 individual 0 0 t.individual_contacts ∙ front_are (item_at Individuals) 0 0 contact_places t.individual_contacts h.individual_contacts.0
items_are m t h Lines = numbered_are 16 line 0 0 t.lines ∙ front_are (item_at Lines) 0 0 m.lines t.lines h.lines.0
items_are m t h AKey = refl
items_are m t h QuickTexts = quick_are 0 0 t.quick
items_are m t h Home = refl
items_are m t h Channels = numbered_are 4096 (λ p n. channel n p) 0 0 t.channels ∙ front_are (item_at Channels) 0 0 m.channels t.channels h.channels.0
items_are m t h System = refl
items_are m t h StatusTexts = status_are 32 0 0 t.status (omega arith)
items_are m t h AHash = refl

-- ---- the turns of a walk

module _ (m : Limits) (t : Tables) where
  -- the parameters from this place of this type's table on, and then more
  abbrev pub from_here : (a : Asked) (place rank : ℕ) → List Item → List Item
  from_here a p r more = collected (item_at a) p r (drop p (slots_of m t a)) ++ more

  -- a type that is known is its table from the first place on, and what is asked for behind it
  pub type_known : Allowed m t → (b : ℕ) (l : List ℕ) (a : Asked) → asked_by b ≡ some a → asked t (b ∷ l) ≡ from_here a 0 0 (asked t l)
  type_known h b l a e = ap (λ o. then_more t b o (asked t l)) e ∙ ap (λ x. x ++ asked t l) (items_are m t h a)

  -- one that is not ends the report
  pub type_unknown : (b : ℕ) (l : List ℕ) → asked_by b ≡ none → asked t (b ∷ l) ≡ unknown b ∷ []
  type_unknown b l e = ap (λ o. then_more t b o (asked t l)) e

  module _ (a : Asked) (p r : ℕ) (more : List Item) where
    -- past the last place
    pub here_end : length (slots_of m t a) ≤ p → from_here a p r more ≡ more
    here_end h = ap (λ l. collected (item_at a) p r l ++ more) (drop_of_length-le (slots_of m t a) h)

    -- an empty place
    pub here_empty : p < length (slots_of m t a) → get_or (slots_of m t a) p none ≡ none → from_here a p r more ≡ from_here a (suc p) r more
    here_empty h e =
        ap (λ l. collected (item_at a) p r l ++ more) (drop-cons (slots_of m t a) p none h ∙ ap (λ o. o ∷ drop (suc p) (slots_of m t a)) e)

    -- a used one
    pub here_item : p < length (slots_of m t a) → (x : EntryOf a) → get_or (slots_of m t a) p none ≡ some x
        → from_here a p r more ≡ item_at a p r x ∷ from_here a (suc p) (suc r) more
    here_item h x e =
        ap (λ l. collected (item_at a) p r l ++ more) (drop-cons (slots_of m t a) p none h ∙ ap (λ o. o ∷ drop (suc p) (slots_of m t a)) e)
