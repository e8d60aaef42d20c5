-- Tables made of slots, whichever and in both forms: how wide an entry is, that it shows, and what a walk over the slots decides. Assumes nothing.
use Rattle.lists.proofs.Kit.{◌≡◌, refl, sym, ap, ◌∙◌, subst, Bool, true, false, ◌↔◌, List, ◌++◌, ℕ, zero, suc, ◌+◌, ◌*◌, ◌<◌, suc-mul, zero-mul, arith, length, length-append, take, drop, take_at, drop_at}
use Rattle.slots.specs.Slots.{zeros?, PlacesOf, Found}
use Rattle.shared_texts.proofs.HeadCodes.{quick_kept, line_kept, group_kept, individual_kept}
use Rattle.store_check.specs.declared.checks_tables.Table.{Table}
use Rattle.store_check.specs.declared.checks_tables.Table.TheVariants.{QuickTexts, StatusTexts, Members as Of, Channels, Lines}
use Rattle.store_check.specs.declared.forms.Form.{Form}
use Rattle.store_check.specs.declared.forms.Form.TheVariants.{Placed, Shared}
use Rattle.store_check.specs.Checks.{TextIn, QuickIs, NamedIn, NamedIs, LineIn, LineIs, text_in, named_in, line_in, text_width, quick, EntryIn, OkIn, bytes_in, width_in, EntryIs, SlotIs, PlacesIn, ListIn}
use Rattle.slots.proofs.Walks.{places_none, places_cons, places_uncons}
use Rattle.store_check.proofs.FrontLaws.{front_is}
use Rattle.tables.proofs.EntryCodes.{quick_shown, member_code, member_shown, channel_code, channel_shown, line_code, line_shown}
use Rattle.tables.proofs.TextCodes.{text_length}
use Rattle.tables.specs.declared.members.Members.{Members}
use Rattle.tables.specs.declared.members.Members.TheVariants.{OfGroups, OfIndividuals}

-- ---- what stands for a text

-- it has bytes
text_wide : (f : Form) (n : ℕ) → 0 < n → 0 < text_width f n
text_wide Placed n h = omega arith
text_wide Shared n h = omega arith

-- as many as it is wide
text_long : (f : Form) (n : ℕ) (u : TextIn f) → length (text_in f n u) ≡ text_width f n
text_long Placed n us = omega (arith, text_length n us)
text_long Shared n u = refl

-- ---- a slot has bytes

pub wide_in : (f : Form) (t : Table) → 0 < width_in f t
wide_in f QuickTexts = text_wide f quick (omega arith)
wide_in f StatusTexts = omega arith
wide_in f (Of w) = omega arith
wide_in f Channels = omega arith
wide_in f Lines = omega arith

-- ---- an entry fills its slot

named_long : (f : Form) (w : Members) (x : NamedIn f w) → length (named_in f w x) ≡ width_in f (Of w)
named_long Placed w x = (member_code w).long x
named_long Shared w h = refl

line_long : (f : Form) (l : LineIn f) → length (line_in f l) ≡ width_in f Lines
line_long Placed = line_code.long
line_long Shared = line_kept.headed.code.long

pub long_in : (f : Form) (t : Table) (a : EntryIn f t) → length (bytes_in f t a) ≡ width_in f t
long_in f QuickTexts u = text_long f quick u
long_in f StatusTexts u = omega (arith, text_long f 16 u)
long_in f (Of w) x = named_long f w x
long_in f Channels n = channel_code.long n
long_in f Lines l = line_long f l

-- ---- an entry is not all zeros

quick_some : (f : Form) (u : TextIn f) → QuickIs f u → zeros? (text_in f quick u) ≡ false
quick_some Placed = quick_shown
quick_some Shared = quick_kept.headed.shown

named_some : (f : Form) (w : Members) (x : NamedIn f w) → NamedIs f w x → zeros? (named_in f w x) ≡ false
named_some Placed w = member_shown w
named_some Shared OfGroups = group_kept.headed.shown
named_some Shared OfIndividuals = individual_kept.headed.shown

line_some : (f : Form) (l : LineIn f) → LineIs f l → zeros? (line_in f l) ≡ false
line_some Placed = line_shown
line_some Shared = line_kept.headed.shown

pub shown_in : (f : Form) (t : Table) (a : EntryIn f t) → OkIn f t a → zeros? (bytes_in f t a) ≡ false
shown_in f QuickTexts = quick_some f
shown_in f StatusTexts = λ u p. refl
shown_in f (Of w) = named_some f w
shown_in f Channels = channel_shown
shown_in f Lines = line_some f

-- ---- a walk over the slots

-- what is decided of one table's entries is decided of those of the table that it is
pub entry_told : (f : Form) (b : Bool) (s : List ℕ) (t u : Table) → t ≡ u → (b ≡ true) ↔ EntryIs f u s → (b ≡ true) ↔ EntryIs f t s
entry_told f b s t u e h = subst (λ (v : Table). (b ≡ true) ↔ EntryIs f v s) (sym e) h

-- and so of its places
abbrev PlacesTold : Form → Bool → List ℕ → Table → Type 0
PlacesTold f b s t = (n : ℕ) → length s ≡ n * width_in f t → (b ≡ true) ↔ PlacesIn f t n s

pub places_told : (f : Form) (b : Bool) (s : List ℕ) (t u : Table) → t ≡ u → PlacesTold f b s u → PlacesTold f b s t
places_told f b s t u e h = subst (PlacesTold f b s) (sym e) h

-- in either form
pub form_told : (t : Table) (b : Bool) (s : List ℕ) (f g : Form) → f ≡ g → PlacesTold g b s t → PlacesTold f b s t
form_told t b s f g e h = subst (λ (v : Form). PlacesTold v b s t) (sym e) h

-- what is left of a table of n places is a table of some that decides for it
abbrev pub RestIn : Form → Table → ℕ → List ℕ → List ℕ → Type 0
RestIn f t n s r = (m : ℕ) × (length r ≡ m * width_in f t) × (PlacesIn f t n s ↔ PlacesIn f t m r)

module _ (f : Form) (t : Table) (s : List ℕ) (w : ℕ) (e : w ≡ width_in f t) (n : ℕ) where
  -- no slot is passed yet
  pub rest_start : length s ≡ n * w → RestIn f t n s s
  rest_start l = (n, l ∙ ap (λ v. n * v) e, (λ x. x, λ x. x))

  module _ (r x r' : List ℕ) (k : r ≡ x ++ r') (l : length x ≡ w) where
    first_here : take (width_in f t) r ≡ x
    first_here = ap (take (width_in f t)) k ∙ take_at x r' (width_in f t) (l ∙ e)

    rest_here : drop (width_in f t) r ≡ r'
    rest_here = ap (drop (width_in f t)) k ∙ drop_at x r' (width_in f t) (l ∙ e)

    some_left : length r ≡ zero * width_in f t → ⊥
    some_left h = omega (arith, ap length k ∙ length-append x r', l, e, wide_in f t, h, zero-mul (width_in f t))

    -- a slot of the table is passed
    pub rest_pass : SlotIs f t x → RestIn f t n s r → RestIn f t n s r'
    rest_pass p q = go q.0 q.1 q.2
      where
        go : (m : ℕ) → length r ≡ m * width_in f t → PlacesIn f t n s ↔ PlacesIn f t m r → RestIn f t n s r'
        go zero h b = absurd (some_left h)
        go (suc m) h b = (
          m,
          omega (arith, ap length k ∙ length-append x r', l, e, h, suc-mul m (width_in f t)),
          (
            λ y. subst (PlacesIn f t m) rest_here (places_uncons (OkIn f t) (width_in f t) (bytes_in f t) (long_in f t) m r (b.0 y)).1,
            λ y. b.1 (places_cons (OkIn f t) (width_in f t) (bytes_in f t) m r (subst (SlotIs f t) (sym first_here) p) (subst (PlacesIn f t m) (sym rest_here) y)),
          ),
        )

    -- another is none of a table's
    pub rest_stop : (SlotIs f t x → ⊥) → RestIn f t n s r → PlacesIn f t n s → ⊥
    rest_stop p q = go q.0 q.1 q.2
      where
        go : (m : ℕ) → length r ≡ m * width_in f t → PlacesIn f t n s ↔ PlacesIn f t m r → PlacesIn f t n s → ⊥
        go zero h b y = some_left h
        go (suc m) h b y = p (subst (SlotIs f t) first_here (places_uncons (OkIn f t) (width_in f t) (bytes_in f t) (long_in f t) m r (b.0 y)).0)

  -- no slot is left
  pub rest_end : (r : List ℕ) → length r < w → RestIn f t n s r → PlacesIn f t n s
  rest_end r h q = go q.0 q.1 q.2
    where
      go : (m : ℕ) → length r ≡ m * width_in f t → PlacesIn f t n s ↔ PlacesIn f t m r → PlacesIn f t n s
      go zero l b = b.1 (places_none (OkIn f t) (width_in f t) (bytes_in f t) r l)
      go (suc m) l b = absurd (omega (arith, h, e, l, suc-mul m (width_in f t)))

-- a list table is a table of places with zeros from the first empty slot on
pub list_is : (f : Form) (t : Table) (n : ℕ) (s : List ℕ) (r : ℕ) → Found (0 < width_in f t) zeros? (width_in f t) s r → PlacesIn f t n s → (b : Bool) → b ≡ zeros? (drop r s) → (b ≡ true) ↔ ListIn f t n s
list_is f t n s r found p b z =
    let v = front_is (OkIn f t) (width_in f t) (bytes_in f t) (long_in f t) (shown_in f t) (wide_in f t) n s r found in
    (λ y. v.0 (p, sym z ∙ y), λ x. z ∙ (v.1 x).1)
