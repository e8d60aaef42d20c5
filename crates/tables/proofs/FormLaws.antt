-- Where regions start, by form. Assumes nothing.
use Rattle.lists.proofs.Kit.{ℕ, ◌+◌, ◌*◌, ◌≤◌, ◌≡◌, refl, sym, ap, arith}
use Rattle.tables.specs.declared.limits.Limits.{Limits}
use Rattle.tables.specs.declared.limits.Texts.{Texts}
use Rattle.tables.specs.declared.limits.Texts.TheVariants.{Placed, Shared}
use Rattle.tables.specs.Forms.{by_form, start_in}
use Rattle.tables.specs.Texts.{WhereShared}
use Rattle.tables.specs.Layout.{quick_at, status_at, groups_at, individuals_at, line_slots_at, group_contacts_at, individual_contacts_at, channels_at, channels_size}
use Rattle.tables.specs.SharedLayout.{status_heads_at, group_heads_at, individual_heads_at, line_slot_heads_at, group_contact_heads_at, individual_contact_heads_at, shared_channels_at}

-- the tables that have texts and places of the standard's own number, the channels, and behind these the lines
pub record Starts (x : Texts) (lim : Limits) : Type 0 where
  pub quick : start_in x lim 4 ≡ quick_at
  pub status : start_in x lim 5 ≡ by_form x status_at status_heads_at
  pub groups : start_in x lim 6 ≡ by_form x groups_at group_heads_at
  pub individuals : start_in x lim 7 ≡ by_form x individuals_at individual_heads_at
  pub line_slots : start_in x lim 8 ≡ by_form x line_slots_at line_slot_heads_at
  pub group_contacts : start_in x lim 9 ≡ by_form x group_contacts_at group_contact_heads_at
  pub individual_contacts : start_in x lim 10 ≡ by_form x individual_contacts_at individual_contact_heads_at
  pub channels : start_in x lim 11 ≡ by_form x channels_at shared_channels_at
  pub lines : start_in x lim 12 ≡ by_form x channels_at shared_channels_at + channels_size lim

-- STARTS-ARE: each is one of two numbers
pub starts_are : (x : Texts) (lim : Limits) → Starts x lim
starts_are Placed lim = record { quick = refl; status = refl; groups = refl; individuals = refl; line_slots = refl; group_contacts = refl; individual_contacts = refl; channels = refl; lines = omega arith }
starts_are (Shared a) lim = record { quick = refl; status = refl; groups = refl; individuals = refl; line_slots = refl; group_contacts = refl; individual_contacts = refl; channels = refl; lines = omega arith }

-- BY-FORM: a number that is one of the two is the one of its form
pub form_placed : (x : Texts) (p h : ℕ) → x ≡ Placed → p ≡ by_form x p h
form_placed x p h e = sym (ap (λ (y : Texts). by_form y p h) e)

pub form_shared : (x : Texts) (a p h : ℕ) → x ≡ Shared a → h ≡ by_form x p h
form_shared x a p h e = sym (ap (λ (y : Texts). by_form y p h) e)

-- FORM-MOST: where the number of a shared area is the smaller one, none is above the other
pub form_most : (x : Texts) (p h : ℕ) → h ≤ p → by_form x p h ≤ p
form_most Placed p h l = omega arith
form_most (Shared a) p h l = l

-- FORM-TIMES: n times the one of its form is one of two numbers
pub form_times : (x : Texts) (n p h : ℕ) → n * by_form x p h ≡ by_form x (n * p) (n * h)
form_times Placed n p h = refl
form_times (Shared a) n p h = refl

-- ---- what is asked where texts share an area

-- SHARED-THEN: what follows from it is asked there too
pub shared_then : (x : Texts) {P Q : Type 0} → (P → Q) → WhereShared x P → WhereShared x Q
shared_then Placed f p = tt
shared_then (Shared a) f p = f p

-- SHARED-TOO: what holds anyway holds there
pub shared_too : (x : Texts) {P : Type 0} → P → WhereShared x P
shared_too Placed p = tt
shared_too (Shared a) p = p
