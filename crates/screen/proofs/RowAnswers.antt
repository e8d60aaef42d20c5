-- The tests of a screen row in their order, after which what was found is the name. Assumes nothing.
use Rattle.lists.proofs.Kit.{ℕ, ◌≤◌, ◌≡◌, refl, sym, ◌∙◌, ◌⊎◌, inl, inr, List, some, option_none_ne_some, arith}
use Rattle.lists.specs.Ladder.{Answers}
use Rattle.tables.specs.declared.limits.Limits.{Limits}
use Rattle.tables.specs.Store.{StoreOf, Holds}
use Rattle.tables.specs.Tables.{Tables}
use Rattle.screen.specs.declared.rows.Refusal.TheVariants.{ScratchSize, NotAStore, Absent}
use Rattle.screen.specs.declared.names.Name.{Name}
use Rattle.screen.specs.declared.names.Name.TheVariants.{Refused, Text as TextAt, Digits, Group as GroupNumber, Individual as IndividualNumber}
use Rattle.screen.specs.declared.rows.Row.{Row}
use Rattle.screen.specs.Naming.{NameIs, Named, naming}
use Rattle.screen.specs.Rows.{Caption, caption, NoRow}

-- a store is that of some tables
pub tables_of : (lim : Limits) (s : List ℕ) → StoreOf lim s → (t : Tables) × Holds lim t s
tables_of lim s x = (x.store.tables, (x.store.allowed, x.store.bytes_are))

module _ (lim : Limits) (s : List ℕ) (row : Row) where
  -- a row that stands in some tables of the store is not absent
  there : (t : Tables) → Holds lim t s → (c : Caption) → caption t row ≡ some c → NoRow lim s row → ⊥
  there t h c e none_there = option_none_ne_some c (sym (none_there t h) ∙ e)

  -- what was found in a store is the answer of the tests
  pub name_answers : (room : ℕ) (r : Name) → 36 ≤ room → StoreOf lim s → NameIs lim s row r → Answers (naming lim s room row) r
  name_answers room r big store is = inr (λ h. omega arith, inr (λ no. no store, by r is))
    where
      t : Tables
      t = (tables_of lim s store).0

      holds : Holds lim t s
      holds = (tables_of lim s store).1

      -- not absent
      shown : (x : Name) (c : Caption) → caption t row ≡ some c → Named lim t s row x
          → (NoRow lim s row × (x ≡ Refused Absent)) ⊎ ((NoRow lim s row → ⊥) × ((u : Tables) × Holds lim u s × Named lim u s row x))
      shown x c e y = inr (there t holds c e, (t, holds, y))

      by : (x : Name) → NameIs lim s row x
          → (NoRow lim s row × (x ≡ Refused Absent)) ⊎ ((NoRow lim s row → ⊥) × ((u : Tables) × Holds lim u s × Named lim u s row x))
      by (Refused ScratchSize) y = absurd (y t holds)
      by (Refused NotAStore) y = absurd (y t holds)
      by (Refused Absent) y = inl (y, refl)
      by (TextAt at n) y = let z = y t holds in shown (TextAt at n) z.0 z.1 z
      by (Digits at) y = let z = y t holds in shown (Digits at) _ z.1 z
      by (GroupNumber a) y = let z = y t holds in shown (GroupNumber a) _ z z
      by (IndividualNumber a) y = let z = y t holds in shown (IndividualNumber a) _ z z
