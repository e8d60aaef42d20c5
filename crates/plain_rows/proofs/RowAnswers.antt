-- The tests of a row of the plain engine in their order, after which what was found is the name. Assumes nothing.
use Rattle.lists.proofs.Kit.{ℕ, ◌≤◌, ◌≡◌, refl, sym, ap, ◌∙◌, ◌⊎◌, inl, inr, List, some, option_none_ne_some, arith}
use Rattle.lists.specs.Ladder.{Answers}
use Rattle.tables.specs.Tables.{Tables}
use Rattle.std.specs.declared.option.Option.{Option as Maybe}
use Rattle.read_deeds.specs.declared.deeds.Put.{Put}
use Rattle.plain_log.specs.declared.checks.Area.{Area}
use Rattle.plain_log.specs.Area.{AreaOf}
use Rattle.plain_log.specs.Checking.{AreaSeen}
use Rattle.screen.specs.declared.rows.Refusal.TheVariants.{ScratchSize, NotAStore, Absent}
use Rattle.screen.specs.declared.rows.Row.{Row}
use Rattle.screen.specs.Rows.{Caption, caption}
use Rattle.std.specs.declared.result.Result.TheVariants.{Ok, Err}
use Rattle.plain_rows.specs.declared.names.Name.TheVariants.{Text as TextAt, Line as LineNumber, Group as GroupNumber, Individual as IndividualNumber}
use Rattle.plain_rows.specs.Naming.{Naming, FoundIn, Named, NameFound, plain_naming}
use Rattle.plain_rows.specs.PlainRows.{NoRow}
use Rattle.plain_rows.proofs.AreaTables.{area_tables}

module _ (s : List ℕ) (row : Row) (log : List (List ℕ)) (t : Tables) (area : AreaOf s log t) where
  -- a row that stands in the tables of the area is not absent
  there : (c : Caption) → caption t row ≡ some c → NoRow s row → ⊥
  there c e none_there = option_none_ne_some c (sym (none_there log t area) ∙ e)

  -- what was found there is the answer of the last test
  found_answers : (x : Naming) → Named t s row x
      → (NoRow s row × (x ≡ Err Absent)) ⊎ ((NoRow s row → ⊥) × ((l : List (List ℕ)) × (u : Tables) × AreaOf s l u × Named u s row x))
  found_answers (Err ScratchSize) y = absurd y
  found_answers (Err NotAStore) y = absurd y
  found_answers (Err Absent) y = inl (λ l u a. ap (λ (v : Tables). caption v row) (area_tables s l log u t a area) ∙ y, refl)
  found_answers (Ok (TextAt p)) y = inr (there y.0 y.1, (log, t, area, y))
  found_answers (Ok (LineNumber n)) y = inr (there _ y.1, (log, t, area, y))
  found_answers (Ok (GroupNumber a)) y = inr (there _ y, (log, t, area, y))
  found_answers (Ok (IndividualNumber a)) y = inr (there _ y, (log, t, area, y))

-- what was found in an area that was read is the answer of the tests
pub name_answers : (s ws : List ℕ) (row : Row) (room : ℕ) (a : Area) (found : Maybe Put) (r : Naming) → 64 ≤ room → AreaSeen s ws a → FoundIn s a.deeds row found → NameFound row found r → Answers (plain_naming s room row) r
name_answers s ws row room a found r big x f n =
    let l = x.logged in
    let (p, is, seen) = f x.deeds l.follow l.count (omega (arith, l.few)) in
    inr (λ h. omega arith, inr (λ never. never (x.log, x.tables, x.area), found_answers s row x.log x.tables x.area r (n s x.log x.tables x.deeds p x.area l.tells is seen)))
