-- What looking a caller up answers, packed: a row has 16 bits. Assumes nothing.
use Rattle.lists.proofs.Kit.{ℕ, ◌<◌, refl, List, arith}
use Rattle.lists.specs.Ladder.{Answers}
use Rattle.tables.specs.declared.limits.Limits.{Limits}
use Rattle.std.specs.Prelude.{Option as Maybe, Some, None, Result, Ok, Err}
use Rattle.callers.specs.declared.lookup.NoCaller.{NoCaller}
use Rattle.callers.specs.declared.lookup.NoCaller.TheVariants.{NotAStore, NotANumber}
use Rattle.callers.specs.Callers.{told, looking_up}
use Rattle.callers.proofs.Theorems.{row_small}
use Rattle.packing.specs.Packing.{row_of, PacksCaller, LooksUp}

-- ---- an answer by its case

-- the number r packs the answer where its row fits
abbrev Packed : Result (Maybe ℕ) NoCaller → ℕ → Type 0
Packed a r = row_of (told a).row < 65536 → PacksCaller (told a) r

-- ---- what the call answers

module _ (lim : Limits) (idtype : ℕ) (digits store : List ℕ) where
  -- a row that is answered fits a byte
  fits : (a : Result (Maybe ℕ) NoCaller) → Answers (looking_up lim idtype digits store) (told a) → row_of (told a).row < 65536
  fits (Ok (Some row)) x = omega (arith, row_small lim idtype digits store (Ok (Some row)) row x refl)
  fits (Ok None) x = omega arith
  fits (Err NotAStore) x = omega arith
  fits (Err NotANumber) x = omega arith

  -- LOOKS UP: what the call answers is packed whole
  pub looks_packed : (a : Result (Maybe ℕ) NoCaller) (r : ℕ) → Answers (looking_up lim idtype digits store) (told a) → Packed a r → LooksUp lim idtype digits store r
  looks_packed a r x packs = record { answer = told a; allowed = x; packs = packs (fits a x) }
