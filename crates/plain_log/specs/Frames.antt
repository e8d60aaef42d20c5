-- The frame of an area, and one request more: inner steps, no promise cites these.
use Rattle.std.specs.Prelude.{ℕ, ◌+◌, ◌*◌, ◌/◌, ◌%◌, ◌≤◌, ◌<◌, ◌≡◌, List, [], ◌∷◌, ◌++◌, length, get_or, set}
use Rattle.std.specs.declared.option.Option.{Option as Maybe}
use Rattle.std.specs.declared.option.Option.TheVariants.{Some, None}
use Rattle.std.specs.declared.result.Result.{Result as Answer}
use Rattle.std.specs.declared.result.Result.TheVariants.{Ok, Err}
use Rattle.plain_log.specs.declared.keeping.PastEnd.{PastEnd}
use Rattle.plain_log.specs.Area.{area_size, log_bytes, area_bytes}

-- the number of two bytes
abbrev pub NumberAt : List ℕ → ℕ → ℕ → Type 0
NumberAt s at r = (at + 2 ≤ length s → r ≡ get_or s at 0 * 256 + get_or s (at + 1) 0) × (r < 65536)

-- how long the requests of an area are
pub record UsedRead (s : List ℕ) (r : ℕ) : Type 0 where
  pub size : length s ≡ area_size
  pub there : (get_or s 0 0 ≡ 0) × (get_or s 1 0 ≡ 0) × (r ≡ get_or s 2 0 * 256 + get_or s 3 0)
  pub used : (log : List (List ℕ)) → s ≡ area_bytes log → 4 + length (log_bytes log) ≤ area_size → r ≡ length (log_bytes log)

-- or that they cannot be those of one
abbrev pub UsedIs : List ℕ → Maybe ℕ → Type 0
UsedIs s (Some r) = UsedRead s r
UsedIs s None = (log : List (List ℕ)) → s ≡ area_bytes log → 4 + length (log_bytes log) ≤ area_size → ⊥

-- two bytes of a number were written
abbrev pub PutNumber : List ℕ → ℕ → ℕ → List ℕ → Type 0
PutNumber s at n t = (length t ≡ length s) × (at + 2 ≤ length s → n < 65536 → t ≡ set (set s at (n / 256)) (at + 1) (n % 256))

-- a request was put behind those of an area, or passes its end
abbrev pub KeepIs : List ℕ → ℕ → List ℕ → List ℕ → Answer (Unit {0}) PastEnd → Type 0
KeepIs s used m t (Ok done) =
    (log : List (List ℕ)) → s ≡ area_bytes log → 4 + length (log_bytes log) ≤ area_size → used ≡ length (log_bytes log)
    → (t ≡ area_bytes (log ++ (m ∷ []))) × (4 + length (log_bytes (log ++ (m ∷ []))) ≤ area_size)
KeepIs s used m t (Err past) =
    (t ≡ s) × ((log : List (List ℕ)) → s ≡ area_bytes log → 4 + length (log_bytes log) ≤ area_size → used ≡ length (log_bytes log)
    → area_size < 4 + length (log_bytes (log ++ (m ∷ []))))
