-- What reading an area answers: its requests' length, their deeds, which tell the tables, and the hash of the last.
use Rattle.std.specs.Prelude.{ℕ, ◌+◌, ◌-◌, ◌≤◌, ◌≡◌, List, ◌++◌, length, take, drop, replicate}
use Rattle.lists.specs.Every.{All}
use Rattle.writing.specs.Settings.{Setting}
use Rattle.read_fields.specs.declared.hashes.HashPlace.{HashPlace}
use Rattle.tables.specs.Limits.{handheld}
use Rattle.tables.specs.Tables.{Tables}
use Rattle.requests.specs.Requests.{forget}
use Rattle.events.specs.Deeds.{all_deeds}
use Rattle.events.specs.Deeds as D
use Rattle.read_deeds.specs.Cursors.{RecordAt}
use Rattle.plain_weigh.specs.Weighing.{Short}
use Rattle.plain_judge.specs.Judging.{Weights, Logged, HashStands}
use Rattle.plain_log.specs.declared.checks.Area.{Area}
use Rattle.std.specs.declared.option.Option.{Option as Maybe}
use Rattle.std.specs.declared.option.Option.TheVariants.{Some, None}
use Rattle.plain_log.specs.declared.checks.Record.{Record}
use Rattle.plain_log.specs.Area.{record_bytes, log_bytes, TakenFrom, AreaOf, IsArea}

-- what was read of an area is that of these requests and tables: their length, the deeds that tell the tables, the numbers, and the hash that is kept
pub record AreaSeen (s ws : List ℕ) (a : Area) : Type 0 where
  pub log : List (List ℕ)
  pub tables : Tables
  pub area : AreaOf s log tables
  pub used : a.used ≡ length (log_bytes log)
  pub deeds : List D.Deed
  pub logged : Logged s a.deeds deeds tables
  pub weights : Weights ws tables
  pub hash : HashStands s a.hash tables.hash

-- what reading an area answers, by numbers that were all 0
abbrev pub AreaIs : List ℕ → List ℕ → List ℕ → Maybe Area → Type 0
AreaIs s ws vs (Some a) = ws ≡ replicate 27 0 → AreaSeen s vs a
AreaIs s ws vs None = ws ≡ replicate 27 0 → IsArea s → ⊥

-- ---- inner steps: no promise cites these

-- where a hash stands in all bytes that stands before the end in those from a start on
abbrev pub MovedIs : HashPlace → (start end : ℕ) → HashPlace → Type 0
MovedIs p start end r = (r.code ≡ p.code) × (start + p.start ≤ end → r.start ≡ start + p.start)

-- what reading the request at a place answers, after deeds that tell the tables t
abbrev pub RecordIs : List ℕ → (at end deeds : ℕ) → List ℕ → List ℕ → Maybe Record → Type 0
RecordIs s at end n ws vs (Some r) =
    (ds : List D.Deed) (t : Tables) → Logged s n ds (forget t) → Weights ws (forget t)
    → (l : List Setting) × (u : Tables) × (m : List ℕ) × TakenFrom handheld t m l u × (take (r.next - at) (drop at s) ≡ record_bytes m) × (r.next ≡ at + 2 + length m) × (r.next ≤ end)
    × RecordAt s at l r.next × (r.deeds ≡ length (all_deeds l)) × (r.deeds ≤ 0x40000) × All Short (all_deeds l) × Weights vs u × HashStands s r.hash u.hash
RecordIs s at end n ws vs None =
    (ds : List D.Deed) (t : Tables) → Logged s n ds (forget t) → Weights ws (forget t) → end ≤ length s
    → (m : List ℕ) (l : List Setting) (u : Tables) (rest : List ℕ) → TakenFrom handheld t m l u → drop at s ≡ record_bytes m ++ rest → at + 2 + length m ≤ end → ⊥
