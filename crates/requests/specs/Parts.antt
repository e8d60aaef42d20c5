-- Requests whose settings touch few tables, run on a working copy of those alone. No promise cites these.
use Rattle.std.specs.Prelude.{ℕ, zero, suc, ◌≡◌, true, List, ◌++◌, drop, Result, Ok, Err}
use Rattle.writing.specs.declared.Coding.{Coding}
use Rattle.writing.specs.declared.Kind.{Kind}
use Rattle.writing.specs.declared.LastFlags.{LastFlags}
use Rattle.writing.specs.Carrier.{result_number}
use Rattle.writing.specs.Ranges.{text_limits, InRange}
use Rattle.writing.specs.Settings.{Setting, kind}
use Rattle.tables.specs.declared.limits.Limits.{Limits}
use Rattle.tables.specs.declared.limits.Texts.TheVariants.{Shared}
use Rattle.tables.specs.Allowed.{Allowed}
use Rattle.tables.specs.Forms.{Roomy}
use Rattle.tables.specs.Owns.{own}
use Rattle.tables.specs.Store.{Works}
use Rattle.tables.specs.Tables.{Tables}
use Rattle.tables.specs.Texts.{text_sum, text_size}
use Rattle.working.specs.Copies.{Sparing}
use Rattle.working.specs.Parts.{copied?, part_of, rejoined}
use Rattle.working.specs.declared.copies.Copy.{Copy}
use Rattle.working.specs.declared.copies.Copy.TheVariants.{Whole, Part}
use Rattle.requests.specs.declared.run.Fault.{Fault as RunFault}
use Rattle.requests.specs.Judge.{kept, refused}
use Rattle.requests.specs.Requests.{Judged, WrittenIn, last_item}
use Rattle.requests.specs.Running.{RunFrom}

-- whatever settings in range stand in turn at the start of the bytes, at most n of them, each is of a kind that a copy of part k has
abbrev pub OnlyOf : Coding → Kind → ℕ → List ℕ → Type 0
OnlyOf c k zero bs = Unit {0}
OnlyOf c k (suc n) bs =
    (s : Setting) (w r : List ℕ) → bs ≡ w ++ r → WrittenIn c s w → InRange text_limits n s → (copied? k (kind s) ≡ true) × OnlyOf c k n r

-- the same limits, with an area of so many bytes
abbrev pub with_area : Limits → ℕ → Limits
with_area lim a = record { lines = lim.lines; channels = lim.channels; message = lim.message; size = lim.size; texts = Shared a }

-- a copy of part is only taken under limits that spare bytes for it, and where the request has no other settings
abbrev pub CopyIs : Coding → Limits → ℕ → List ℕ → ℕ → Copy → Type 0
CopyIs c lim count m at Whole = Unit {0}
CopyIs c lim count m at (Part k) = Sparing lim × OnlyOf c k count (drop at m)

-- all settings counted were taken on such a copy, and no byte is left; the other tables stay
pub record PartRan (c : Coding) (lim : Limits) (k : Kind) (count : ℕ) (m : List ℕ) (at : ℕ) (was : Tables) (after : List ℕ) (f : LastFlags) : Type 0 where
  pub settings : List Setting
  pub tables : Tables
  pub allowed : Allowed lim tables
  pub judged : Judged c lim count was (drop at m) (kept settings tables)
  pub holds : Works lim (part_of k tables) after
  pub joined : tables ≡ rejoined k was tables
  pub flags : f ≡ (last_item settings).flags

-- what taking the settings on a copy of part of the tables answers, where the texts of all take sum bytes and those of the kind's table took; the copy was s and becomes t
abbrev pub PartFrom : Coding → Limits → Kind → ℕ → List ℕ → ℕ → (sum took : ℕ) → List ℕ → List ℕ → Result LastFlags RunFault → Type 0
PartFrom c lim k count m at sum took s t (Ok f) =
    (was : Tables) (a : ℕ) → lim.texts ≡ Shared a → Roomy lim → Allowed lim was → Works lim (part_of k was) s → sum ≡ text_sum was → took ≡ text_size k (own k was) → OnlyOf c k count (drop at m)
    → PartRan c lim k count m at was t f
PartFrom c lim k count m at sum took s t (Err e) =
    (was : Tables) (a : ℕ) → lim.texts ≡ Shared a → Roomy lim → Allowed lim was → Works lim (part_of k was) s → sum ≡ text_sum was → took ≡ text_size k (own k was) → OnlyOf c k count (drop at m)
    → Judged c lim count was (drop at m) (refused (result_number e.result) e.failed)

-- the same on a copy of all tables or of part of them
abbrev pub CopyFrom : Coding → Limits → Copy → ℕ → List ℕ → ℕ → (sum took : ℕ) → List ℕ → List ℕ → Result LastFlags RunFault → Type 0
CopyFrom c lim Whole count m at sum took s t r = RunFrom c lim count m at sum s t r
CopyFrom c lim (Part k) count m at sum took s t r = PartFrom c lim k count m at sum took s t r
