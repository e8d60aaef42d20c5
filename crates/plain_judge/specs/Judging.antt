-- What judging the settings of a request answers, after the requests of a log whose deeds tell the tables.
use Rattle.std.specs.Prelude.{ℕ, ◌+◌, ◌*◌, ◌-◌, ◌≤◌, ◌<◌, ◌≡◌, List, [], ◌++◌, map, length, get_or, set, drop}
use Rattle.std.proofs.Math.Option.{none, some}
use Rattle.std.specs.declared.option.Option.{Option as Maybe}
use Rattle.std.specs.declared.option.Option.TheVariants.{Some, None}
use Rattle.std.specs.declared.result.Result.{Result as Answer}
use Rattle.std.specs.declared.result.Result.TheVariants.{Ok, Err}
use Rattle.lists.specs.Every.{All}
use Rattle.writing.specs.declared.Coding.{Coding}
use Rattle.writing.specs.declared.Kind.{Kind}
use Rattle.writing.specs.declared.CfgResult.{CfgResult}
use Rattle.writing.specs.Canonical.{Fits}
use Rattle.writing.specs.Carrier.{result_number}
use Rattle.writing.specs.Fields.{val}
use Rattle.writing.specs.Ranges.{text_limits, InRange, HashSize}
use Rattle.writing.specs.Settings.{Setting, Hash}
use Rattle.read_fields.specs.Places.{FieldsAt, StandsAt}
use Rattle.read_fields.specs.declared.hashes.HashPlace.{HashPlace}
use Rattle.settings.specs.declared.settings.Setting.{Setting as SettingRead}
use Rattle.settings.specs.Meant.{Meant}
use Rattle.tables.specs.Apply.{apply}
use Rattle.tables.specs.Limits.{handheld}
use Rattle.tables.specs.Owns.{own}
use Rattle.tables.specs.Tables.{Tables}
use Rattle.tables.specs.Texts.{text_size, text_sum}
use Rattle.requests.specs.declared.run.Fault.{Fault as Refusal}
use Rattle.requests.specs.declared.run.Request.{Request}
use Rattle.requests.specs.Judge.{kept, refused}
use Rattle.requests.specs.Requests.{Runs, Fault, Judged, LastItem, item_of, or_else, last_item}
use Rattle.events.specs.Deeds.{deeds, all_deeds}
use Rattle.events.specs.Deeds as D
use Rattle.events.specs.Knowing.{Telling}
use Rattle.events.specs.Sums.{many}
use Rattle.read_deeds.specs.Cursors.{Standing, Follow}
use Rattle.plain_look.specs.Looking.{kind_number}
use Rattle.plain_weigh.specs.declared.weighing.Before.{Before}
use Rattle.plain_weigh.specs.declared.weights.Weight.{Weight}
use Rattle.plain_weigh.specs.Weighing.{Short, log_start, Read}
use Rattle.plain_judge.specs.declared.judge.Item.{Item}
use Rattle.plain_judge.specs.declared.judge.Step.{Step}

-- ---- the numbers that are kept

-- two numbers for each kind, how many entries its table has and how many bytes their texts take, and the bytes of all texts
pub record Weights (ws : List ℕ) (t : Tables) : Type 0 where
  pub all : length ws ≡ 27
  pub entries : (k : Kind) → get_or ws (2 * kind_number k) 0 ≡ many k (own k t)
  pub bytes : (k : Kind) → get_or ws (2 * kind_number k + 1) 0 ≡ text_size k (own k t)
  pub sum : get_or ws 26 0 ≡ text_sum t
  pub room : text_sum t ≤ 4096

-- ---- the deeds of a log

-- so many deeds stand in the log, and tell the tables
pub record Logged (log : List ℕ) (n : ℕ) (ds : List D.Deed) (t : Tables) : Type 0 where
  pub follow : Follow log log_start ds
  pub count : length ds ≡ n
  pub few : n < 0x40000000
  pub short : All Short ds
  pub tells : Telling handheld ds t

-- ---- a request

-- the hash that FF says stands at a place; of code 0 it has no bytes
pub record HashStands (m : List ℕ) (p : HashPlace) (h : Hash) : Type 0 where
  pub code : p.code ≡ h.code
  pub size : HashSize h.code (length h.value)
  pub stands : FieldsAt (map (val 8) h.value) m p.start (p.start + length h.value)

-- what the last setting says is this
pub record ItemIs (m : List ℕ) (i : Item) (l : LastItem) : Type 0 where
  pub flags : i.flags ≡ l.flags
  pub hash : HashStands m i.hash l.hash

-- all settings counted were taken, and no byte is left: their tables, and the deeds that tell them behind those of the log; they stand up to the end of a message that their place is in
pub record Ran (m : List ℕ) (q : Request) (ds : List D.Deed) (was : Tables) (ws : List ℕ) (i : Item) (n : ℕ) : Type 0 where
  pub settings : List Setting
  pub tables : Tables
  pub judged : Judged q.coding handheld q.count was (drop q.at m) (kept settings tables)
  pub stands : q.at ≤ length m → Standing q.coding m q.at settings (length m)
  pub count : length settings ≡ q.count
  pub tells : Telling handheld (ds ++ all_deeds settings) tables
  pub short : All Short (all_deeds settings)
  pub weights : Weights ws tables
  pub passed : n ≡ length (all_deeds settings)
  pub few : n ≤ 0x40000
  pub item : ItemIs m i (last_item settings)

-- what judging the settings of a request answers, by numbers that were ws and become vs
abbrev pub RunIs : List ℕ → ℕ → List ℕ → Request → List ℕ → List ℕ → Answer (Item × ℕ) Refusal → Type 0
RunIs log n m q ws vs (Ok r) = (ds : List D.Deed) (was : Tables) → Logged log n ds was → Weights ws was → Ran m q ds was vs r.0 r.1
RunIs log n m q ws vs (Err f) =
    (ds : List D.Deed) (was : Tables) → Logged log n ds was → Weights ws was → Judged q.coding handheld q.count was (drop q.at m) (refused (result_number f.result) f.failed)

-- ---- inner steps: no promise cites these

-- what the table with number k weighs
abbrev pub WeightAt : List ℕ → ℕ → Weight → Type 0
WeightAt ws k r = length ws ≡ 27 → k < 13 → (r.entries ≡ get_or ws (2 * k) 0) × (r.bytes ≡ get_or ws (2 * k + 1) 0)

abbrev pub WeightPut : List ℕ → ℕ → Weight → ℕ → List ℕ → Type 0
WeightPut ws k w sum vs = length ws ≡ 27 → k < 13 → vs ≡ set (set (set ws (2 * k) w.entries) (2 * k + 1) w.bytes) 26 sum

-- what trying a setting answers, after deeds of the log and of the request
abbrev pub TryIs : List ℕ → List ℕ → Before → SettingRead → List ℕ → List ℕ → Maybe ℕ → Type 0
TryIs log m b x ws vs (Some n) =
    (L M : List D.Deed) (s : Setting) (c : Coding) (left : ℕ) (t : Tables) → Read log m b L M (deeds s) → Telling handheld (L ++ M) t → Weights ws t
    → Meant m x s → InRange text_limits left s → Fits c s
    → (u : Tables) × (apply handheld s t ≡ some u) × Weights vs u × (n ≡ b.passed + length (deeds s))
TryIs log m b x ws vs None =
    (L M : List D.Deed) (s : Setting) (c : Coding) (left : ℕ) (t : Tables) → Read log m b L M (deeds s) → Telling handheld (L ++ M) t → Weights ws t
    → Meant m x s → InRange text_limits left s → Fits c s
    → apply handheld s t ≡ none

-- where FF's hash stands, of a setting that was read
abbrev pub HashOf : SettingRead → HashPlace → Type 0
HashOf x p = (m : List ℕ) (s : Setting) → Meant m x s → HashStands m p (or_else (item_of s) (last_item [])).hash

-- so many settings of a request were taken, up to a place
pub record Along (m : List ℕ) (q : Request) (ds : List D.Deed) (was : Tables) (p taken passed : ℕ) (ws : List ℕ) (l : List Setting) (t : Tables) : Type 0 where
  pub count : length l ≡ taken
  pub runs : Runs q.coding handheld q.count was (drop q.at m) l t (drop p m)
  pub stands : Standing q.coding m q.at l p
  pub passes : length (all_deeds l) ≡ passed
  pub few : passed ≤ taken * 0x400
  pub short : All Short (all_deeds l)
  pub tells : Telling handheld (ds ++ all_deeds l) t
  pub weights : Weights ws t

-- one more was, and had room
pub record Stepped (m : List ℕ) (q : Request) (left at next : ℕ) (t : Tables) (vs : List ℕ) (i : Item) (s : Setting) (u : Tables) : Type 0 where
  pub range : InRange text_limits left s
  pub stands : StandsAt q.coding m at next s
  pub applied : apply handheld s t ≡ some u
  pub weights : Weights vs u
  pub item : ItemIs m i (or_else (item_of s) (last_item []))

-- what judging the setting at a place answers
abbrev pub StepIs : List ℕ → ℕ → List ℕ → Request → ℕ → ℕ → ℕ → List ℕ → List ℕ → Answer Step CfgResult → Type 0
StepIs log n m q at taken passed ws vs (Ok r) =
    (ds : List D.Deed) (was : Tables) (l : List Setting) (t : Tables) → Logged log n ds was → Along m q ds was at taken passed ws l t → taken < q.count
    → (s : Setting) × (u : Tables) × Stepped m q (q.count - taken - 1) at r.next t vs r.item s u × (r.deeds ≡ passed + length (deeds s))
StepIs log n m q at taken passed ws vs (Err result) =
    (ds : List D.Deed) (was : Tables) (l : List Setting) (t : Tables) → Logged log n ds was → Along m q ds was at taken passed ws l t → taken < q.count
    → Fault q.coding handheld (q.count - taken - 1) t (drop at m) (result_number result)
