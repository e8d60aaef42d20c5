-- One of the two requests, checked, and both joined. No promise cites these.
use Rattle.std.specs.Prelude.{ℕ, ◌≤◌, ◌≡◌, ◌≢◌, Bool, true, false, List, [], ◌∷◌, length, drop, Result, Ok, Err}
use Rattle.std.proofs.Math.Option.{some}
use Rattle.lists.specs.Ladder.{Answers}
use Rattle.writing.specs.declared.Coding.{Coding}
use Rattle.writing.specs.Carrier.{Opens, RequestOf, InSize, NothingCarried, NoRequest}
use Rattle.writing.specs.Ranges.{text_limits, InRange}
use Rattle.writing.specs.Settings.{Setting}
use Rattle.settings.specs.declared.settings.Setting.{Setting as Read}
use Rattle.settings.specs.Meant.{Meant}
use Rattle.read_fields.specs.Places.{StandsAt}
use Rattle.requests.specs.Judge as Judge
use Rattle.requests.specs.Judge.{Outcome, kept, refused}
use Rattle.requests.specs.Requests.{WrittenIn, Known}
use Rattle.joining.specs.declared.answers.Fault.{Fault as Refusal}
use Rattle.joining.specs.declared.answers.Join.{Join}
use Rattle.joining.specs.declared.checks.Head.{Head}
use Rattle.joining.specs.declared.checks.Step.{Step}
use Rattle.joining.specs.declared.checks.Step.TheVariants.{Next, Unknown, Field}
use Rattle.joining.specs.Joins.{Sound, EndsRequest, both_of}
use Rattle.joining.specs.Told.{fault_number, fault_id, told, CanJoin}

-- ---- the settings of a request

-- whether the last of them is an FF item
abbrev pub EndsAs : Bool → List Setting → Type 0
EndsAs true l = EndsRequest l
EndsAs false l = EndsRequest l → ⊥

-- whether a setting that was read is one
abbrev pub IsLast : Read → Bool → Type 0
IsLast r b = (m : List ℕ) (s : Setting) → Meant m r s → EndsAs b (s ∷ [])

-- what is at fault where the next of them should stand, where every setting has room
abbrev pub FaultAt : Coding → (left : ℕ) → List ℕ → ℕ → Type 0
FaultAt c left bs number = Judge.Fault Setting (Unit {0}) (WrittenIn c) (InRange text_limits) (λ s t. some t) Known left tt bs number

-- the setting at a place, where so many are still counted after it, or its fault
abbrev pub StepIs : Coding → (left : ℕ) → List ℕ → (at : ℕ) → Step → Type 0
StepIs c left m at (Next next b) = (s : Setting) × InRange text_limits left s × StandsAt c m at next s × EndsAs b (s ∷ [])
StepIs c left m at Unknown = FaultAt c left (drop at m) 3
StepIs c left m at Field = FaultAt c left (drop at m) 4

-- what they come to turns the request down with this number and failed ID
abbrev pub TurnsDown : Outcome Setting (Unit {0}) → (number failed : ℕ) → Type 0
TurnsDown (refused n i) number failed = (n ≡ number) × (i ≡ failed)
TurnsDown (kept l t) number failed = EndsRequest l × (4 ≡ number) × (length l ≡ failed)

-- what the settings from a place on come to, with what the head says
abbrev pub SettingsAre : List ℕ → (at : ℕ) → Head → Result Head Refusal → Type 0
SettingsAre m at h (Ok g) = (g ≡ h) × (l : List Setting) × Sound h.coding h.count (drop at m) (kept l tt) × (EndsRequest l → ⊥)
SettingsAre m at h (Err f) =
    (o : Outcome Setting (Unit {0})) × Sound h.coding h.count (drop at m) o × TurnsDown o (fault_number f) (fault_id f)

-- ---- the request

-- whether a message in size opens with another type than a request's
abbrev pub OpensElse : ℕ → List ℕ → Bool → Type 0
OpensElse most m true = InSize most m × (version : ℕ) × (kind : ℕ) × (coding : ℕ) × (data_bytes : List ℕ) × Opens version kind coding data_bytes m × (kind ≢ 0)
OpensElse most m false = (version kind coding : ℕ) (data_bytes : List ℕ) → InSize most m → Opens version kind coding data_bytes m → kind ≡ 0

-- why a request may not be joined, with its number and failed ID
pub data Faulty (most : ℕ) (m : List ℕ) : (number failed : ℕ) → Type 0 where
  size : (InSize most m → ⊥) → Faulty most m 12 0
  carrier : InSize most m → NothingCarried m → Faulty most m 13 0
  other_type : {version kind coding : ℕ} {d : List ℕ} → InSize most m → Opens version kind coding d m → kind ≢ 0 → Faulty most m 14 0
  other_version : {version coding : ℕ} {d : List ℕ} → InSize most m → Opens version 0 coding d m → version ≢ 1 → Faulty most m 1 0
  no_request : {coding : ℕ} {d : List ℕ} → InSize most m → Opens 1 0 coding d m → NoRequest m → Faulty most m 4 0
  at_settings : {c : Coding} {count number failed : ℕ} {settings : List ℕ} (o : Outcome Setting (Unit {0}))
      → InSize most m → RequestOf c count settings m → Sound c count settings o → TurnsDown o number failed → Faulty most m number failed

-- a request that may be joined
pub record Fine (most : ℕ) (m : List ℕ) (h : Head) : Type 0 where
  pub settings : List Setting
  pub counted : length settings ≡ h.count
  pub size : InSize most m
  pub long : 8 ≤ length m
  pub request : RequestOf h.coding h.count (drop 8 m) m
  pub sound : Sound h.coding h.count (drop 8 m) (kept settings tt)
  pub no_ff : EndsRequest settings → ⊥

abbrev pub RequestIs : ℕ → List ℕ → Result Head Refusal → Type 0
RequestIs most m (Ok h) = Fine most m h
RequestIs most m (Err f) = Faulty most m (fault_number f) (fault_id f)

-- ---- both

-- what two requests come to that may be joined each, with what their heads say
abbrev pub BothAre : ℕ → (first second buffer after : List ℕ) → Head → Head → Join → Type 0
BothAre most first second buffer after h k r =
    CanJoin most → (a b : List Setting) → length a ≡ h.count → length b ≡ k.count
    → Answers (both_of most first second buffer h.coding a (drop 8 first) k.coding b (drop 8 second)) (record { answer = told r; buffer = after })
