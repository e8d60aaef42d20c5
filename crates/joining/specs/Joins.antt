-- What the call that joins answers, and leaves in the buffer: docs/RULES.md, D7 and D8.
use Rattle.std.specs.Prelude.{ℕ, ◌+◌, ◌<◌, ◌≡◌, ◌≢◌, ◌⊎◌, Bool, true, false, List, [], ◌∷◌, ◌++◌, length}
use Rattle.std.proofs.Math.Option.{none, some}
use Rattle.lists.specs.Ladder.{Ladder, rung, foot, Answers}
use Rattle.slots.specs.Slots.{written_over}
use Rattle.writing.specs.declared.Coding.{Coding}
use Rattle.writing.specs.Canonical.{plain}
use Rattle.writing.specs.Carrier.{start_bytes, carrier, coding_type, RequestOf, InSize, NothingCarried, OtherKind, OtherVersion, NoRequest}
use Rattle.writing.specs.Ranges.{text_limits, InRange}
use Rattle.writing.specs.Settings.{Setting}
use Rattle.writing.specs.Writing.{request_head}
use Rattle.requests.specs.Judge as Judge
use Rattle.requests.specs.Judge.{Outcome, kept, refused}
use Rattle.requests.specs.Requests.{WrittenIn, Known, item_of}

-- a number, the failed ID, whether the second request is at fault, and the length of what was written
pub record Told : Type 0 where
  pub number : ℕ
  pub failed : ℕ
  pub in_second : Bool
  pub request_length : ℕ

-- the answer, and the buffer afterwards
pub record After : Type 0 where
  pub answer : Told
  pub buffer : List ℕ

-- "the failed ID that taking gives it where all have room": what its settings come to where every one has room
abbrev pub Sound : Coding → ℕ → List ℕ → Outcome Setting (Unit {0}) → Type 0
Sound c count settings o = Judge.Judged Setting (Unit {0}) (WrittenIn c) (InRange text_limits) (λ s t. some t) Known count tt settings o

-- an FF item, which is the last setting
abbrev pub EndsRequest : List Setting → Type 0
EndsRequest [] = ⊥
EndsRequest (s ∷ []) = item_of s ≢ none
EndsRequest (s ∷ t ∷ l) = EndsRequest (t ∷ l)

-- "the true length, reserved bits of the header 0, and the coding type of both"
abbrev pub joined_bytes : Coding → ℕ → List ℕ → List ℕ
joined_bytes c count settings = start_bytes ++ (plain (carrier (4 + length settings) (coding_type c)) ++ (plain (request_head count) ++ settings))

module _ (most : ℕ) (first second buffer : List ℕ) where
  -- "A refusal writes nothing, has length 0, and says which request is at fault"
  abbrev pub stays : Bool → (number failed : ℕ) → After
  stays in_second number failed = record { answer = record { number = number; failed = failed; in_second = in_second; request_length = 0 }; buffer = buffer }

  abbrev pub writes : List ℕ → After
  writes bytes = record { answer = record { number = 0; failed = 0; in_second = false; request_length = length bytes }; buffer = written_over bytes buffer }

  -- what the settings of one of the requests come to: their fault, an FF item, or what is next
  abbrev pub Comes : Bool → (List Setting → Ladder After) → Outcome Setting (Unit {0}) → After → Type 0
  Comes in_second next (refused number failed) a = a ≡ stays in_second number failed
  Comes in_second next (kept l t) a = (EndsRequest l × (a ≡ stays in_second 4 (length l))) ⊎ ((EndsRequest l → ⊥) × Answers (next l) a)

  -- "all that is wrong with the first request"; "all that is wrong with the second in the same way"
  abbrev pub one_of : Bool → (message : List ℕ) → (Coding → List Setting → List ℕ → Ladder After) → Ladder After
  one_of in_second message next =
      rung (InSize most message → ⊥) (stays in_second 12 0)
      (rung (NothingCarried message) (stays in_second 13 0)
      (rung (OtherKind (◌≡ 0) message) (stays in_second 14 0)
      (rung (OtherVersion message) (stays in_second 1 0)
      (rung (NoRequest message) (stays in_second 4 0)
      (foot (λ a. (c : Coding) × (count : ℕ) × (settings : List ℕ) × RequestOf c count settings message
      × (o : Outcome Setting (Unit {0})) × Sound c count settings o × Comes in_second (λ l. next c l settings) o a))))))

  -- "4 for two coding types, 4 for over 255 settings together, and last 12 for a joined request over the message size"
  abbrev pub both_of : Coding → List Setting → List ℕ → Coding → List Setting → List ℕ → Ladder After
  both_of c a x d b y =
      rung (c ≢ d) (stays false 4 0)
      (rung (255 < length a + length b) (stays false 4 0)
      (rung (most < 8 + length (x ++ y)) (stays false 12 0)
      (foot (λ r. r ≡ writes (joined_bytes c (length a + length b) (x ++ y))))))

  -- "15 for the buffer; then all that is wrong with the first request"
  abbrev pub joining : Ladder After
  joining = rung (length buffer < most) (stays false 15 0) (one_of false first (λ c a x. one_of true second (λ d b y. both_of c a x d b y)))
