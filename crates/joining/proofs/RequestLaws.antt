-- What a request's settings come to where every one has room, and the joined request as one. Assumes nothing.
use Rattle.lists.proofs.Kit.{ℕ, suc, ◌+◌, ◌≤◌, ◌<◌, ◌≡◌, refl, sym, subst, ◌≢◌, List, [], ◌∷◌, ◌++◌, none, some, option_some_ne_none, arith, length}
use Rattle.lists.specs.Bytes.{Bytes}
use Rattle.lists.specs.Every.{All}
use Rattle.writing.specs.declared.Coding.{Coding}
use Rattle.writing.specs.declared.Coding.TheVariants.{Unicode16, EightBit}
use Rattle.writing.specs.Canonical.{plain}
use Rattle.writing.specs.Carrier.{start_bytes, carrier, Carries, coding_type, RequestOf}
use Rattle.writing.specs.Fields.{bits_of}
use Rattle.writing.specs.Ranges.{text_limits, InRange}
use Rattle.writing.specs.Settings.{Setting, group_contacts, individual_contacts, lines, key, quick_texts, home, channels, system, status_texts, group, individual, line_slot, last}
use Rattle.writing.specs.Writing.{WrittenAll, request_head}
use Rattle.writing.proofs.CanonicalLaws.{plain_shows, shows_fits}
use Rattle.read_fields.proofs.Parts.{bytes_left}
use Rattle.read_carrier.proofs.KindLaws.{bytes_right}
use Rattle.read_carrier.proofs.TrueLength.{plain_carries}
use Rattle.requests.specs.Judge as Judge
use Rattle.requests.specs.Judge.{Outcome, kept, refused, done, step, taken, over, fault}
use Rattle.requests.specs.Requests.{WrittenIn, Known, item_of}
use Rattle.requests.proofs.RunLaws.{not_ff}
use Rattle.laws_taking.proofs.Determined.{one_writing, type_first}
use Rattle.laws_taking.proofs.JudgeLaws.{determined, refused_number}
use Rattle.joining.specs.Joins.{Sound, EndsRequest, joined_bytes}

-- ---- the settings

module _ (c : Coding) where
  -- SOUND DETERMINED: they come to one thing
  pub sound_determined : {n : ℕ} {bs : List ℕ} {a b : Outcome Setting (Unit {0})} → Sound c n bs a → Sound c n bs b → a ≡ b
  sound_determined p q = determined Setting (Unit {0}) (WrittenIn c) (InRange text_limits) (λ s t. some t) Known (one_writing c) (type_first c) p q

  -- a refusal's number is 2 to 4, and its failed ID at most the count
  pub sound_refused : {n number failed : ℕ} {bs : List ℕ} → Sound c n bs (refused number failed) → (2 ≤ number) × (number ≤ 4) × (failed ≤ n)
  sound_refused {n} {number} {failed} {bs} j =
      let (a, b) = refused_number Setting (Unit {0}) (WrittenIn c) (InRange text_limits) (λ s t. some t) Known (one_writing c) (type_first c) j in
      (a, b, most j)
    where
      most : {k i : ℕ} → Sound c n bs (refused k i) → i ≤ n
      most (over e q) = omega arith
      most (fault left e q f) = omega arith

-- a setting that is no FF item is in range wherever it stands
pub anywhere : (s : Setting) (n k : ℕ) → InRange text_limits n s → (item_of s ≢ none → ⊥) → InRange text_limits k s
anywhere (group_contacts o f es) n k i h = i
anywhere (individual_contacts o f es) n k i h = i
anywhere (lines o f es) n k i h = i
anywhere (key t f) n k i h = i
anywhere (quick_texts o es) n k i h = i
anywhere (home x) n k i h = i
anywhere (channels o ns) n k i h = i
anywhere (system x) n k i h = i
anywhere (status_texts o es) n k i h = i
anywhere (group o f x) n k i h = i
anywhere (individual o f x) n k i h = i
anywhere (line_slot o f x) n k i h = i
anywhere (last f x) n k i h = absurd (h (λ e. option_some_ne_none _ e))

module _ (c : Coding) where
  abbrev Runs : ℕ → List ℕ → List Setting → List ℕ → Type 0
  Runs n bs l rest = Judge.Runs Setting (Unit {0}) (WrittenIn c) (InRange text_limits) (λ s t. some t) Known n tt bs l tt rest

  -- settings that run to the end are written one after the other
  runs_written : {n : ℕ} {bs : List ℕ} {l : List Setting} → Runs n bs l [] → WrittenAll c l bs
  runs_written done = refl
  runs_written (step {w = w} {r = r} p x i a q) = (w, r, p, x.0, runs_written q)

  -- without an FF item they are in range with more behind them
  runs_ranged : {n : ℕ} {bs rest : List ℕ} {l : List Setting} → Runs n bs l rest → (EndsRequest l → ⊥) → All (InRange text_limits 1) l
  runs_ranged done h = tt
  runs_ranged (step {n} {s = s} p x i a done) h = (anywhere s n 1 i h, tt)
  runs_ranged (step {n} {s = s} p x i a (step {w = w} {s = y} e z j b q)) h =
      (anywhere s n 1 i (λ never. never (not_ff s n i (omega arith))), runs_ranged (step {w = w} {s = y} e z j b q) h)

  pub sound_written : {n : ℕ} {bs : List ℕ} {l : List Setting} → Sound c n bs (kept l tt) → (EndsRequest l → ⊥) → WrittenAll c l bs × All (InRange text_limits 1) l
  sound_written (taken e q) h = (runs_written q, runs_ranged q h)

  -- and back, in a message of bytes
  written_runs : (l : List Setting) (bs : List ℕ) → Bytes bs → WrittenAll c l bs → All (InRange text_limits 1) l → Runs (length l) bs l []
  written_runs [] bs b e i = subst (λ (z : List ℕ). Runs 0 z [] []) (sym e) done
  written_runs (s ∷ l) bs b (w, r, p, x, y) (i, j) =
      let d : Bytes (w ++ r) = subst Bytes p b in
      step {w = w} {s = s} p (x, bytes_left w r d) (anywhere s 1 (length l) i (λ h. h (not_ff s 1 i (omega arith)))) refl (written_runs l r (bytes_right w r d) y j)

  pub written_sound : {bs : List ℕ} (l : List Setting) → Bytes bs → WrittenAll c l bs → All (InRange text_limits 1) l → Sound c (length l) bs (kept l tt)
  written_sound {bs} l b w i = taken refl (written_runs l bs b w i)

-- settings that are in range with more behind them end with no FF item
pub ranged_no_ff : (l : List Setting) → All (InRange text_limits 1) l → EndsRequest l → ⊥
ranged_no_ff [] i h = h
ranged_no_ff (s ∷ []) (i, j) h = h (not_ff s 1 i (omega arith))
ranged_no_ff (s ∷ t ∷ l) (i, j) h = ranged_no_ff (t ∷ l) j h

-- ---- the request

-- at most 255 settings are counted
pub count_small : {c : Coding} {n : ℕ} {s m : List ℕ} → RequestOf c n s m → n < 256
count_small {n} r = (shows_fits (request_head n) (bits_of r.counted.head) r.counted.says).1.1.0

coding_small : (c : Coding) → coding_type c < 16
coding_small Unicode16 = omega arith
coding_small EightBit = omega arith

-- JOINED REQUEST: what joining writes is the request of so many settings in these bytes
pub joined_request : (c : Coding) (n : ℕ) (z : List ℕ) → 1 ≤ n → n < 256 → 4 + length z < 65536 → RequestOf c n z (joined_bytes c n z)
joined_request c n z some_one few l =
    let ds : List ℕ = plain (request_head n) ++ z in
    let e : 2 + length ds ≡ 4 + length z = let k : length ds ≡ suc (suc (length z)) = refl in omega arith in
    record {
      data_bytes = ds;
      carried = subst (λ (i : ℕ). Carries (coding_type c) ds (start_bytes ++ (plain (carrier i (coding_type c)) ++ ds))) e (plain_carries (coding_type c) ds (coding_small c) (omega arith)).0;
      counted = record { head = plain (request_head n); parts = refl; says = plain_shows (request_head n) 2 refl (omega arith, (omega arith, (few, tt))); some_setting = some_one };
    }
