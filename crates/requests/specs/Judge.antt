-- What becomes of a request's settings, stated from the writing alone: document 01, "Order for a message". Over any settings, tables and writing.
use Rattle.std.specs.Prelude.{◌≡◌, List, [], ◌∷◌, ◌++◌, ℕ, suc, ◌+◌, length}
use Rattle.std.proofs.Math.Option.{Option, none, some}

-- what a request comes to: its settings and the tables that they leave, or the number and the failed ID
pub data Outcome (Setting Tables : Type 0) : Type 0 where
  kept : List Setting → Tables → Outcome Setting Tables
  refused : (number failed : ℕ) → Outcome Setting Tables

module _ (Setting Tables : Type 0)
    (Written : Setting → List ℕ → Type 0)  -- these bytes are the setting's, reserved bits aside
    (InRange : ℕ → Setting → Type 0)  -- how many settings are still counted after it, and the setting
    (apply : Setting → Tables → Option Tables)  -- none: no room
    (known : ℕ → Type 0)  -- the type bytes
  where
    -- From the tables `t`, with `n` settings counted: the settings `l` stand at the start of `bs`, in range and with
    -- room in turn. They leave the tables `u` and the bytes `rest`.
    pub data Runs : ℕ → Tables → List ℕ → List Setting → Tables → List ℕ → Type 0 where
      done : {n : ℕ} {t : Tables} {bs : List ℕ} → Runs n t bs [] t bs
      step : {n : ℕ} {t t' u : Tables} {bs w r rest : List ℕ} {s : Setting} {l : List Setting}
          → bs ≡ w ++ r → Written s w → InRange n s → apply s t ≡ some t' → Runs n t' r l u rest
          → Runs (suc n) t bs (s ∷ l) u rest

    -- what is at fault where the next setting should stand: 4 with no type byte, 3 with an unknown one, 4 where no setting
    -- in range is written there, and 2 where one is and has no room
    pub data Fault (left : ℕ) (t : Tables) : List ℕ → ℕ → Type 0 where
      missing : Fault left t [] 4
      unknown : {b : ℕ} {bs : List ℕ} → (known b → ⊥) → Fault left t (b ∷ bs) 3
      field : {b : ℕ} {bs : List ℕ} → known b
          → ((s : Setting) (w r : List ℕ) → b ∷ bs ≡ w ++ r → Written s w → InRange left s → ⊥) → Fault left t (b ∷ bs) 4
      room : {b : ℕ} {bs w : List ℕ} {s : Setting} (r : List ℕ)
          → b ∷ bs ≡ w ++ r → Written s w → InRange left s → apply s t ≡ none → Fault left t (b ∷ bs) 2

    -- what a request of `n` settings in the bytes `bs` comes to
    pub data Judged (n : ℕ) (t : Tables) (bs : List ℕ) : Outcome Setting Tables → Type 0 where
      taken : {l : List Setting} {u : Tables} → length l ≡ n → Runs n t bs l u [] → Judged n t bs (kept l u)
      over : {l : List Setting} {u : Tables} {b : ℕ} {rest : List ℕ}
          → length l ≡ n → Runs n t bs l u (b ∷ rest) → Judged n t bs (refused 4 0)
      fault : {l : List Setting} {u : Tables} {rest : List ℕ} (left : ℕ) {number : ℕ}
          → length l + suc left ≡ n → Runs n t bs l u rest → Fault left u rest number
          → Judged n t bs (refused number (length l + 1))
