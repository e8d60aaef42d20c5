-- Channels and frequencies in units of 100 Hz: document 01, "Numbers, channels, screen"; GA/T 1056-2013, 7.
use Rattle.std.specs.Prelude.{ℕ, ◌+◌, ◌*◌, ◌-◌, ◌≤◌, ◌≡◌}

-- "1 to 240, both ways 3580125 + 125(n-1); 241 to 640, transmit 3510125 + 125(n-241)"
pub data Transmits (n frequency : ℕ) : Type 0 where
  simplex : 1 ≤ n → n ≤ 240 → frequency ≡ 3580125 + 125 * (n - 1) → Transmits n frequency
  paired : 241 ≤ n → n ≤ 640 → frequency ≡ 3510125 + 125 * (n - 241) → Transmits n frequency

-- "1 to 240, both ways; 241 to 640, .. receive 100000 more"
pub data Receives (n frequency : ℕ) : Type 0 where
  both_ways : n ≤ 240 → Transmits n frequency → Receives n frequency
  above : {transmit : ℕ} → 241 ≤ n → Transmits n transmit → frequency ≡ transmit + 100000 → Receives n frequency

-- ---- an inner step: no promise cites this

-- n steps of 125 units
abbrev pub Steps : ℕ → ℕ → Type 0
Steps frequency n = frequency ≡ 125 * n
