-- Dialled numbers and addresses: document 01, "Numbers, channels, screen"; GA/T 1056-2013, 6 and 7.
use Rattle.std.specs.Prelude.{ℕ, ◌+◌, ◌*◌, ◌-◌, ◌≤◌, ◌≡◌}

-- "Individual: FIN 20 to 41, IN 200 to 899: (FIN-20)x700 + IN-200 + 1; FIN 42 to 89, IN 200 to 549: (FIN-42)x350 + IN-200 + 15401"
pub data IndividualShort (FIN IN short : ℕ) : Type 0 where
  of_700 : 20 ≤ FIN → FIN ≤ 41 → 200 ≤ IN → IN ≤ 899 → short ≡ (FIN - 20) * 700 + (IN - 200) + 1 → IndividualShort FIN IN short
  of_350 : 42 ≤ FIN → FIN ≤ 89 → 200 ≤ IN → IN ≤ 549 → short ≡ (FIN - 42) * 350 + (IN - 200) + 15401 → IndividualShort FIN IN short

-- "Group: FGN 20 to 89, GN 900 to 999: (FGN-20)x100 + GN-900 + 1"
pub data GroupShort (FGN GN short : ℕ) : Type 0 where
  of_100 : 20 ≤ FGN → FGN ≤ 89 → 900 ≤ GN → GN ≤ 999 → short ≡ (FGN - 20) * 100 + (GN - 900) + 1 → GroupShort FGN GN short

-- "ID = (NP - 328) x 32768 + 1048576 + short address, NP 328 to 806"; dialled as eight digits: NP three, fleet two, member three
pub record Numbered (Short : ℕ → ℕ → ℕ → Type 0) (dialled ID : ℕ) : Type 0 where
  pub NP : ℕ
  pub fleet : ℕ
  pub member : ℕ
  pub short : ℕ
  pub from_328 : 328 ≤ NP
  pub to_806 : NP ≤ 806
  pub in_plan : Short fleet member short
  pub eight_digits : dialled ≡ NP * 100000 + fleet * 1000 + member
  pub address : ID ≡ (NP - 328) * 32768 + 1048576 + short

-- the dialled number is in the individual plan, and this is its address
abbrev pub Individual : ℕ → ℕ → Type 0
Individual = Numbered IndividualShort

-- the dialled number is in the group plan, and this is its address
abbrev pub Group : ℕ → ℕ → Type 0
Group = Numbered GroupShort
