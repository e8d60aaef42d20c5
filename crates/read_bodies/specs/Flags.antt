-- Contracts' words: the flags of a head, cut from its first two bytes. No promise cites these.
use Rattle.std.specs.Prelude.{ℕ, ◌/◌, ◌%◌, ◌≡◌}
use Rattle.writing.specs.declared.LineFlags.{LineFlags}
use Rattle.writing.specs.declared.GroupFlags.{GroupFlags}
use Rattle.writing.specs.declared.IndividualFlags.{IndividualFlags}
use Rattle.writing.specs.Writing.{bit}

-- "Op, encryption, emergency, priority 2, IDtype"
pub record LineFlagsAre (n : ℕ) (f : LineFlags) : Type 0 where
  pub encryption : n / 8192 % 2 ≡ bit f.encryption
  pub emergency : n / 4096 % 2 ≡ bit f.emergency
  pub priority : n / 1024 % 4 ≡ f.priority
  pub pabx : n / 512 % 2 ≡ bit f.pabx

-- "Op, attribute 2, broadcast, encryption, OVCM, emergency, priority 2"
pub record GroupFlagsAre (n : ℕ) (f : GroupFlags) : Type 0 where
  pub attribute : n / 4096 % 4 ≡ f.attribute
  pub broadcast : n / 2048 % 2 ≡ bit f.broadcast
  pub encryption : n / 1024 % 2 ≡ bit f.encryption
  pub ovcm : n / 512 % 2 ≡ bit f.ovcm
  pub emergency : n / 256 % 2 ≡ bit f.emergency
  pub priority : n / 64 % 4 ≡ f.priority

-- "Op, encryption, emergency, priority 2"
pub record IndividualFlagsAre (n : ℕ) (f : IndividualFlags) : Type 0 where
  pub encryption : n / 8192 % 2 ≡ bit f.encryption
  pub emergency : n / 4096 % 2 ≡ bit f.emergency
  pub priority : n / 1024 % 4 ≡ f.priority
