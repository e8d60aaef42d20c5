-- Flags that were cut from a head's first bytes are the head's own cuts. Assumes nothing.
use Rattle.lists.proofs.Kit.{ℕ, ◌*◌, ◌/◌, ◌%◌, ◌≡◌, div-div-eq-div-mul}
use Rattle.writing.specs.declared.GroupFlags.{GroupFlags}
use Rattle.writing.specs.declared.IndividualFlags.{IndividualFlags}
use Rattle.writing.specs.Writing.{bit}
use Rattle.read_bodies.specs.Flags.{GroupFlagsAre, IndividualFlagsAre}

-- a cut of what is left by a division is a cut of the whole
shifted : (n below k w : ℕ) {v : ℕ} → n / below / k % w ≡ v → n / (below * k) % w ≡ v
shifted n below k w e = rw (div-div-eq-div-mul n below k) at e

module _ (n below : ℕ) where
  pub group_shifted : {f : GroupFlags} → GroupFlagsAre (n / below) f
      → (n / (below * 4096) % 4 ≡ f.attribute) × (n / (below * 2048) % 2 ≡ bit f.broadcast) × (n / (below * 1024) % 2 ≡ bit f.encryption)
      × (n / (below * 512) % 2 ≡ bit f.ovcm) × (n / (below * 256) % 2 ≡ bit f.emergency) × (n / (below * 64) % 4 ≡ f.priority)
  group_shifted a = (
    shifted n below 4096 4 a.attribute,
    shifted n below 2048 2 a.broadcast,
    shifted n below 1024 2 a.encryption,
    shifted n below 512 2 a.ovcm,
    shifted n below 256 2 a.emergency,
    shifted n below 64 4 a.priority,
  )

  pub individual_shifted : {f : IndividualFlags} → IndividualFlagsAre (n / below) f
      → (n / (below * 8192) % 2 ≡ bit f.encryption) × (n / (below * 4096) % 2 ≡ bit f.emergency) × (n / (below * 1024) % 4 ≡ f.priority)
  individual_shifted a = (shifted n below 8192 2 a.encryption, shifted n below 4096 2 a.emergency, shifted n below 1024 4 a.priority)
