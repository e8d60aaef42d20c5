-- A carrier that states its true length, reserved bits 0, carries its data bytes. Assumes nothing.
use Rattle.lists.proofs.Kit.{ℕ, ◌+◌, ◌<◌, ◌≡◌, refl, inr, List, ◌++◌, arith, length}
use Rattle.writing.specs.Canonical.{plain}
use Rattle.writing.specs.Carrier.{start_bytes, carrier, Carries}
use Rattle.writing.proofs.CanonicalLaws.{plain_shows}

-- TRUE LENGTH: "We write .. the true length": one that has 16 bits is stated, and fits exactly
pub plain_carries : (coding : ℕ) (ds : List ℕ) → coding < 16 → 2 + length ds < 65536
    → (k : Carries coding ds (start_bytes ++ plain (carrier (2 + length ds) coding) ++ ds)) × (k.stated ≡ 2 + length ds)
plain_carries coding ds c l =
    let n : ℕ = 2 + length ds in (
      record {
        stated = n;
        header = plain (carrier n coding);
        whole = refl;
        fields = plain_shows (carrier n coding) 4 refl (l, (omega arith, (tt, (c, tt))));
        length_field = inr refl;
      },
      refl,
    )
