-- A packed answer by its case. Assumes nothing.
use Rattle.lists.proofs.Kit.{ℕ, ◌<◌, ◌≡◌, sym, subst, arith}
use Rattle.station.specs.Answers.{Said as Told, refused_with}
use Rattle.packing.specs.Packing.{Packs}

-- ---- judging and committing

-- a number that packs one case packs the answer that is that case
pub said_case : {A : Type 0} (say : A → Told) (a b : A) (r : ℕ) → a ≡ b → Packs (say b) r → Packs (say a) r
said_case say a b r e p = subst (λ x. Packs (say x) r) (sym e) p

-- the number alone, where nothing was touched
pub packed_refusal : (n r : ℕ) → r ≡ n → r < 256 → Packs (refused_with n) r
packed_refusal n r e h = record { number = omega arith; failed = omega arith; reply_length = omega arith; bits = omega arith }
