-- What joining answers, packed: one number and one buffer, and its bits give the values back. Assumes nothing.
use Rattle.lists.proofs.Kit.{ℕ, ◌+◌, ◌*◌, ◌/◌, ◌%◌, ◌≤◌, ◌<◌, ◌≡◌, sym, ap, ◌∙◌, subst, List, arith}
use Rattle.lists.specs.Every.{All}
use Rattle.lists.specs.Ladder.{Answers}
use Rattle.writing.specs.Canonical.{side_by_side, FitsField}
use Rattle.writing.specs.Writing.{bit}
use Rattle.tables.proofs.EntryCodes.{bit_small}
use Rattle.joining.specs.declared.answers.Fault.{Fault}
use Rattle.joining.specs.declared.answers.Join.{Join}
use Rattle.joining.specs.declared.answers.Join.TheVariants.{Written, First, Second}
use Rattle.joining.specs.Joins.{Told, After, joining}
use Rattle.joining.specs.Told.{fault_number, fault_id, told}
use Rattle.joining.proofs.Theorems.{join_determined, join_small}
use Rattle.packing.specs.PackedValues.{PacksFields, WhereFit}
use Rattle.packing.proofs.SideBySide.{read_back}
use Rattle.packing_office.specs.PackedJoin.{join_fields, AnswersJoin}

-- ---- an answer by its case

pub fault_case : (x y : Fault) (r : ℕ) → x ≡ y → r ≡ fault_id y * 256 + fault_number y → r ≡ fault_id x * 256 + fault_number x
fault_case x y r e p = p ∙ sym (ap (λ f. fault_id f * 256 + fault_number f) e)

pub join_case : (x y : Join) (r : ℕ) → x ≡ y → WhereFit (join_fields (told y)) r → WhereFit (join_fields (told x)) r
join_case x y r e p = subst (λ (z : Join). WhereFit (join_fields (told z)) r) (sym e) p

pub written_case : (x : Join) (n r : ℕ) → x ≡ Written n → (n < 65536 → r ≡ n) → WhereFit (join_fields (told x)) (r * 65536)
written_case x n r e p = join_case x (Written n) _ e (λ f. omega (arith, p f.1.0))

pub first_case : (x : Join) (f : Fault) (r : ℕ) → x ≡ First f → r ≡ fault_id f * 256 + fault_number f → WhereFit (join_fields (told x)) r
first_case x f r e p = join_case x (First f) r e (λ h. omega (arith, p))

pub second_case : (x : Join) (f : Fault) (r : ℕ) → x ≡ Second f → r ≡ fault_id f * 256 + fault_number f → WhereFit (join_fields (told x)) (4294967296 + r)
second_case x f r e p = join_case x (Second f) _ e (λ h. omega (arith, p))

-- ---- what the call answers

module _ (most : ℕ) (first second buffer : List ℕ) where
  -- JOINS: what the call answers is packed whole
  pub join_packed : most ≤ 65535 → (after : List ℕ) (x : Join) (r : ℕ) → Answers (joining most first second buffer) (record { answer = told x; buffer = after })
      → WhereFit (join_fields (told x)) r → AnswersJoin most first second buffer after r
  join_packed short after x r a packs =
      let (n, i, l) = join_small most first second buffer (record { answer = told x; buffer = after }) a in
      let f : All FitsField (join_fields (told x)) = (omega (arith, bit_small (told x).in_second), (omega (arith, l), (omega (arith, i), (omega (arith, n), tt)))) in
      record { answer = told x; allowed = a; packs = record { fits = f; bits = packs f } }

  -- JOIN DETERMINED: one number, and one buffer afterwards
  pub joins_determined : (s t : List ℕ) (r q : ℕ) → AnswersJoin most first second buffer s r → AnswersJoin most first second buffer t q → (r ≡ q) × (s ≡ t)
  joins_determined s t r q x y =
      let e = join_determined most first second buffer (record { answer = x.answer; buffer = s }) (record { answer = y.answer; buffer = t }) x.allowed y.allowed in (
        x.packs.bits ∙ ap (λ (a : After). side_by_side (join_fields a.answer)) e ∙ sym y.packs.bits,
        ap (λ (a : After). a.buffer) e,
      )

-- JOIN UNPACKED: shifts and masks give the values back, and no other bit is set
pub join_unpacked : (t : Told) (r : ℕ) → PacksFields (join_fields t) r
    → (r % 256 ≡ t.number) × (r / 256 % 256 ≡ t.failed) × (r / 65536 % 65536 ≡ t.request_length) × (r / 4294967296 % 2 ≡ bit t.in_second) × (r < 8589934592)
join_unpacked t r p =
    let ((s, (l, (i, (n, _)))), small) = read_back (join_fields t) r p in
    (omega (arith, n), i, l, s, small)
