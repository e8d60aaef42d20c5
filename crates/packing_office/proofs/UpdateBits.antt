-- What checking and proposing an update answer, packed: one number, and one buffer; and its bits give the values back. Assumes nothing.
use Rattle.lists.proofs.Kit.{ℕ, ◌+◌, ◌*◌, ◌/◌, ◌%◌, ◌≤◌, ◌<◌, ◌≡◌, refl, sym, ap, ◌∙◌, subst, inl, inr, List, arith, length}
use Rattle.lists.specs.Ladder.{Answers}
use Rattle.writing.specs.Canonical.{side_by_side}
use Rattle.writing.specs.Writing.{bit}
use Rattle.tables.specs.declared.limits.Limits.{Limits}
use Rattle.export.specs.Exportable.{Exportable}
use Rattle.export.specs.Exported.{exported, request_bytes}
use Rattle.restore.specs.Restored.{longest}
use Rattle.restore.proofs.Requests.{exported_length, longest_fits}
use Rattle.updating.specs.declared.answers.Check.{Check}
use Rattle.updating.specs.declared.answers.Check.TheVariants.{Yes, No, FirstNotAStore, SecondNotAStore}
use Rattle.updating.specs.declared.answers.Proposal.{Proposal}
use Rattle.updating.specs.declared.answers.Proposal.TheVariants as P
use Rattle.updating.specs.Updating.{checked, checking, told, AfterProposal, proposing}
use Rattle.updating.proofs.Theorems.{checking_determined, proposing_determined}
use Rattle.packing.specs.PackedValues.{PacksFields}
use Rattle.packing.specs.Packing.{packed_export, PacksExport}
use Rattle.packing.proofs.SideBySide.{read_back}
use Rattle.packing_office.specs.PackedUpdate.{check_fields, AnswersCheck, AnswersProposal}

-- ---- an answer by its case

-- each has its bits
check_packs : (c : Check) → PacksFields (check_fields c) (side_by_side (check_fields c))
check_packs Yes = record { fits = (omega arith, (omega arith, tt)); bits = refl }
check_packs No = record { fits = (omega arith, (omega arith, tt)); bits = refl }
check_packs FirstNotAStore = record { fits = (omega arith, (omega arith, tt)); bits = refl }
check_packs SecondNotAStore = record { fits = (omega arith, (omega arith, tt)); bits = refl }

pub check_case : (x y : Check) → x ≡ y → PacksFields (check_fields x) (side_by_side (check_fields y))
check_case x y e = subst (λ (z : Check). PacksFields (check_fields z) (side_by_side (check_fields y))) (sym e) (check_packs y)

pub proposal_case : (x y : Proposal) (r : ℕ) → x ≡ y → (told y).request_length ≡ 0 → (told y).number < 256 → r ≡ (told y).number → (told x).request_length < 65536 → PacksExport (told x) r
proposal_case x y r e z s n h =
    subst (λ (w : Proposal). PacksExport (told w) r) (sym e) (record { number = s; request_length = omega (arith, z); bits = omega (arith, z, n) })

pub proposal_written : (x : Proposal) (n r : ℕ) → x ≡ P.Written n → (n < 65536 → r ≡ n) → (told x).request_length < 65536 → PacksExport (told x) (r * 65536)
proposal_written x n r e p = subst (λ (y : Proposal). (told y).request_length < 65536 → PacksExport (told y) (r * 65536)) (sym e) packs
  where
    packs : n < 65536 → PacksExport (told (P.Written n)) (r * 65536)
    packs h = record { number = omega arith; request_length = h; bits = omega (arith, p h) }

-- ---- what the calls answer

module _ (lim : Limits) (first second : List ℕ) where
  -- CHECK DETERMINED: one number
  pub check_determined : (message : List ℕ) (r q : ℕ) → AnswersCheck lim first second message r → AnswersCheck lim first second message q → r ≡ q
  check_determined message r q x y =
      x.packs.bits ∙ ap (λ (c : Check). side_by_side (check_fields c)) (checking_determined lim first second message x.answer y.answer x.allowed y.allowed) ∙ sym y.packs.bits

  module _ (buffer : List ℕ) where
    -- no proposal is longer than 16 bits say
    length_small : Exportable lim → (after : List ℕ) (x : Proposal) → Answers (proposing lim first second buffer) (record { answer = x; buffer = after }) → (told x).request_length < 65536
    length_small ok after x (inl (_, e)) = omega (arith, ap (λ (a : AfterProposal). (told a.answer).request_length) e)
    length_small ok after x (inr (_, inl (_, e))) = omega (arith, ap (λ (a : AfterProposal). (told a.answer).request_length) e)
    length_small ok after x (inr (_, inr (_, inl (_, e)))) = omega (arith, ap (λ (a : AfterProposal). (told a.answer).request_length) e)
    length_small ok after x (inr (_, inr (_, inr (_, inl (_, e))))) = omega (arith, ap (λ (a : AfterProposal). (told a.answer).request_length) e)
    length_small ok after x (inr (_, inr (_, inr (_, inr (_, p))))) =
        let e : (told x).request_length ≡ length (request_bytes (exported p.which p.wanted)) = ap (λ (a : AfterProposal). (told a.answer).request_length) p.outcome in
        let b : length (request_bytes (exported p.which p.wanted)) ≤ longest lim p.which
        = exported_length lim ok p.wanted p.asked.0 p.which in
        let l : longest lim p.which ≤ 65535 = (longest_fits lim ok p.which).1 in
        omega arith

    -- PROPOSAL PACKED: what the call answers is packed whole
    pub proposal_packed : Exportable lim → (after : List ℕ) (x : Proposal) (r : ℕ) → Answers (proposing lim first second buffer) (record { answer = x; buffer = after })
        → ((told x).request_length < 65536 → PacksExport (told x) r) → AnswersProposal lim first second buffer after r
    proposal_packed ok after x r a packs = record { answer = x; allowed = a; packs = packs (length_small ok after x a) }

    -- PROPOSAL DETERMINED: one number, and one buffer afterwards
    pub proposal_determined : (s t : List ℕ) (r q : ℕ) → AnswersProposal lim first second buffer s r → AnswersProposal lim first second buffer t q → (r ≡ q) × (s ≡ t)
    proposal_determined s t r q x y =
        let (e, d) = proposing_determined lim first second buffer x.answer y.answer s t x.allowed y.allowed in
        (x.packs.bits ∙ ap (λ (a : Proposal). packed_export (told a)) e ∙ sym y.packs.bits, d)

-- CHECK UNPACKED: shifts and masks give the values back, and no other bit is set; a proposal's are an export's
pub check_unpacked : (c : Check) (r : ℕ) → PacksFields (check_fields c) r → (r % 256 ≡ (checked c).number) × (r / 256 % 2 ≡ bit (checked c).says_yes) × (r < 512)
check_unpacked c r p =
    let ((y, (n, _)), small) = read_back (check_fields c) r p in
    (omega (arith, n), y, small)
