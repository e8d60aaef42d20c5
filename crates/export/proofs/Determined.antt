-- Exporting answers one thing. Assumes nothing.
use Rattle.std.specs.Prelude.{Result, Ok, Err}
use Rattle.lists.proofs.Kit.{ℕ, ◌-◌, ◌≡◌, refl, sym, ap, ap₂, ◌∙◌, List, [], ◌∷◌, some, get_or}
use Rattle.lists.specs.Ladder.{Answers}
use Rattle.lists.proofs.Ladder.{one_answer}
use Rattle.lists.proofs.OneToOne.{decoded}
use Rattle.tables.specs.declared.limits.Limits.{Limits}
use Rattle.tables.specs.Tables.{Tables}
use Rattle.shared_texts.proofs.Forms.{layout_one}
use Rattle.export.specs.declared.parts.Part.{Part}
use Rattle.export.specs.declared.parts.NoExport.TheVariants.{Buffer, NotAStore, NoPart}
use Rattle.export.specs.declared.parts.NoExport.{NoExport}
use Rattle.export.specs.Exported.{part_number, exported, request_bytes}
use Rattle.export.specs.PartWriters.{part_at}
use Rattle.export.specs.Exporting.{Told, told, AfterExport, exporting, writes, Exports}
use Rattle.export.proofs.PartWriting.{at_number}

-- the number of a part says which it is
pub one_part : (p q : Part) → part_number p ≡ part_number q → p ≡ q
one_part p q e = let d : some p ≡ some q = sym (at_number p) ∙ ap part_at e ∙ at_number q in cc

-- the number of an answer says which case it is: 0, or a refusal's, counted here from 11
abbrev answer_of : Told → Result ℕ NoExport
answer_of t =
    get_or
    (Ok t.request_length ∷ get_or (Err NotAStore ∷ Ok 0 ∷ Ok 0 ∷ Ok 0 ∷ Err Buffer ∷ Err NoPart ∷ []) (t.number - 11) (Ok 0) ∷ [])
    (t.number - (t.number - 1)) (Ok 0)

answer_back : (a : Result ℕ NoExport) → answer_of (told a) ≡ a
answer_back (Ok n) = refl
answer_back (Err Buffer) = refl
answer_back (Err NotAStore) = refl
answer_back (Err NoPart) = refl

-- one number with its length, and one buffer
pub outcome_determined : (lim : Limits) (part : ℕ) (store buffer : List ℕ) (a b : AfterExport) → Answers (exporting lim part store buffer) a → Answers (exporting lim part store buffer) b → a ≡ b
outcome_determined lim part store buffer = one_answer (exporting lim part store buffer) one
  where
    one : (a b : AfterExport) → Exports lim part store buffer a → Exports lim part store buffer b → a ≡ b
    one a b x y =
        let t : x.tables ≡ y.tables = layout_one lim x.tables y.tables x.holds.0 y.holds.0 (sym x.holds.1 ∙ y.holds.1) in
        let p : x.which ≡ y.which = one_part x.which y.which (x.numbered ∙ sym y.numbered) in
        x.after ∙ ap₂ (λ (q : Part) (u : Tables). writes lim part store buffer (request_bytes (exported q u))) p t ∙ sym y.after

-- DETERMINED: the contract of exporting allows one answer of the code, and one buffer
pub export_determined : (lim : Limits) (part : ℕ) (store buffer : List ℕ) (a b : Result ℕ NoExport) (s t : List ℕ)
    → Answers (exporting lim part store buffer) (record { answer = told a; buffer = s }) → Answers (exporting lim part store buffer) (record { answer = told b; buffer = t }) → (a ≡ b) × (s ≡ t)
export_determined lim part store buffer a b s t x y =
    let e = outcome_determined lim part store buffer _ _ x y in
    (decoded told answer_of answer_back a b (ap (λ (z : AfterExport). z.answer) e), ap (λ (z : AfterExport). z.buffer) e)
