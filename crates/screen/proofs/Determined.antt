-- Two outcomes that the screen's calls allow for one store, scratch and row are equal. Assumes nothing.
use Rattle.lists.proofs.Kit.{ℕ, ◌-◌, ◌≡◌, refl, sym, ap, ap₂, ◌∙◌, subst, List, [], ◌∷◌, map, option_some_injective, get_or}
use denote.Ref.{Bor}
use Rattle.lists.specs.Ladder.{Answers}
use Rattle.lists.proofs.Ladder.{one_answer}
use Rattle.lists.proofs.OneToOne.{decoded}
use Rattle.plan.specs.Answers.{Back}
use Rattle.plan.specs.Numbers.{IndividualShort, GroupShort, Individual as IndividualPlan, Group as GroupPlan}
use Rattle.plan.proofs.AnswerLaws.{One}
use Rattle.plan.proofs.NumberLaws.{individuals, groups, one_dialled}
use Rattle.writing.specs.Settings.{Text}
use Rattle.tables.specs.declared.limits.Limits.{Limits}
use Rattle.screen.specs.declared.rows.Row.{Row}
use Rattle.screen.specs.Rows.{Caption, text, line, group, individual, caption, ascii, digits, AddressText, dialled, outside, Display, written, text_or, Displays}
use Rattle.screen.specs.declared.rows.Refusal.{Refusal}
use Rattle.screen.specs.declared.rows.Refusal.TheVariants.{ScratchSize, NotAStore, Absent}
use Rattle.screen.specs.declared.answers.Answer.{Answer}
use Rattle.screen.specs.declared.answers.Answer.TheVariants.{Shown, Refused}
use Rattle.screen.specs.declared.answers.Place.{Place}
use Rattle.screen.specs.declared.answers.Place.TheVariants.{Store, Scratch, Refused as NoPlace}
use Rattle.screen.specs.Screen.{AfterRow, RowPart, of_store, of_scratch, number, leaves, shows, RowShown, showing, numbering, points_to, bytes_of, PartGiven}
use Rattle.screen.proofs.AnswerLaws.{one_tables}

-- ---- one thing is shown

-- an address has one number
address_one : (Plan : ℕ → ℕ → Type 0) → One (Back Plan) → (a : ℕ) (us vs : Text) → AddressText Plan a us → AddressText Plan a vs → us ≡ vs
address_one Plan one a us vs (dialled x p e) (dialled y q d) = e ∙ ap (λ n. map ascii (digits 10 8 n)) (one a x y p q) ∙ sym d
address_one Plan one a us vs (dialled x p e) (outside n d) = absurd (n x p)
address_one Plan one a us vs (outside n e) (dialled y q d) = absurd (n y q)
address_one Plan one a us vs (outside n e) (outside k d) = e ∙ sym d

-- a text, or one number
text_or_one : (Number : Text → Type 0) → ((us vs : Text) → Number us → Number vs → us ≡ vs) → (us : Text) (d e : Display) → text_or us Number d → text_or us Number e → d ≡ e
text_or_one Number one [] d e (us, p, i) (vs, q, j) = i ∙ ap written (one us vs p q) ∙ sym j
text_or_one Number one (u ∷ us) d e p q = p ∙ sym q

-- a row shows one thing
pub shows_one : (c : Caption) (d e : Display) → Displays c d → Displays c e → d ≡ e
shows_one (text us) d e p q = p ∙ sym q
shows_one (line us ds) d e p q = text_or_one (λ ns. ns ≡ map ascii ds) (λ a b x y. x ∙ sym y) us d e p q
shows_one (group us a) d e p q = text_or_one (AddressText GroupPlan a.0) (address_one GroupPlan (one_dialled GroupShort groups) a.0) us d e p q
shows_one (individual us a) d e p q = text_or_one (AddressText IndividualPlan a.0) (address_one IndividualPlan (one_dialled IndividualShort individuals) a.0) us d e p q

-- ---- what number and part say

-- 15, 11 and 17, counted from 11
abbrev refusal_at : ℕ → Refusal
refusal_at n = get_or (NotAStore ∷ NotAStore ∷ NotAStore ∷ NotAStore ∷ ScratchSize ∷ []) (n - 11) Absent

abbrev answer_at : ℕ → Answer
answer_at n = get_or (Shown ∷ []) n (Refused (refusal_at n))

answer_back : (a : Answer) → answer_at (number a) ≡ a
answer_back Shown = refl
answer_back (Refused ScratchSize) = refl
answer_back (Refused NotAStore) = refl
answer_back (Refused Absent) = refl

-- the place of a part
abbrev part_place : RowPart → Place
part_place (of_store start bytes) = Store start bytes
part_place (of_scratch bytes) = Scratch bytes

abbrev place_of : AfterRow → Place
place_of a = get_or (part_place a.part ∷ []) a.number (NoPlace (refusal_at a.number))

place_back : (p : Place) (s : List ℕ) → place_of (leaves p s) ≡ p
place_back (Store start bytes) s = refl
place_back (Scratch bytes) s = refl
place_back (NoPlace ScratchSize) s = refl
place_back (NoPlace NotAStore) s = refl
place_back (NoPlace Absent) s = refl

scratch_back : (p : Place) (s : List ℕ) → (leaves p s).scratch ≡ s
scratch_back (Store start bytes) s = refl
scratch_back (Scratch bytes) s = refl
scratch_back (NoPlace r) s = refl

-- ---- the calls

module _ (lim : Limits) (store scratch : List ℕ) (row : Row) where
  -- what is shown of one store is one thing, whichever the scratch
  pub one_display : (other : List ℕ) (a b : AfterRow) (p : RowShown lim store scratch row a) (q : RowShown lim store other row b) → p.display ≡ q.display
  one_display other a b p q =
      let t : p.tables ≡ q.tables = one_tables lim store p.tables q.tables p.holds q.holds in
      let c : p.row_is ≡ q.row_is = option_some_injective p.row_is q.row_is (sym p.there ∙ ap (λ x. caption x row) t ∙ q.there) in
      shows_one q.row_is p.display q.display (subst (λ (x : Caption). Displays x p.display) c p.shown) q.shown

  one_shown : (a b : AfterRow) → RowShown lim store scratch row a → RowShown lim store scratch row b → a ≡ b
  one_shown a b p q =
      p.after ∙ ap₂ (λ t d. shows lim t scratch row d) (one_tables lim store p.tables q.tables p.holds q.holds) (one_display scratch a b p q) ∙ sym q.after

  -- one number, one part and one scratch afterwards
  pub shown_determined : (a b : AfterRow) → Answers (showing lim store scratch row) a → Answers (showing lim store scratch row) b → a ≡ b
  shown_determined a b p q = one_answer (showing lim store scratch row) one_shown a b p q

  -- one number
  pub number_one : (n k : ℕ) → Answers (numbering lim store scratch row) n → Answers (numbering lim store scratch row) k → n ≡ k
  number_one n k p q = one_answer (numbering lim store scratch row) (λ x y i j. i ∙ sym j) n k p q

  -- NUMBER: one answer of the code
  pub number_determined : (a b : Answer) → Answers (numbering lim store scratch row) (number a) → Answers (numbering lim store scratch row) (number b) → a ≡ b
  number_determined a b p q = decoded number answer_at answer_back a b (number_one (number a) (number b) p q)

  -- PLACE: one answer of the code, and one scratch afterwards
  pub place_determined : (a b : Place) (s t : List ℕ) → Answers (showing lim store scratch row) (leaves a s) → Answers (showing lim store scratch row) (leaves b t) → (a ≡ b) × (s ≡ t)
  place_determined a b s t p q =
      let e = shown_determined (leaves a s) (leaves b t) p q in
      (sym (place_back a s) ∙ ap place_of e ∙ place_back b t, sym (scratch_back a s) ∙ ap (λ (x : AfterRow). x.scratch) e ∙ scratch_back b t)

-- PART ONE: one place, and the same bytes there
pub part_determined : (lim : Limits) (store scratch : Bor (List ℕ)) (row : Row) (r q : Bor (List ℕ)) → PartGiven lim store scratch row r → PartGiven lim store scratch row q
    → (r.ref_ptr.0 ≡ q.ref_ptr.0) × (r.ref_ptr.1 ≡ q.ref_ptr.1) × (r.now ≡ q.now)
part_determined lim store scratch row r q x y =
    let e : x.after ≡ y.after = shown_determined lim store.now scratch.now row x.after y.after x.allowed y.allowed in (
      x.block ∙ ap (λ (a : AfterRow). (points_to a.part store scratch).0) e ∙ sym y.block,
      x.offset ∙ ap (λ (a : AfterRow). (points_to a.part store scratch).1) e ∙ sym y.offset,
      x.bytes ∙ ap (λ (a : AfterRow). bytes_of a.part store.now a.scratch) e ∙ sym y.bytes,
    )
