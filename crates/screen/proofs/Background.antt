-- "A background group, in C8 or D1, gets no row on the screen (17); a response or member group does". Assumes nothing.
use Rattle.lists.proofs.Kit.{ℕ, ◌≤◌, ◌≡◌, refl, ap, ◌∙◌, ◌≢◌, inl, inr, List, [], map, cond, none, some, arith, eq-eqb, ne_eqb, length, get_or}
use denote.Ref.{Bor}
use Rattle.lists.specs.Ladder.{Answers}
use Rattle.tables.specs.declared.limits.Limits.{Limits}
use Rattle.tables.specs.Apply.{and_then}
use Rattle.tables.specs.Forms.{Roomy}
use Rattle.tables.specs.Store.{Holds}
use Rattle.tables.specs.Tables.{GroupMember, Tables}
use Rattle.shared_texts.proofs.Forms.{holds_store}
use Rattle.screen.specs.declared.rows.Refusal.{Refusal}
use Rattle.screen.specs.declared.rows.Refusal.TheVariants.{Absent}
use Rattle.screen.specs.declared.rows.Row.{Row}
use Rattle.screen.specs.declared.rows.Row.TheVariants.{Group, GroupContact}
use Rattle.screen.specs.Rows.{group, group_row, caption, judged}
use Rattle.screen.specs.Screen.{AfterRow, refusal, refused, RowShown, showing, numbering, bytes_of, PartGiven}
use Rattle.screen.proofs.AnswerLaws.{one_tables}
use Rattle.screen.proofs.Determined.{shown_determined, number_one}

-- the group stands in this row: of the slots, or of the contacts
pub data GroupIn (t : Tables) (g : GroupMember) : Row → Type 0 where
  in_slot : {n : ℕ} → get_or t.groups n none ≡ some g → GroupIn t g (Group n)
  in_contacts : {n : ℕ} → get_or (map some t.group_contacts) n none ≡ some g → GroupIn t g (GroupContact n)

-- ---- what the row shows

module _ {t : Tables} {g : GroupMember} {row : Row} (x : GroupIn t g row) where
  -- of either table the same
  as_group : caption t row ≡ group_row g
  as_group = by x
    where
      by : {r : Row} → GroupIn t g r → caption t r ≡ group_row g
      by (in_slot e) = ap (λ o. and_then o group_row) e
      by (in_contacts e) = ap (λ o. and_then o group_row) e

  -- BACKGROUND NONE: nothing stands in a background group's row
  pub background_none : g.flags.attribute ≡ 1 → caption t row ≡ none
  background_none e = as_group ∙ ap (λ b. cond b none (some (group g.text g.address))) (eq-eqb g.flags.attribute 1 e)

  -- any other stands there with its text and address
  pub group_shown : g.flags.attribute ≢ 1 → caption t row ≡ some (group g.text g.address)
  group_shown n = as_group ∙ ap (λ b. cond b none (some (group g.text g.address))) (ne_eqb g.flags.attribute 1 n)

  -- RESPONSE SHOWN: a response group
  pub response_shown : g.flags.attribute ≡ 2 → caption t row ≡ some (group g.text g.address)
  response_shown e = group_shown (λ d. omega arith)

  -- MEMBER SHOWN: and a member group
  pub member_shown : g.flags.attribute ≡ 3 → caption t row ≡ some (group g.text g.address)
  member_shown e = group_shown (λ d. omega arith)

-- ---- what the calls answer

-- a row of which nothing stands in the tables is absent, by whichever call
absent_judged : {A : Type 0} (lim : Limits) (t : Tables) (store : List ℕ) (room : ℕ) (row : Row) (refuse : Refusal → A) (There : A → Type 0)
    → Roomy lim → Holds lim t store → 36 ≤ room → caption t row ≡ none → Answers (judged lim store room row refuse There) (refuse Absent)
absent_judged lim t store room row refuse There roomy h big e =
    inr (λ l. omega arith, inr (λ n. n (holds_store lim t store roomy h), inl (λ u k. ap (λ v. caption v row) (one_tables lim store u t k h) ∙ e, refl)))

module _ (lim : Limits) (t : Tables) (g : GroupMember) (row : Row) (roomy : Roomy lim) (is : GroupIn t g row) (background : g.flags.attribute ≡ 1) where
  -- BACKGROUND REFUSED: the row of a background group in a store is 17, an empty part, and the scratch as it was
  pub background_refused : (store scratch : List ℕ) → Holds lim t store → 36 ≤ length scratch → (a : AfterRow) → Answers (showing lim store scratch row) a → a ≡ refused 17 scratch
  background_refused store scratch h big a x =
      shown_determined lim store scratch row a (refused 17 scratch) x
      (absent_judged lim t store (length scratch) row (λ r. refused (refusal r) scratch) (RowShown lim store scratch row) roomy h big (background_none is background))

  -- BACKGROUND NUMBER: the call of the number says 17 too
  pub background_number : (store scratch : List ℕ) → Holds lim t store → 36 ≤ length scratch → (n : ℕ) → Answers (numbering lim store scratch row) n → n ≡ 17
  background_number store scratch h big n x =
      number_one lim store scratch row n 17 x (absent_judged lim t store (length scratch) row refusal (λ k. k ≡ 0) roomy h big (background_none is background))

  -- BACKGROUND PART: and the call of the part gives no byte
  pub background_part : (store scratch r : Bor (List ℕ)) → Holds lim t store.now → 36 ≤ length scratch.now → PartGiven lim store scratch row r → r.now ≡ []
  background_part store scratch r h big p =
      p.bytes ∙ ap (λ (a : AfterRow). bytes_of a.part store.now a.scratch) (background_refused store.now scratch.now h big p.after p.allowed)
