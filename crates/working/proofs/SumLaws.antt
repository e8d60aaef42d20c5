-- What is counted in a working copy is what the texts of its tables take. Assumes nothing.
use Rattle.lists.proofs.Kit.{ℕ, ◌≤◌, ◌<◌, ◌≡◌, refl, ap, ◌∙◌, List, [], arith, get_or, length}
use Rattle.writing.specs.declared.Kind.{Kind}
use Rattle.writing.specs.declared.Kind.TheVariants.{GroupContacts, IndividualContacts, Lines, Key, QuickTexts, Home, Channels, System, StatusTexts, Group, Individual, LineSlot, Last}
use Rattle.tables.specs.declared.limits.Limits.{Limits}
use Rattle.tables.specs.Owns.{own}
use Rattle.tables.specs.Store.{Works, TableSum, WorkSum}
use Rattle.tables.specs.Tables.{Tables}
use Rattle.shared_texts.specs.declared.Run.{Run}
use Rattle.shared_texts.specs.Moves.{run_sum, work_sum}
use Rattle.tables.specs.Texts.{text_tables, table_sum, text_size}
use Rattle.tables.specs.Forms.{Roomy}
use Rattle.tables.proofs.LayoutLaws.{placed_length}
use Rattle.shared_texts.proofs.WorkLaws.{work_sum_is, table_sum_is}
use Rattle.working.specs.Runs.{run_of, text_number}
use Rattle.working.specs.Saving.{SumIs}

-- a working copy has the limits' size
pub works_length : (lim : Limits) (t : Tables) (w : List ℕ) → Roomy lim → Works lim t w → length w ≡ lim.size
works_length lim t w roomy (ok, b) = ap length b ∙ placed_length lim t roomy ok

-- a kind without texts takes nothing
pub none_sum : (k : Kind) → 8 ≤ text_number k → (t : Tables) → 0 ≡ text_size k (own k t)
none_sum GroupContacts h t = absurd (omega arith)
none_sum IndividualContacts h t = absurd (omega arith)
none_sum Lines h t = absurd (omega arith)
none_sum Key h t = refl
none_sum QuickTexts h t = absurd (omega arith)
none_sum Home h t = refl
none_sum Channels h t = refl
none_sum System h t = refl
none_sum StatusTexts h t = absurd (omega arith)
none_sum Group h t = absurd (omega arith)
none_sum Individual h t = absurd (omega arith)
none_sum LineSlot h t = absurd (omega arith)
none_sum Last h t = refl

-- the table of another has its number
pub numbered : (k : Kind) → text_number k < 8 → (t : Tables) → table_sum (get_or (text_tables t) (text_number k) []) ≡ text_size k (own k t)
numbered GroupContacts h t = refl
numbered IndividualContacts h t = refl
numbered Lines h t = refl
numbered Key h t = absurd (omega arith)
numbered QuickTexts h t = refl
numbered Home h t = absurd (omega arith)
numbered Channels h t = absurd (omega arith)
numbered System h t = absurd (omega arith)
numbered StatusTexts h t = refl
numbered Group h t = refl
numbered Individual h t = refl
numbered LineSlot h t = refl
numbered Last h t = absurd (omega arith)

module _ (lim : Limits) (w : List ℕ) (r : ℕ) where
  -- the sum of one table
  pub table_summed : (k : Kind) (n : ℕ) (x : Run) → n ≡ text_number k → n < 8 → x ≡ run_of lim n → r ≡ run_sum w x → TableSum lim k w r
  table_summed k n x i h e d t roomy (ok, b) =
      let g : text_number k < 8 = omega arith in
      d ∙ ap (run_sum w) (e ∙ ap (run_of lim) i) ∙ ap (λ (v : List ℕ). run_sum v (run_of lim (text_number k))) b
      ∙ table_sum_is lim 0 t ok (text_number k) g ∙ numbered k g t

  -- and of all
  pub work_summed : SumIs lim w r → WorkSum lim w r
  unfolding SumIs
  work_summed d t roomy (ok, b) = d ∙ ap (work_sum lim) b ∙ work_sum_is lim 0 t ok
