-- Loading and saving by form: where texts have places of their own the bytes are copied, and where they share an area they are moved. Assumes nothing.
use Rattle.lists.proofs.Kit.{ℕ, ◌*◌, ◌≤◌, ◌<◌, ◌≡◌, refl, sym, ap, ◌∙◌, subst, subst⁻¹, arith, Bool, true, false, ltb, ltb-true, ltb-false, List, [], ◌++◌, length, take, drop, get_or}
use Rattle.slots.proofs.Runs.{copy_whole}
use Rattle.writing.specs.declared.Kind.{Kind}
use Rattle.tables.specs.declared.limits.Limits.{Limits}
use Rattle.tables.specs.declared.limits.Texts.{Texts}
use Rattle.tables.specs.declared.limits.Texts.TheVariants.{Placed, Shared}
use Rattle.tables.specs.Allowed.{Allowed}
use Rattle.tables.specs.Forms.{laid, layout, AreaFits, Roomy}
use Rattle.tables.specs.Owns.{own}
use Rattle.tables.specs.SharedLayout.{heads_size}
use Rattle.tables.specs.Store.{Loaded, Saved}
use Rattle.tables.specs.Tables.{Tables}
use Rattle.tables.specs.Texts.{text_tables, text_sum, table_sum, text_size, TextRoom, WhereShared}
use Rattle.tables.proofs.AllowedLaws.{allowed_placed}
use Rattle.shared_texts.specs.declared.Run.{Run}
use Rattle.shared_texts.specs.Shared.{SharedRoomy, SharedOk, run_units}
use Rattle.shared_texts.proofs.Forms.{area_roomy, texts_ok, layout_length}
use Rattle.working.specs.Areas.{Countable, InHeads}
use Rattle.working.specs.Loading.{UnitsAre}
use Rattle.working.specs.Runs.{run_of, text_number}
use Rattle.working.specs.Working.{LoadedShared, SavedShared, StoreSum, KindSum}
use Rattle.working.proofs.LoadedLaws.{texts_counted, table_counted}
use Rattle.working.proofs.SumLaws.{works_length, none_sum, numbered}

module _ (lim : Limits) (t : Tables) (ok : Allowed lim t) where
  -- the tables' bytes in the form that the limits name
  pub in_form : (x : Texts) → lim.texts ≡ x → layout lim t ≡ laid x lim t
  in_form x e = ap (λ (y : Texts). laid y lim t) e

  -- an area has room behind the heads
  pub sized : (a : ℕ) → lim.texts ≡ Shared a → Roomy lim → SharedRoomy lim a
  sized a e room = area_roomy lim a room (subst (λ (y : Texts). AreaFits y lim) e room.area)

  -- and the texts in it
  pub roomed : (a : ℕ) → lim.texts ≡ Shared a → SharedOk lim a t
  roomed a e = texts_ok lim a t ok (subst (λ (y : Texts). TextRoom y (text_sum t)) e ok.texts)

  -- a store that holds them has the limits' size
  pub held : (store : List ℕ) → Roomy lim → store ≡ layout lim t → length store ≡ lim.size
  held store room b = ap length b ∙ layout_length lim t room ok

-- ---- loading

-- a store is copied
pub placed_loaded : (lim : Limits) → lim.texts ≡ Placed → (store work after : List ℕ) → after ≡ take (length work) store ++ drop (length store) work → Loaded lim store work after
placed_loaded lim e store work after c l t room (ok, b) =
    (allowed_placed lim t ok, c ∙ copy_whole store work (l ∙ sym (held lim t ok store room b)) ∙ b ∙ in_form lim t ok Placed e)

-- its texts are spread
pub shared_loaded : (lim : Limits) (a : ℕ) → lim.texts ≡ Shared a → (store work after : List ℕ) → LoadedShared lim a store work after → Loaded lim store work after
shared_loaded lim a e store work after h l t room (ok, b) =
    (allowed_placed lim t ok, h l (held lim t ok store room b) t room (sized lim t ok a e room) (roomed lim t ok a e) (b ∙ in_form lim t ok (Shared a) e))

-- ---- saving

-- a working copy is copied
pub placed_saved : (lim : Limits) → lim.texts ≡ Placed → (work store after : List ℕ) → after ≡ take (length store) work ++ drop (length work) store → Saved lim work store after
placed_saved lim e work store after c l t room ok w =
    (ok, c ∙ copy_whole work store (l ∙ sym (works_length lim t work room w)) ∙ w.1 ∙ sym (in_form lim t ok Placed e))

-- its texts are gathered
pub shared_saved : (lim : Limits) (a : ℕ) → lim.texts ≡ Shared a → (work store after : List ℕ) → SavedShared lim a work store after → Saved lim work store after
shared_saved lim a e work store after h l t room ok w =
    (ok, h l (works_length lim t work room w) t room (sized lim t ok a e room) (roomed lim t ok a e) w.1 ∙ sym (in_form lim t ok (Shared a) e))

-- ---- the sum of a store's texts

-- is not counted where each has a place of its own
pub placed_summed : (lim : Limits) → lim.texts ≡ Placed → (store : List ℕ) (r : ℕ) → StoreSum lim store r
placed_summed lim e store r t room h = subst⁻¹ (λ (x : Texts). WhereShared x (r ≡ text_sum t)) e tt

-- and is what the heads count
pub shared_summed : (lim : Limits) (a : ℕ) → lim.texts ≡ Shared a → (store : List ℕ) (r : ℕ) → (Countable lim → heads_size lim ≤ length store → UnitsAre lim store r) → StoreSum lim store (r * 2)
shared_summed lim a e store r f t room (ok, b) =
    let s = sized lim t ok a e room in
    let u = f (s.few_channels, s.few_lines) (omega (arith, s.fits, held lim t ok store room b)) in
    subst⁻¹ (λ (x : Texts). WhereShared x (r * 2 ≡ text_sum t)) e (texts_counted lim a store r t u (roomed lim t ok a e) (b ∙ in_form lim t ok (Shared a) e))

-- ---- the sum of the texts of one table

-- what is so for every area is so where texts share one
sharing : (x : Texts) (P : Type 0) → ((a : ℕ) → x ≡ Shared a → P) → WhereShared x P
sharing Placed P f = tt
sharing (Shared a) P f = f a refl

module _ (lim : Limits) (k : Kind) (store : List ℕ) (n : ℕ) (e : n ≡ text_number k) where
  -- a table that has no heads in a store has no texts
  pub kind_none : (InHeads lim store n 0 → ⊥) → KindSum lim k store 0
  kind_none never t room (ok, b) = sharing lim.texts (0 ≡ text_size k (own k t)) (λ a d. go a d (ltb n 8) refl)
    where
      go : (a : ℕ) → lim.texts ≡ Shared a → (c : Bool) → ltb n 8 ≡ c → 0 ≡ text_size k (own k t)
      go a d true h =
          let s = sized lim t ok a d room in
          absurd (never (record { few_channels = s.few_channels; few_lines = s.few_lines; heads = omega (arith, s.fits, held lim t ok store room b); table = ltb-true n 8 h; place = omega arith }))
      go a d false h = none_sum k (omega (arith, ltb-false n 8 h)) t

  -- KIND-SUMMED: those of another are what its heads count
  pub kind_summed : (x : Run) (r : ℕ) → n < 8 → x ≡ run_of lim n → r ≡ run_units store x.many x → KindSum lim k store (r * 2)
  kind_summed x r h i u t room (ok, b) = sharing lim.texts (r * 2 ≡ text_size k (own k t)) (λ a d.
      table_counted lim a store r t n x h i u (roomed lim t ok a d) (b ∙ in_form lim t ok (Shared a) d)
      ∙ ap (λ (j : ℕ). table_sum (get_or (text_tables t) j [])) e ∙ numbered k (omega (arith, h, e)) t)
