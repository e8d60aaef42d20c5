-- Settings run on a working copy of part of the tables, with an area that the texts of the others leave. Assumes nothing.
use Rattle.lists.proofs.Kit.{ℕ, ◌+◌, ◌-◌, ◌≤◌, ◌≡◌, refl, sym, ap, ◌∙◌, subst, subst₂, List, Bool, true, false, arith, drop}
use Rattle.std.specs.Prelude.{Result, Ok, Err}
use Rattle.writing.specs.declared.Coding.{Coding}
use Rattle.writing.specs.declared.Kind.{Kind}
use Rattle.writing.specs.declared.LastFlags.{LastFlags}
use Rattle.writing.specs.Carrier.{result_number}
use Rattle.writing.specs.Settings.{Setting}
use Rattle.tables.specs.declared.limits.Limits.{Limits}
use Rattle.tables.specs.declared.limits.Texts.{Texts}
use Rattle.tables.specs.declared.limits.Texts.TheVariants.{Shared}
use Rattle.tables.specs.Allowed.{Allowed}
use Rattle.tables.specs.Forms.{Roomy, AreaFits}
use Rattle.tables.specs.Layout.{placed_layout}
use Rattle.tables.specs.Limits.{placed}
use Rattle.tables.specs.Owns.{own}
use Rattle.tables.specs.SharedLayout.{shared_size}
use Rattle.tables.specs.Store.{Works}
use Rattle.tables.specs.Tables.{Tables}
use Rattle.tables.specs.Texts.{text_sum, text_size, TextRoom}
use Rattle.tables.proofs.AllowedLaws.{OwnOk, own_ok, all_ok, allowed_placed, allowed_within}
use Rattle.shared_texts.proofs.Sums.{size_part}
use Rattle.working.specs.Parts.{copied?, part_of}
use Rattle.working.proofs.CopyLaws.{part_allowed}
use Rattle.requests.specs.declared.run.Fault.{Fault as RunFault}
use Rattle.requests.specs.Judge.{Outcome, kept, refused}
use Rattle.requests.specs.Parts.{OnlyOf, with_area, PartRan, PartFrom}
use Rattle.requests.specs.Requests.{Judged, last_item}
use Rattle.requests.specs.Running.{Ran, RunFrom}
use Rattle.requests.proofs.PartLaws.{part_own, part_sum, Beside, Stay, stay_joined, Lifted, judged_too}

-- how large the area is does not show in a working copy
area_layout : (lim : Limits) (b : ℕ) (t : Tables) → placed_layout (with_area lim b) t ≡ placed_layout lim t
unfolding placed_layout
area_layout lim b t = refl

-- the limits' texts share this area
area_is : (lim : Limits) (a : ℕ) → lim.texts ≡ Shared a → Roomy lim → shared_size lim a ≤ lim.size
area_is lim a e r = subst (λ (x : Texts). AreaFits x lim) e r.area

module _ (c : Coding) (lim : Limits) (k : Kind) (count : ℕ) (m : List ℕ) (at held took : ℕ) (s t : List ℕ) (was : Tables) (a : ℕ) (shared : lim.texts ≡ Shared a) (roomy : Roomy lim) (ok : Allowed lim was) (works : Works lim (part_of k was) s) (sum : held ≡ text_sum was) (took_is : took ≡ text_size k (own k was)) (only : OnlyOf c k count (drop at m)) where
  -- what the texts of the other tables take, and what they leave
  abbrev rest : ℕ
  rest = held - took

  abbrev left : ℕ
  left = a - rest

  within : text_sum was ≤ a
  within = subst (λ (x : Texts). TextRoom x (text_sum was)) shared ok.texts

  part_took : text_sum (part_of k was) ≡ took
  part_took = part_sum k was ∙ sym took_is

  split : a ≡ left + rest
  split = omega (arith, within, sum)

  beside : Beside lim k a left rest shared split was (part_of k was)
  beside = record { part = refl; sum = omega (arith, sum, part_took, took_is, size_part k was) }

  -- the run's own premises
  smaller : Roomy (with_area lim left)
  smaller = record { fits = roomy.fits; few_channels = roomy.few_channels; few_lines = roomy.few_lines; area = omega (arith, area_is lim a shared roomy) }

  placed_ok : Allowed (placed lim) (part_of k was)
  placed_ok = part_allowed lim k was (allowed_placed lim was ok)

  part_ok : Allowed (with_area lim left) (part_of k was)
  part_ok = allowed_within (with_area lim left) (part_of k was) placed_ok (omega (arith, within, sum, part_took, took_is, size_part k was))

  part_works : Works (with_area lim left) (part_of k was) s
  part_works = (placed_ok, works.1 ∙ sym (area_layout lim left (part_of k was)))

  -- each table after the run is one of the copy's or one that stayed
  joined_ok : (u w : Tables) → Beside lim k a left rest shared split u w → Stay lim k a left rest shared split was u → Allowed (with_area lim left) w → Allowed lim u
  joined_ok u w x y z = allowed_within lim u (all_ok (placed lim) u (λ j. go j (copied? k j) refl) tt) (subst (λ (x : Texts). TextRoom x (text_sum u)) (sym shared) (omega (arith, x.sum, z.texts, split)))
    where
      go : (j : Kind) (b : Bool) → copied? k j ≡ b → OwnOk (placed lim) j (own j u)
      go j true e = subst (OwnOk (placed lim) j) (ap (own j) x.part ∙ part_own k j u e) (own_ok (placed lim) w (allowed_placed (with_area lim left) w z) j)
      go j false e = subst (OwnOk (placed lim) j) (sym (y j e)) (own_ok (placed lim) was (allowed_placed lim was ok) j)

  -- GOOD: a run on the copy is one on all tables
  pub part_good : (f : LastFlags) → RunFrom c (with_area lim left) count m at took s t (Ok f) → PartRan c lim k count m at was t f
  part_good f r =
      let x = r (part_of k was) smaller part_ok part_works (sym part_took) in
      let (q, j, l) = judged_too lim k a left rest shared split c beside only x.judged in
      go x q j l
    where
      go : (x : Ran c (with_area lim left) count m at (part_of k was) t f) (q : Outcome Setting Tables) → Judged c lim count was (drop at m) q
          → Lifted lim k a left rest shared split c was (kept x.settings x.tables) q → PartRan c lim k count m at was t f
      go x (kept l u) j (e, d, y) = record {
        settings = l;
        tables = u;
        allowed = joined_ok u x.tables d y x.allowed;
        judged = j;
        holds = (part_allowed lim k u (allowed_placed lim u (joined_ok u x.tables d y x.allowed)), x.holds.1 ∙ area_layout lim left x.tables ∙ ap (placed_layout lim) d.part);
        joined = stay_joined lim k a left rest shared split was u y;
        flags = x.flags ∙ ap (λ (l : List Setting). (last_item l).flags) e;
      }
      go x (refused number failed) j l = absurd l

  -- BAD: and so is a fault
  pub part_bad : (number failed : ℕ) → Judged c (with_area lim left) count (part_of k was) (drop at m) (refused number failed) → Judged c lim count was (drop at m) (refused number failed)
  part_bad number failed z =
      let (q, j, l) = judged_too lim k a left rest shared split c beside only z in
      go q j l
    where
      go : (q : Outcome Setting Tables) → Judged c lim count was (drop at m) q → Lifted lim k a left rest shared split c was (refused number failed) q → Judged c lim count was (drop at m) (refused number failed)
      go (kept l u) j x = absurd x
      go (refused n g) j (d, e) = subst₂ (λ (x y : ℕ). Judged c lim count was (drop at m) (refused x y)) (sym d) (sym e) j

-- PART-FROM: what the run with these limits answers is what taking the settings on the copy answers
pub part_from : (c : Coding) (lim : Limits) (k : Kind) (count : ℕ) (m : List ℕ) (at held took : ℕ) (s t : List ℕ) (lim' : Limits) (run : Result LastFlags RunFault)
    → ((a : ℕ) → lim.texts ≡ Shared a → lim' ≡ with_area lim (a - (held - took))) → RunFrom c lim' count m at took s t run → PartFrom c lim k count m at held took s t run
part_from c lim k count m at held took s t lim' (Ok f) e r = λ was a shared roomy ok works sum took_is only.
    part_good c lim k count m at held took s t was a shared roomy ok works sum took_is only f (subst (λ (l : Limits). RunFrom c l count m at took s t (Ok f)) (e a shared) r)
part_from c lim k count m at held took s t lim' (Err x) e r = λ was a shared roomy ok works sum took_is only.
    part_bad c lim k count m at held took s t was a shared roomy ok works sum took_is only (result_number x.result) x.failed
    (subst (λ (l : Limits). RunFrom c l count m at took s t (Err x)) (e a shared) r (part_of k was)
    (smaller c lim k count m at held took s t was a shared roomy ok works sum took_is only) (part_ok c lim k count m at held took s t was a shared roomy ok works sum took_is only)
    (part_works c lim k count m at held took s t was a shared roomy ok works sum took_is only) (sym (part_took c lim k count m at held took s t was a shared roomy ok works sum took_is only)))
