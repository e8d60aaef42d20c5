use Rattle.lists.proofs.Kit.{ℕ, ◌≤◌, refl, subst⁻¹, rules, arith}
use Rattle.working.specs.Saving.{next_text}
use Rattle.working.proofs.SaveTables.{gathers_start, gathers_room, gathers_more, gathers_end}
use Rattle.working.proofs.saving.save_area.Goals as goal

pub loop-k-init : goal.loop-k-init
loop-k-init c = (omega arith, refl, λ h. gathers_start _ _ _)

pub save_run_texts-place-requires : goal.save_run_texts-place-requires
save_run_texts-place-requires c =
    let r = c.run_of-run in
    let v = c.loop-k.invariant in
    let p = c.requires in
    (r.ensures.1, omega (arith, r.ensures.2.slots, p.0, p.1.fits), omega (arith, v.0, v.1))

pub loop-k-preserved : goal.loop-k-preserved
loop-k-preserved c =
    let r = c.run_of-run in
    let t = c.save_run_texts-place in
    let v = c.loop-k.invariant in (
      omega (arith, t.ensures.0, v.1),
      search rules,
      λ h.
          let g = v.2 h in
          let f = gathers_room g (omega arith) r.result r.ensures.0 h in
          gathers_more g (omega arith) r.result r.ensures.0 h t.result t.new.area (search rules) (t.ensures.1 (subst⁻¹ (λ (j : ℕ). next_text r.result c.args.work.now c.loop-k.place ≤ j) v.1 f)),
    )

pub returns : goal.returns
returns c = λ h. gathers_end (c.loop-k.invariant.2 h) (omega arith) c.wipe.new.s c.wipe.ensures
