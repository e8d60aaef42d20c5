use Rattle.lists.proofs.Kit.{ℕ, ◌≡◌, sym, ap, ◌∙◌, rules, arith, suc, ◌*◌}
use Rattle.tables.specs.Forms.{by_form}
use Rattle.tables.specs.Heads.{line_own}
use Rattle.tables.specs.Layout.{line_width}
use Rattle.tables.proofs.FormLaws.{form_most, form_times}
use Rattle.tables.proofs.list_places.line_slots.Goals as goal

pub returns : goal.returns
returns c =
    let lim = c.args.limits in
    let n = c.min-lines.result in
    let m = form_most lim.texts (n * line_width) (n * suc line_own) (omega arith) in
    let e = form_times lim.texts n line_width (suc line_own) in (
      omega (arith, m, c.by_form.ensures, c.min-lines.ensures),
      λ h. let i : n ≡ lim.lines = omega (arith, c.min-lines.ensures, h) in c.by_form.ensures ∙ sym e ∙ ap (λ (k : ℕ). k * by_form lim.texts line_width (suc line_own)) i,
    )
