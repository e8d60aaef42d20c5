use Rattle.lists.proofs.Kit.{get_or, subst⁻¹}
use Rattle.settings.proofs.TypeTableLaws.{row_at}
use Rattle.writing.specs.declared.Kind.TheVariants.{Last}
use Rattle.settings.specs.TypeTable.{kinds, BoundsAt}
use Rattle.settings.proofs.type_table.bounds_of.Goals as goal

pub returns-in_err-i : goal.returns-in_err-i
returns-in_err-i c = subst⁻¹ (BoundsAt c.args.coding c.args.b) c.from_residual.ensures c.in_err-i.ensures

pub returns : goal.returns
returns c =
    let p = c.in_ok-i in (
      get_or kinds p.i Last,
      p.ensures.1,
      c.under.ensures (get_or kinds p.i Last) (row_at p.i _ p.ensures.0),
    )
