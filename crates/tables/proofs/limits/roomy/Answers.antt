use Rattle.lists.proofs.Kit.{rules, arith}
use Rattle.tables.proofs.AnswerLaws.{refused}
use Rattle.tables.proofs.StartLaws.{room_is}
use Rattle.tables.proofs.limits.roomy.Goals as goal

pub returns-then-limits-gt-COUNTED : goal.returns-then-limits-gt-COUNTED
returns-then-limits-gt-COUNTED c = refused (λ r. omega (arith, r.few_channels))

pub returns-then-limits-gt-ORDERED : goal.returns-then-limits-gt-ORDERED
returns-then-limits-gt-ORDERED c = refused (λ r. omega (arith, r.few_lines))

pub returns-then-limits-channels : goal.returns-then-limits-channels
returns-then-limits-channels c = refused (λ r. omega (arith, r.fits))

pub returns : goal.returns
returns c = room_is c.args.limits (omega arith) (omega arith) (omega arith) c.area_fits.result c.area_fits.ensures
