use Rattle.lists.proofs.Kit.{rules, ◌/◌, refl}
use Rattle.settings.proofs.BodyLaws.{flag_bit}
use Rattle.report_reading.proofs.heads.individual_flags.Goals as goal

pub returns : goal.returns
returns c =
    let n = c.args.n in
    record {
      encryption = flag_bit (n / 8) c.flag.result c.flag.ensures;
      emergency = flag_bit (n / 4) c.flag-2.result c.flag-2.ensures;
      priority = refl;
    }
