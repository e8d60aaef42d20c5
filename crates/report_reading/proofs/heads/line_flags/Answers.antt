use Rattle.lists.proofs.Kit.{rules, ◌/◌, refl}
use Rattle.settings.proofs.BodyLaws.{flag_bit}
use Rattle.report_reading.proofs.heads.line_flags.Goals as goal

pub returns : goal.returns
returns c =
    let n = c.args.n in
    record {
      pabx = flag_bit (n / 32768) c.flag-3.result c.flag-3.ensures;
      encryption = flag_bit (n / 16384) c.flag.result c.flag.ensures;
      emergency = flag_bit (n / 8192) c.flag-2.result c.flag-2.ensures;
      priority = refl;
    }
