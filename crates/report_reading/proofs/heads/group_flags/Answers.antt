use Rattle.lists.proofs.Kit.{rules, ◌/◌, refl}
use Rattle.settings.proofs.BodyLaws.{flag_bit}
use Rattle.report_reading.proofs.heads.group_flags.Goals as goal

pub returns : goal.returns
returns c =
    let n = c.args.n in
    record {
      attribute = refl;
      broadcast = flag_bit (n / 512) c.flag.result c.flag.ensures;
      encryption = flag_bit (n / 256) c.flag-2.result c.flag-2.ensures;
      ovcm = flag_bit (n / 128) c.flag-3.result c.flag-3.ensures;
      emergency = flag_bit (n / 64) c.flag-4.result c.flag-4.ensures;
      priority = refl;
    }
