use Rattle.lists.proofs.Kit.{◌/◌, refl}
use Rattle.settings.proofs.BodyLaws.{flag_bit}
use Rattle.read_bodies.proofs.flags.line_flags.Goals as goal

pub returns : goal.returns
returns c =
    record { encryption = flag_bit (c.args.n / 8192) c.flag.result c.flag.ensures; emergency = flag_bit (c.args.n / 4096) c.flag-2.result c.flag-2.ensures; priority = refl; pabx = flag_bit (c.args.n / 512) c.flag-3.result c.flag-3.ensures }
