use Rattle.lists.proofs.Kit.{◌/◌, refl}
use Rattle.settings.proofs.BodyLaws.{flag_bit}
use Rattle.read_bodies.proofs.flags.individual_flags.Goals as goal

pub returns : goal.returns
returns c =
    record { encryption = flag_bit (c.args.n / 8192) c.flag.result c.flag.ensures; emergency = flag_bit (c.args.n / 4096) c.flag-2.result c.flag-2.ensures; priority = refl }
