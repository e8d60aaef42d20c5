use Rattle.lists.proofs.Kit.{◌/◌, refl}
use Rattle.settings.proofs.BodyLaws.{flag_bit}
use Rattle.read_bodies.proofs.flags.group_flags.Goals as goal

pub returns : goal.returns
returns c =
    record { attribute = refl; broadcast = flag_bit (c.args.n / 2048) c.flag.result c.flag.ensures; encryption = flag_bit (c.args.n / 1024) c.flag-2.result c.flag-2.ensures; ovcm = flag_bit (c.args.n / 512) c.flag-3.result c.flag-3.ensures; emergency = flag_bit (c.args.n / 256) c.flag-4.result c.flag-4.ensures; priority = refl }
