use Rattle.working.proofs.SaveLaws.{head_saved}
use Rattle.working.proofs.saving.save_head.Goals as goal

pub returns : goal.returns
returns c =
    head_saved c.args.head.now c.args.own.now c.copy_padded.new.dst c.args.units c.requires c.copy_padded.ensures
