use Rattle.lists.proofs.Kit.{refl}
use Rattle.working.proofs.LoadLaws.{slot_loaded}
use Rattle.working.proofs.loading.load_exact.Goals as goal

pub returns : goal.returns
returns c = slot_loaded c.args.slot.now c.args.own.now c.args.text.now _ c.copy_padded-2.new.dst c.copy_padded.new.dst c.requires c.copy_padded.ensures refl c.copy_padded-2.ensures
