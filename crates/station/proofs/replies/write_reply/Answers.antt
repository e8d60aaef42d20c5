use Rattle.station.proofs.ReplyLaws.{size_most, room_after, reply_copied}
use Rattle.lists.proofs.Kit.{arith}
use Rattle.station.proofs.replies.write_reply.Goals as goal

pub slice_bounds-copy-end-3 : goal.slice_bounds-copy-end-3
slice_bounds-copy-end-3 c = room_after c.copy.new.dst c.args.reply.now _ c.copy.auto.dst (size_most c.hash_size-size.ensures) (omega arith)

pub slice_bounds-copy-end-4 : goal.slice_bounds-copy-end-4
slice_bounds-copy-end-4 c = omega (arith, size_most c.hash_size-size.ensures)

pub returns : goal.returns
returns c = λ l h ok e. reply_copied c.args.res c.args.failed c.hash_size-size.result h c.args.hash.now c.args.reply.now c.copy.new.dst c.copy-2.new.dst (omega arith) (omega arith) ok e (omega arith) c.hash_size-size.ensures l c.copy.ensures c.copy-2.ensures
