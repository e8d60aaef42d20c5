use Rattle.lists.proofs.Kit.{rules, arith}
use Rattle.store_check.specs.declared.checks_tables.Table.TheVariants.{Members as Of}
use Rattle.store_check.proofs.SlotChecks.{slot_empty, slot_entry, byte_shown, member_mark}
use Rattle.store_check.proofs.checks_slots.member_slot.Goals as goal

pub returns-then-s-eq0 : goal.returns-then-s-eq0
returns-then-s-eq0 c =
    slot_empty c.args.form (Of c.args.who) c.args.s.now c.requires (λ x. member_mark c.args.form c.args.s.now (omega (arith, c.requires)) c.args.who x c.if-s-eq0.true) c.is_clear.result c.is_clear.ensures

pub returns : goal.returns
returns c =
    slot_entry c.args.form (Of c.args.who) c.args.s.now (byte_shown c.args.s.now 1 c.if-s-eq0.false) c.member_ok.result c.member_ok.ensures
