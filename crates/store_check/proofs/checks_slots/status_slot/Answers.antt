use Rattle.lists.proofs.Kit.{rules, arith}
use Rattle.store_check.specs.declared.checks_tables.Table.TheVariants.{StatusTexts}
use Rattle.store_check.proofs.SlotChecks.{slot_empty, slot_entry, byte_shown, status_mark}
use Rattle.store_check.proofs.checks_slots.status_slot.Goals as goal

pub returns-then-s-eq0 : goal.returns-then-s-eq0
returns-then-s-eq0 c =
    slot_empty c.args.form StatusTexts c.args.s.now c.requires (λ x. omega (arith, status_mark c.args.form c.args.s.now (omega (arith, c.requires)) x, c.if-s-eq0.true)) c.is_clear.result c.is_clear.ensures

pub returns : goal.returns
returns c =
    slot_entry c.args.form StatusTexts c.args.s.now (byte_shown c.args.s.now 0 c.if-s-eq0.false) c.status_ok.result c.status_ok.ensures
