use Rattle.lists.proofs.Kit.{rules, arith}
use Rattle.store_check.specs.declared.forms.Form.TheVariants.{Shared}
use Rattle.store_check.specs.declared.checks_tables.Table.TheVariants.{Lines}
use Rattle.store_check.proofs.SlotChecks.{slot_empty, slot_entry, byte_shown, line_mark}
use Rattle.store_check.proofs.checks_slots.line_head.Goals as goal

pub returns-then-s-eq0 : goal.returns-then-s-eq0
returns-then-s-eq0 c =
    slot_empty Shared Lines c.args.s.now c.requires (λ x. line_mark Shared c.args.s.now (omega (arith, c.requires)) x c.if-s-eq0.true) c.is_clear.result c.is_clear.ensures

pub returns : goal.returns
returns c =
    slot_entry Shared Lines c.args.s.now (byte_shown c.args.s.now 2 c.if-s-eq0.false) c.line_head_ok.result c.line_head_ok.ensures
