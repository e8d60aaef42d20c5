use Rattle.lists.proofs.Kit.{rules, sym, ◌∙◌, true≢false}
use Rattle.tables.proofs.AnswerLaws.{granted}
use Rattle.store_check.specs.declared.forms.Form.TheVariants.{Placed}
use Rattle.store_check.specs.declared.checks_tables.Table.TheVariants.{Channels}
use Rattle.store_check.proofs.SlotChecks.{slot_none, slot_entry}
use Rattle.store_check.proofs.checks_slots.channel_slot.Goals as goal

pub returns-then-is_zeros : goal.returns-then-is_zeros
returns-then-is_zeros c = granted (slot_none Placed Channels c.args.s.now c.requires (sym c.is_zeros.ensures ∙ c.if-is_zeros.true))

pub returns : goal.returns
returns c = slot_entry Placed Channels c.args.s.now (λ z. true≢false (sym z ∙ sym c.is_zeros.ensures ∙ c.if-is_zeros.false)) c.channel_ok.result c.channel_ok.ensures
