use Rattle.lists.proofs.Kit.{rules, refl}
use Rattle.store_check.specs.declared.forms.Form.TheVariants.{Placed}
use Rattle.store_check.specs.declared.checks_tables.Table.TheVariants.{QuickTexts, StatusTexts, Members as Of, Channels, Lines}
use Rattle.store_check.proofs.TableChecks.{places_told}
use Rattle.store_check.proofs.checks_tables.placed_ok.Goals as goal

pub returns-in-QuickTexts : goal.returns-in-QuickTexts
returns-in-QuickTexts c =
    places_told Placed c.every.result c.args.s.now c.args.t QuickTexts c.in-QuickTexts.is (λ n. c.every.ensures Placed QuickTexts n refl (search rules))

pub returns-in-StatusTexts : goal.returns-in-StatusTexts
returns-in-StatusTexts c =
    places_told Placed c.every-in-StatusTexts.result c.args.s.now c.args.t StatusTexts c.in-StatusTexts.is (λ n. c.every-in-StatusTexts.ensures Placed StatusTexts n refl (search rules))

pub returns-in-Members : goal.returns-in-Members
returns-in-Members c =
    places_told Placed c.every-in-Members.result c.args.s.now c.args.t (Of c.in-Members.who) c.in-Members.is (λ n. c.every-in-Members.ensures Placed (Of c.in-Members.who) n refl (search rules))

pub returns-in-Channels : goal.returns-in-Channels
returns-in-Channels c =
    places_told Placed c.every-in-Channels.result c.args.s.now c.args.t Channels c.in-Channels.is (λ n. c.every-in-Channels.ensures Placed Channels n refl (search rules))

pub returns-in-Lines : goal.returns-in-Lines
returns-in-Lines c =
    places_told Placed c.every-in-Lines.result c.args.s.now c.args.t Lines c.in-Lines.is (λ n. c.every-in-Lines.ensures Placed Lines n refl (search rules))
