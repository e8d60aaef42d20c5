use Rattle.std.proofs.Common.{rules, arith, ◌++◌, drop, sym, ap, subst, ◌∙◌, append_assoc, append-nil}
use Rattle.std.specs.List.{flat_map}
use Rattle.std.specs.Io.KnownBytes.{Appends}
use Rattle.std.proofs.KnownBytes.{Appends-trans}
use Rattle.printing.specs.Utf8.{characters, utf8, shown}
use Rattle.printing.proofs.TextLaws.{no_unit}
use Rattle.printing.proofs.utf8.show_text.Goals as goal

pub loop-at-preserved : goal.loop-at-preserved
loop-at-preserved g c =
    let (within, done, split, before) = c.loop-at.invariant in
    let here = c.character_at-c in
    let bytes = utf8 here.result.code in
    (search rules, done ++ bytes, append_assoc done bytes (shown (drop here.result.next c.args.units.now)) ∙ ap (λ l. done ++ flat_map utf8 l) (sym here.ensures.0) ∙ split, Appends-trans _ _ _ _ _ before c.in_ok-show_character.ensures)

pub returns : goal.returns
returns g c =
    let (within, done, split, before) = c.loop-at.invariant in
    let none = no_unit c.args.units.now c.loop-at.at (omega arith) in
    subst (Appends _ _) (sym (append-nil done) ∙ ap (λ u. done ++ flat_map utf8 (characters u)) (sym none) ∙ split) before
