use Rattle.plain_rows.proofs.NameLaws.{named_absent, named_hidden, named_text, named_empty, named_line, named_group, named_individual}
use Rattle.plain_rows.proofs.names.name_found.Goals as goal

-- `plain_rows::names::name_found` meets its contract. Assumes nothing.
pub returns-in_default : goal.returns-in_default
returns-in_default c = let a = c.args in named_absent a.row a.found c.in_default.is

pub returns-then-put : goal.returns-then-put
returns-then-put c = let a = c.args in named_hidden a.row a.found _ c.in-Some.is c.if-put.true

pub returns-then-text-ne0 : goal.returns-then-text-ne0
returns-then-text-ne0 c =
    let a = c.args in
    named_text a.row a.found _ c.in-Some.is c.if-put.false c.if-text-ne0.true

pub returns-in-Line : goal.returns-in-Line
returns-in-Line c =
    let a = c.args in
    named_line a.row a.found _ c.in-Some.is c.if-put.false c.if-text-ne0.false c.in-Line.in-Line-own.keys1

pub returns-in-Group : goal.returns-in-Group
returns-in-Group c =
    let a = c.args in
    named_group a.row a.found _ c.in-Some.is c.if-put.false c.if-text-ne0.false c.address_of.result c.address_of.ensures c.in-Group.in-Group-own.keys2

pub returns-in-Individual : goal.returns-in-Individual
returns-in-Individual c =
    let a = c.args in
    named_individual a.row a.found _ c.in-Some.is c.if-put.false c.if-text-ne0.false c.address_of-in-Individual.result c.address_of-in-Individual.ensures c.in-Individual.in-Individual-own.keys3

pub returns-in_default-row : goal.returns-in_default-row
returns-in_default-row c =
    let a = c.args in
    named_empty a.row a.found _ c.in-Some.is c.if-put.false c.if-text-ne0.false c.in_default-row.in_default-row-own.keys4
