use borrow.Author.Rules.{rules}
use mathlib.Core.Bool.{true}
use Rattle.settings.specs.declared.settings.Setting.TheVariants.{Key, QuickTexts, Home, System, StatusTexts, Group, Individual, LineSlot, Last}
use Rattle.store_apply.proofs.StoreLaws.{as_read, store_key, store_home, store_system, store_hash, store_quick, store_status, store_group, store_individual, store_line_slot, no_place}
use Rattle.store_apply.proofs.store.apply_place.Goals as goal

pub returns-in-Key : goal.returns-in-Key
returns-in-Key c =
    let a = c.args in
    let y = c.put_key in
    λ l. as_read l a.m.now a.store.now _ true a.setting (Key c.in-Key.target c.in-Key.flags) c.in-Key.is (store_key l a.m.now a.store.now y.new.region c.in-Key.target c.in-Key.flags y.ensures)

pub returns-in-QuickTexts : goal.returns-in-QuickTexts
returns-in-QuickTexts c =
    let a = c.args in
    let y = c.apply_texts in
    λ l. as_read l a.m.now a.store.now _ true a.setting (QuickTexts c.in-QuickTexts.op c.in-QuickTexts.list) c.in-QuickTexts.is (store_quick l a.m.now a.store.now y.new.region c.in-QuickTexts.op c.in-QuickTexts.list y.ensures)

pub returns-in-Home : goal.returns-in-Home
returns-in-Home c =
    let a = c.args in
    let y = c.put_home in
    λ l. as_read l a.m.now a.store.now _ true a.setting (Home c.in-Home.numbers) c.in-Home.is (store_home l a.m.now a.store.now y.new.region c.in-Home.numbers y.ensures)

pub returns-in-System : goal.returns-in-System
returns-in-System c =
    let a = c.args in
    let y = c.put_system in
    λ l. as_read l a.m.now a.store.now _ true a.setting (System c.in-System.code) c.in-System.is (store_system l a.m.now a.store.now y.new.region c.in-System.code y.ensures)

pub returns-in-StatusTexts : goal.returns-in-StatusTexts
returns-in-StatusTexts c =
    let a = c.args in
    let y = c.apply_texts-in-StatusTexts in
    λ l. as_read l a.m.now a.store.now _ true a.setting (StatusTexts c.in-StatusTexts.op c.in-StatusTexts.list) c.in-StatusTexts.is (store_status l a.m.now a.store.now y.new.region c.in-StatusTexts.op c.in-StatusTexts.list y.ensures)

pub returns-in-Group : goal.returns-in-Group
returns-in-Group c =
    let a = c.args in
    let y = c.apply_group in
    λ l. as_read l a.m.now a.store.now _ true a.setting (Group c.in-Group.op c.in-Group.flags c.in-Group.slot) c.in-Group.is (store_group l a.m.now a.store.now y.new.region c.in-Group.op c.in-Group.flags c.in-Group.slot y.ensures)

pub returns-in-Individual : goal.returns-in-Individual
returns-in-Individual c =
    let a = c.args in
    let y = c.apply_individual in
    λ l. as_read l a.m.now a.store.now _ true a.setting (Individual c.in-Individual.op c.in-Individual.flags c.in-Individual.slot) c.in-Individual.is (store_individual l a.m.now a.store.now y.new.region c.in-Individual.op c.in-Individual.flags c.in-Individual.slot y.ensures)

pub returns-in-LineSlot : goal.returns-in-LineSlot
returns-in-LineSlot c =
    let a = c.args in
    let y = c.apply_line_slot in
    λ l. as_read l a.m.now a.store.now _ true a.setting (LineSlot c.in-LineSlot.op c.in-LineSlot.flags c.in-LineSlot.slot) c.in-LineSlot.is (store_line_slot l a.m.now a.store.now y.new.region c.in-LineSlot.op c.in-LineSlot.flags c.in-LineSlot.slot y.ensures)

pub returns-in-Last : goal.returns-in-Last
returns-in-Last c =
    let a = c.args in
    let y = c.put_hash in
    λ l. as_read l a.m.now a.store.now _ true a.setting (Last c.in-Last.field-0 c.in-Last.hash) c.in-Last.is (store_hash l a.m.now a.store.now y.new.region c.in-Last.field-0 c.in-Last.hash y.ensures)

pub returns-in_default : goal.returns-in_default
returns-in_default c = let a = c.args in absurd (no_place a.setting c.in_default.in_default-own.keys10 c.requires.1)
