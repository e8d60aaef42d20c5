use Rattle.lists.proofs.Kit.{rules, arith, refl, ℕ, ◌≡◌, ◌-◌, ◌+◌, subst}
use Rattle.tables.proofs.EntryWalk.{applying_start}
use Rattle.store_places.proofs.TextTables.{TextsGoing, texts_next, texts_missing, texts_done}
use Rattle.store_places.proofs.texts.apply_texts.Goals as goal

pub loop-init : goal.loop-init
loop-init c =
    let a = c.args in
    let z = c.empty_to_replace in
    let e : a.entries.count ≡ a.entries.count - 0 = omega arith in
    (refl, refl, subst (λ (k : ℕ). TextsGoing a.table a.entries.coding a.m.now a.operation z.new.part a.entries.start a.entries.count a.entries.start k z.new.part) e applying_start)

pub returns-in_default : goal.returns-in_default
returns-in_default c =
    let a = c.args in
    let l = c.loop in
    let z = c.empty_to_replace in
    texts_missing a.table a.m.now a.operation z.new.part a.entries l.p (a.entries.count - l.counter) l.region l.invariant.2 a.region.now z.ensures l.region (omega (arith, l.invariant.1)) c.in_default.ensures refl

pub loop-preserved : goal.loop-preserved
loop-preserved c =
    let a = c.args in
    let l = c.loop in
    let z = c.empty_to_replace in
    let y = c.apply_entry in
    let e : a.entries.count - l.counter - 1 ≡ a.entries.count - (l.counter + 1) = omega arith in (
      omega (arith, l.invariant.0),
      l.invariant.1,
      subst (λ (k : ℕ). TextsGoing a.table a.entries.coding a.m.now a.operation z.new.part a.entries.start a.entries.count c.in-Some.next k y.new.region) e
          (texts_next a.table a.m.now a.operation z.new.part a.entries l.p (a.entries.count - l.counter) l.region l.invariant.2 c.in-Some.place c.in-Some.next y.new.region (omega (arith, l.invariant.1)) c.in-Some.ensures refl y.ensures),
    )

pub returns : goal.returns
returns c =
    let a = c.args in
    let l = c.loop in
    let z = c.empty_to_replace in
    texts_done a.table a.m.now a.operation z.new.part a.entries l.p (a.entries.count - l.counter) l.region l.invariant.2 a.region.now z.ensures (omega (arith, l.invariant.1))
