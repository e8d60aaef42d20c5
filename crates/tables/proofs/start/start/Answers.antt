use Rattle.lists.proofs.Kit.{rules, arith, refl, ap, inl, inr, List, ℕ}
use Rattle.tables.specs.Forms.{Roomy}
use Rattle.tables.specs.Store.{Begun}
use Rattle.tables.proofs.AnswerLaws.{not_said, was_said}
use Rattle.tables.proofs.StartLaws.{fresh_made}
use Rattle.tables.proofs.start.start.Goals as goal

pub returns-then-store-limits : goal.returns-then-store-limits
returns-then-store-limits c = inl (λ l r. c.if-store-limits.true l, refl)

pub returns-then-not-roomy : goal.returns-then-not-roomy
returns-then-not-roomy c = inl (λ l r. not_said c.roomy.result c.roomy.ensures c.if-not-roomy.true-raw r, refl)

pub bounds-store-11 : goal.bounds-store-11
bounds-store-11 c = let r : Roomy c.args.limits = was_said c.roomy.result c.roomy.ensures c.if-not-roomy.false-raw in omega (arith, r.fits, c.wipe.auto.s)

pub returns : goal.returns
returns c =
    let r = was_said c.roomy.result c.roomy.ensures c.if-not-roomy.false-raw in
    inr (λ n. n c.if-store-limits.false r, (c.if-store-limits.false, r, ap (λ (s : List ℕ). (let z : Begun = record { number = 0; store = s } in z)) (fresh_made c.args.limits c.args.store.now c.wipe.new.s r c.if-store-limits.false c.wipe.ensures)))
