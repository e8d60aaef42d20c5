use Rattle.export_write.specs.FixedWriters.{key_setting}
use Rattle.writing.specs.Settings.{home, system}
use Rattle.export_write.proofs.FixedWriting.{three_wrote, home_three, system_three}
use Rattle.lists.proofs.Kit.{ℕ, refl, ap, List, arith, drop, take}
use Rattle.export_write.proofs.fixed.export_fixed.Goals as goal

pub returns-then-region-ne11 : goal.returns-then-region-ne11
returns-then-region-ne11 c = λ h. absurd (omega (arith, h.0))

pub returns-then-buffer : goal.returns-then-buffer
returns-then-buffer c = λ h. absurd (omega (arith, h.1))

pub returns : goal.returns
returns c =
    let a = c.args in
    let x = c.write_key-home in
    let i = c.home_bits-numbers in
    let y = c.write_three-system in
    let j = c.system_bits-code in
    let z = c.write_three-end in
    λ h. record {
      writes = record {
        from = omega (arith, x.ensures.from, y.ensures.0, z.ensures.0);
        most = omega (arith, x.ensures.most, y.ensures.0, z.ensures.0);
        wrote = λ t k.
            three_wrote (key_setting t.0) (home t.1.0) (system t.1.1) 8 x.result y.result z.result a.buffer.now x.new.buffer y.new.buffer z.new.buffer
            (x.ensures.wrote t.0 (k.0.0, ap (λ (l : List ℕ). take 4 l) k.1))
            (y.ensures.1 (home t.1.0) (home_three _ i.result i.ensures t.1.0 (k.0.1.0, ap (λ (l : List ℕ). take 4 (drop 4 l)) k.1)))
            (z.ensures.1 (system t.1.1) (system_three _ j.result j.ensures t.1.1 (k.0.1.1, ap (λ (l : List ℕ). take 3 (drop 8 l)) k.1)));
      };
      counted = λ t k. refl;
    }
