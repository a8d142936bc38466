use Rattle.std.proofs.Common.{rules, ◌≡◌, ◌+◌, ℕ, refl, subst, ◌∙◌, arith}
use Rattle.jr_scan.proofs.TakingOver.{HavePassed, passed_both, passed_none, stays_both}
use Rattle.jr_scan.proofs.mcu_reader.McuReader.skip_by.Goals as goal

pub loop-done-init : goal.loop-done-init
loop-done-init c = record { run = refl; mcu = omega arith; few = search (rules, arith, c.left.ensures); most = omega arith; passed = passed_none c.args.self.now; stays = λ ended. refl }

pub loop-done-preserved : goal.loop-done-preserved
loop-done-preserved c =
    let i = c.loop-done.invariant in
    let e = c.skip_some-some.ensures in
    record {
      run = e.run ∙ i.run;
      mcu = omega (arith, e.mcus, i.mcu);
      few = e.few;
      most = search (rules, arith, e.most, i.most);
      passed = passed_both c.args.self.now c.loop-done.self c.skip_some-some.new.self c.loop-done.done c.skip_some-some.result i.run i.passed e.passed;
      stays = stays_both c.args.self.now c.loop-done.self c.skip_some-some.new.self i.stays e.stays;
    }

pub returns-then-some-eq0-clause-passed : goal.returns-then-some-eq0-clause-passed
returns-then-some-eq0-clause-passed c =
    let i = c.loop-done.invariant in
    let e = c.skip_some-some.ensures in
    let none : c.loop-done.done + c.skip_some-some.result ≡ c.loop-done.done = omega (arith, c.if-some-eq0.true) in
    subst (λ (n : ℕ). HavePassed c.args.self.now c.skip_some-some.new.self n) none (passed_both c.args.self.now c.loop-done.self c.skip_some-some.new.self c.loop-done.done c.skip_some-some.result i.run i.passed e.passed)

pub returns-then-some-eq0-clause-stays : goal.returns-then-some-eq0-clause-stays
returns-then-some-eq0-clause-stays c = stays_both c.args.self.now c.loop-done.self c.skip_some-some.new.self c.loop-done.invariant.stays c.skip_some-some.ensures.stays
