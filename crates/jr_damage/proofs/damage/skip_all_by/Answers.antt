use Rattle.std.proofs.Common.{◌≡◌, ◌∙◌, Some, None, sym, ap, subst, arith}
use Rattle.jr_scan.specs.IntervalValue.{IntervalValue}
use Rattle.jr_scan.specs.Mcus.{HasLongestFront}
use Rattle.jr_scan.specs.Run.{start_of_interval}
use Rattle.jr_scan.specs.ScanValue.{ScanValue, interval_of}
use Rattle.jr_scan.specs.Cursors.{IsReading}
use Rattle.jr_scan.specs.declared.cursor.Cursor.{Cursor}
use Rattle.jr_scan.proofs.CursorRuns.{at_start}
use Rattle.jr_damage.proofs.Skipping.{all_longest, reading, reads_on}
use Rattle.jr_damage.proofs.damage.skip_all_by.Goals as goal

pub loop-init : goal.loop-init
loop-init g c =
    let i = interval_of c.args.scan.now c.args.i in (
      subst (λ (k : Cursor). IsReading (reading i k.mcu k.place)) (sym c.at_start-cursor.ensures) (record {
        at = at_start i;
        longest = λ e. let z : Some start_of_interval ≡ None = e in cc;
      }),
      omega arith,
    )

pub returns-then-whole-step-clause-longest : goal.returns-then-whole-step-clause-longest
returns-then-whole-step-clause-longest g c =
    let own = c.fork.ensures ∙ c.interval_ref-interval.ensures ∙ ap (λ (s : ScanValue). interval_of s c.args.i) c.scan.ensures in
    let t = c.take-whole.ensures.some c.in-Some.place c.in-Some.is in
    subst (λ (v : IntervalValue). HasLongestFront v c.take-whole.new.self.mcu) own (subst (HasLongestFront c.fork.result) (sym c.take-whole.ensures.mcu) (t.1.last c.if-whole-step.true))

pub loop-preserved : goal.loop-preserved
loop-preserved g c =
    let own = c.fork.ensures ∙ c.interval_ref-interval.ensures ∙ ap (λ (s : ScanValue). interval_of s c.args.i) c.scan.ensures in
    let e = c.take-whole.ensures in
    let new = c.take-whole.new.self in
    let t = e.some c.in-Some.place c.in-Some.is in (
      subst (λ (v : IntervalValue). IsReading (reading v new.mcu new.place)) own
          (reads_on c.fork.result c.loop.cursor.mcu c.in-Some.place c.step_of-step.result c.take-whole.result t.0 new.mcu new.place e.mcu e.at t.1),
      omega (arith, c.loop.invariant.1, e.mcu, c.if-whole-step.false, c.step_of-step.ensures),
    )

pub returns-clause-longest : goal.returns-clause-longest
returns-clause-longest g c =
    let i = interval_of c.args.scan.now c.args.i in
    let own = c.interval_ref-interval.ensures ∙ ap (λ (s : ScanValue). interval_of s c.args.i) c.scan.ensures in
    all_longest i c.loop.cursor.mcu c.loop.cursor.place c.loop.invariant.0 (omega (arith, c.loop-test.false, c.loop.invariant.1, c.mcus-end.ensures, ap (λ (v : IntervalValue). v.mcus) own))
