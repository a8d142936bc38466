use Rattle.std.proofs.Common.{◌≡◌, ℕ, ◌+◌, ◌-◌, ◌*◌, ◌/◌, ◌<◌, ◌≤◌, length, slice_index, arith, rules}
use Rattle.std.proofs.Math.Nat.{div-mul-le_self}
use Rattle.jr_paint.specs.Units.{sample_by_units}
use Rattle.jr_paint.proofs.Factors.{samples_across-le}
use Rattle.jr_paint.proofs.Filled.{filled_more}
use Rattle.jr_paint.proofs.unit_lines.fill_line.Goals as goal

pub overflow_cast-n : goal.overflow_cast-n
overflow_cast-n g c =
    let few = samples_across-le c.args.head.now c.args.c c.assert_invariant.ensures c.requires.component in
    omega (arith, few, c.assert_invariant.ensures.narrow, c.requires.across, c.loop-n-test.true, div-mul-le_self (length c.args.out.now) 8)

pub overflow_cast-whole : goal.overflow_cast-whole
overflow_cast-whole g c =
    let few = samples_across-le c.args.head.now c.args.c c.assert_invariant.ensures c.requires.component in
    omega (arith, few, c.assert_invariant.ensures.narrow, c.requires.across, div-mul-le_self (length c.args.out.now) 8)

pub loop-n-preserved : goal.loop-n-preserved
loop-n-preserved g c =
    let long : length c.fill_unit.new.out ≡ 8 = search rules in
    let within : 8 * c.loop-n.n ≤ length c.loop-n.out = search rules in
    λ k lt. filled_more (λ j. sample_by_units c.args.head.now (g.U.Units.shown_in c.args.units.now) c.args.c j c.args.y) (8 * c.loop-n.n) 8 (8 * c.loop-n.n + 8 - 8 * c.loop-n.n) c.loop-n.out c.fill_unit.new.out within (omega (arith, long)) c.loop-n.invariant
    (λ j below. c.fill_unit.ensures j (omega (arith, below, long))) k (omega (arith, lt))

pub returns-then-whole-out : goal.returns-then-whole-out
returns-then-whole-out g c =
    let at = 8 * (length c.args.out.now / 8) in
    let long : length c.fill_unit-then-whole-out.new.out ≡ length c.loop-n.out - at = search rules in
    let within : at ≤ length c.loop-n.out = search rules in
    let before : (j : ℕ) → j < at → slice_index c.loop-n.out j ≡ sample_by_units c.args.head.now (g.U.Units.shown_in c.args.units.now) c.args.c j c.args.y = λ j below. c.loop-n.invariant j (omega (arith, below, c.loop-n-test.false)) in
    λ k lt. filled_more (λ j. sample_by_units c.args.head.now (g.U.Units.shown_in c.args.units.now) c.args.c j c.args.y) at (length c.loop-n.out - at) (length c.loop-n.out - at) c.loop-n.out c.fill_unit-then-whole-out.new.out within (omega (arith, long)) before
    (λ j below. c.fill_unit-then-whole-out.ensures j (omega (arith, below, long))) k (search (rules, lt))

pub returns-else-whole-out : goal.returns-else-whole-out
returns-else-whole-out g c k lt = c.loop-n.invariant k (omega (arith, lt, c.if-whole-out.false, c.loop-n-test.false, c.loop-n.auto.out))
