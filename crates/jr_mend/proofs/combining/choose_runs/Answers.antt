use Rattle.std.proofs.Common.{◌≤◌, List, length, refl, rules, sym, subst, arith}
use Rattle.jr_mend.specs.declared.byte_runs.ByteRun.{ByteRun}
use Rattle.jr_mend.specs.Combined.{AreBetween, AreBytesByRuns}
use Rattle.jr_mend.proofs.CombinedBytes.{between_longer, between_more}
use Rattle.jr_mend.proofs.combining.choose_runs.Goals as goal

pub loop-init : goal.loop-init
loop-init c =
    let scan_at = c.args.head.now.scan_at in
    let at = c.scan_at-at.result in
    let from : scan_at ≤ at = omega (arith, c.scan_at-at.ensures.value) in (
      refl,
      omega (arith, c.requires.scan, c.scan_at-at.ensures.value),
      c.at_start-position.ensures.in_range,
      search (rules, arith, c.in_ok-with_capacity.ensures.capacity),
      subst (AreBetween scan_at at) (sym c.new-runs.ensures.items) from,
      subst (λ (l : List ByteRun). AreBytesByRuns c.args.copies.now l c.args.file.now) (sym c.new-runs.ensures.items) c.requires.first,
    )

pub loop-preserved : goal.loop-preserved
loop-preserved c =
    let inv = c.loop.invariant in
    let runs = c.loop.runs.items in
    let run = c.settle.result in
    let stated = c.settle.ensures in
    let found = c.in-Some.found in
    let scan_at = c.args.head.now.scan_at in
    let from = c.in-Some.ensures.from in
    let between = between_more scan_at c.loop.at found.end runs run inv.4 (omega (arith, from, stated.start)) (omega (arith, c.in-Some.ensures.some, stated.start, stated.end)) (omega (arith, stated.end)) in
    let items = c.in_ok-push.ensures.items in (
      omega (arith, stated.long, inv.0),
      omega (arith, c.in-Some.ensures.within),
      c.advanced-position.ensures.in_range,
      omega (arith, stated.long, c.best_version.ensures.capacity),
      subst (AreBetween scan_at found.end) (sym items) between,
      subst (λ (l : List ByteRun). AreBytesByRuns c.args.copies.now l c.settle.new.file) (sym items) (stated.bytes scan_at c.loop.at runs inv.4 from inv.5),
    )

pub returns-clause-runs : goal.returns-clause-runs
returns-clause-runs c = between_longer c.args.head.now.scan_at c.loop.at (length c.args.file.now) c.loop.runs.items c.loop.invariant.4 c.loop.invariant.1
