use Rattle.std.proofs.Common.{◌≡◌, ◌≤◌, length, sym, ap, ◌∙◌, arith, rules}
use Rattle.std.specs.Arc.{arc_value}
use Rattle.jr_scan.specs.ScanValue.{ScanValue}
use Rattle.jr_wall.proofs.decoding.Decoding.open.Goals as goal
use Rattle.jr_wall.proofs.decoding.Decoding.open.Goals.{in-Some, in-None}

pub returns-clause-limit : goal.returns-clause-limit
returns-clause-limit c = search rules

pub open_strips-requires : goal.open_strips-requires
open_strips-requires c =
    let all : c.intervals-all.result ≡ length c.deref-2.result.now.intervals = c.intervals-all.ensures.value ∙ ap (λ (s : ScanValue). length s.intervals) (c.deref.ensures ∙ sym c.deref-2.ensures) in
    let few : c.match-first.limit ≤ c.intervals-all.result = elim c.match-first.branch [
      | in-Some w ↦ omega (arith, w.limit-is, w.min-limit.ensures)
      | in-None w ↦ omega (arith, w.limit-is)
    ] in
    omega (arith, few, all)

pub invariant_of-decoding : goal.invariant_of-decoding
invariant_of-decoding c =
    let all : c.intervals-all.result ≡ length (arc_value c.args.scan).intervals = c.intervals-all.ensures.value ∙ ap (λ (s : ScanValue). length s.intervals) c.deref.ensures in
    let few : c.match-first.limit ≤ c.intervals-all.result = elim c.match-first.branch [
      | in-Some w ↦ omega (arith, w.limit-is, w.min-limit.ensures)
      | in-None w ↦ omega (arith, w.limit-is)
    ] in
    let limit : c.match-first.limit ≤ length (arc_value c.args.scan).intervals = omega (arith, few, all) in
    (omega (arith, limit, c.in_ok-desk.ensures.desk.0), omega (arith, c.in_ok-desk.ensures.desk.0, c.in_ok-cells.ensures), omega (arith, c.in_ok-strips.ensures.few, limit), c.in_ok-strips.ensures.numbers)

pub returns-clause-scan : goal.returns-clause-scan
returns-clause-scan c = search rules

pub returns-clause-cells : goal.returns-clause-cells
returns-clause-cells c = omega (arith, c.in_ok-desk.ensures.desk.0, c.in_ok-cells.ensures)

pub returns-clause-seats : goal.returns-clause-seats
returns-clause-seats c = search (rules, c.in_ok-desk.ensures.each.0)

pub returns-clause-each : goal.returns-clause-each
returns-clause-each c = search (rules, c.in_ok-desk.ensures.each.1)

pub returns-clause-fresh : goal.returns-clause-fresh
returns-clause-fresh c = search (rules, c.in_ok-desk.ensures.seats)
