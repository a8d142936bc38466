use Rattle.std.proofs.Common.{◌≡◌, ◌≤◌, ◌∙◌, length, sym, ap, arith, rules}
use Rattle.std.specs.Arc.{arc_value}
use Rattle.jr_scan.specs.ScanValue.{ScanValue}
use Rattle.jr_scan.specs.FirstIntervalsValue.{least}
use Rattle.jr_wall.proofs.Sweeps.{all_blank, decoded_of, same_scan}
use Rattle.jr_wall.proofs.workers.decode_alone.Goals as goal
use Rattle.jr_wall.proofs.workers.decode_alone.Goals.{in-Some, in-None}

pub sweep-requires-clause-scan : goal.sweep-requires-clause-scan
sweep-requires-clause-scan c = same_scan c.in_ok-board.board.scan c.deref-2.result.now (c.in_ok-board.ensures.scan ∙ c.in_ok-try_clone.ensures ∙ sym c.deref-2.ensures)

pub sweep-requires-clause-n : goal.sweep-requires-clause-n
sweep-requires-clause-n c =
    let all : c.intervals-all.result ≡ length c.deref-2.result.now.intervals = c.intervals-all.ensures.value ∙ ap (λ (s : ScanValue). length s.intervals) (c.deref.ensures ∙ sym c.deref-2.ensures) in
    let few : c.match-first.n ≤ c.intervals-all.result = elim c.match-first.branch [
      | in-Some w ↦ omega (arith, w.n-is, w.min-n.ensures)
      | in-None w ↦ omega (arith, w.n-is)
    ] in
    omega (arith, few, all)

pub sweep-requires-clause-blank : goal.sweep-requires-clause-blank
sweep-requires-clause-blank c = λ i le. all_blank c.in_ok-board.board _ c.in_ok-board.ensures.blank i

pub returns : goal.returns
returns c =
    let t = arc_value c.args.scan.now in
    let is : c.match-first.n ≡ least c.args.first (length t.intervals) = search rules in
    decoded_of c.sweep.result c.deref-2.result.now t c.match-first.n _ c.deref-2.ensures is (search (rules, c.sweep.ensures))
