use Rattle.std.proofs.Common.{◌≡◌, ◌+◌, ◌-◌, ◌*◌, ◌≤◌, length, take}
use Rattle.jr_paint.specs.Lines.{line_size}
use Rattle.jr_arrival.specs.PartialRows.{AreFinalLines, IsPartialRow}
use Rattle.jr_arrival.proofs.partial_row.PartialRow.give.Given as goal

abbrev pub invariant-lines : goal.invariant-lines
invariant-lines l = record {
  partial_row : IsPartialRow l.fn.scan l.self;
  lines : l.self.lines ≡ l.initial.self.lines + l.given;
  few : l.given ≤ l.space;
  long : length l.pixels ≡ length l.initial.pixels;
  front : AreFinalLines l.fn.scan l.initial.self.lines l.given (take (l.given * line_size l.fn.scan.scan.head) l.pixels);
}

abbrev pub decreases-lines : goal.decreases-lines
decreases-lines l = l.space - l.given
