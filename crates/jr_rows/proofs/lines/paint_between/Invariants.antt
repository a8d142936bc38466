use Rattle.std.proofs.Common.{◌≡◌, ◌+◌, ◌-◌, ◌*◌, ◌<◌, ◌≤◌, length, take}
use Rattle.jr_head.specs.Geometry.{vertical_max}
use Rattle.jr_paint.specs.Lines.{line_size, next_lines_of}
use Rattle.jr_picture.specs.DecodedScan.{DecodedScan}
use Rattle.jr_picture.specs.Samples.{samples_of}
use Rattle.jr_rows.specs.MarkBytes.{HasMarkSpace, StoresBetween}
use Rattle.jr_rows.specs.Rows.{AreRowsOf, DecodesFirst, HasSampleSpace}
use Rattle.jr_rows.specs.SomeLines.{CountsBetween, row_with}
use Rattle.jr_rows.proofs.SomeLines.{done_lines}
use Rattle.jr_rows.proofs.lines.paint_between.Given as goal

abbrev pub invariant-rows : goal.invariant-rows
invariant-rows l =
    let t = l.fn.scan in
    let h = t.head in
    let n = length t.intervals in
    let done = done_lines h l.fn.first l.fn.end l.rows.row in record {
      rows : AreRowsOf l.part l.rows;
      within : l.rows.row ≤ l.after;
      reaches : l.fn.first < (l.rows.row + 1) * (8 * vertical_max h);
      space : HasSampleSpace h l.work;
      long : length l.pixels ≡ length l.initial.pixels;
      front : (b : DecodedScan) → DecodesFirst t n b → take (done * line_size h) l.pixels ≡ next_lines_of h (samples_of b) l.fn.first done;
      counts : CountsBetween t (row_with h l.fn.first) l.rows.row l.marked;
      places : HasMarkSpace t l.marks;
      stores : StoresBetween t (row_with h l.fn.first) l.rows.row l.initial.marks l.marks;
    }

abbrev pub decreases-rows : goal.decreases-rows
decreases-rows l = l.after - l.rows.row
