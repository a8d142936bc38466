use Rattle.std.proofs.Common.{◌≡◌, ◌-◌, ◌*◌, ◌≤◌, min, length}
use Rattle.jr_head.specs.Geometry.{vertical_max}
use Rattle.jr_paint.specs.Lines as paint
use Rattle.jr_picture.specs.DecodedScan.{DecodedScan}
use Rattle.jr_picture.specs.Samples.{samples_of}
use Rattle.jr_rows.specs.MarkBytes.{HasMarkSpace, StoresBetween}
use Rattle.jr_rows.specs.Rows.{AreRowsOf, CountsMcus, DecodesFirst, HasSampleSpace, coded_before}
use Rattle.jri_canvas.specs.Layouts.{LieOn, laid_line}
use Rattle.jri_memory.proofs.canvas.lay_rows.Given as goal

abbrev pub invariant-rows : goal.invariant-rows
invariant-rows l =
    let t = l.fn.scan in
    let h = t.head in
    let n = length t.intervals in record {
      rows : AreRowsOf l.part l.rows;
      within : l.rows.row ≤ l.down;
      space : HasSampleSpace h l.work;
      long : length l.lines ≡ length l.initial.lines;
      wide : length l.canvas ≡ length l.initial.canvas;
      lie : (b : DecodedScan) → DecodesFirst t n b → LieOn l.fn.form 0 (min (l.rows.row * (8 * vertical_max h)) h.height) (λ k. laid_line l.fn.form (paint.line_of h (samples_of b) k)) l.initial.canvas l.canvas;
      counts : CountsMcus t n (coded_before h n 0) (coded_before h n l.rows.row) l.marked;
      places : HasMarkSpace t l.marks;
      stores : StoresBetween t 0 l.rows.row l.initial.marks l.marks;
    }

abbrev pub decreases-rows : goal.decreases-rows
decreases-rows l = l.down - l.rows.row
