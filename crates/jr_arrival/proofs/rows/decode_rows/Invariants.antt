use Rattle.std.proofs.Common.{◌≡◌, ◌-◌, ◌*◌, ◌≤◌, length, take, drop}
use Rattle.jr_paint.specs.Lines.{line_size}
use Rattle.jr_rows.specs.Rows.{HasSampleSpace}
use Rattle.jr_arrival.specs.Places.{lines_above, lines_between}
use Rattle.jr_arrival.specs.Shown.{AreLines}
use Rattle.jr_arrival.specs.Parts.{part_of}
use Rattle.jr_arrival.proofs.BetweenRows.{HasCome}
use Rattle.jr_arrival.proofs.rows.decode_rows.Given as goal

abbrev pub invariant-rows : goal.invariant-rows
invariant-rows l =
    let h = l.head in
    let bytes = lines_between h l.place.row l.next.row * line_size h in record {
      come : HasCome h l.file l.place l.next l.source;
      space : HasSampleSpace h l.samples;
      few : l.next.row ≤ l.end;
      long : length l.pixels ≡ length l.initial.pixels;
      lines : AreLines (part_of l.file) h l.place (lines_above h l.place.row) (lines_between h l.place.row l.next.row) (take bytes l.pixels);
      kept : drop bytes l.pixels ≡ drop bytes l.initial.pixels;
    }

abbrev pub decreases-rows : goal.decreases-rows
decreases-rows l = l.end - l.next.row
