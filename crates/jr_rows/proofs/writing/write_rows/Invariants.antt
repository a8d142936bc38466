use Rattle.std.proofs.Common.{◌≡◌, ◌-◌, ◌*◌, ◌≤◌, ◌++◌, min, false, length, take}
use Rattle.jr_base.specs.Tally.{has_failed}
use Rattle.jr_head.specs.Geometry.{mcus_down, vertical_max}
use Rattle.jr_paint.specs.Text.{header_of, lines_of}
use Rattle.jr_paint.specs.Written.{WritesUpTo}
use Rattle.jr_picture.specs.DecodedScan.{DecodedScan}
use Rattle.jr_picture.specs.Samples.{samples_of}
use Rattle.jr_rows.specs.Rows.{DecodesFirst, CountsMcus, coded_before}
use Rattle.jr_rows.proofs.writing.write_rows.Given as goal

abbrev pub invariant-rows : goal.invariant-rows
invariant-rows g l = let at = g.P.RowPainter.at l.initial.painter in record {
  within : l.row ≤ mcus_down at.scan.head;
  at_row : g.P.RowPainter.at l.painter ≡ record at { row = l.row };
  pixels : length l.pixels.items ≡ length l.initial.pixels.items;
  filled : l.filled ≤ length l.pixels.items;
  unfailed : has_failed l.out ≡ false;
  counts : CountsMcus at.scan at.limit (coded_before at.scan.head at.limit 0) (coded_before at.scan.head at.limit l.row) l.marked;
  sent : (b : DecodedScan) → DecodesFirst at.scan at.limit b
      → WritesUpTo g.W.Write.contents l.initial.out l.out (header_of at.scan.head ++ lines_of at.scan.head (samples_of b) (min (l.row * (8 * vertical_max at.scan.head)) at.scan.head.height)) (take l.filled l.pixels.items);
}

abbrev pub decreases-rows : goal.decreases-rows
decreases-rows g l = mcus_down (g.P.RowPainter.at l.initial.painter).scan.head - l.row
