use Rattle.std.proofs.Common.{sym, subst, ℕ, ◌*◌, ◌<◌, take}
use Rattle.jr_head.specs.Geometry.{mcus_across, mcus_down}
use Rattle.jr_paint.specs.Lines.{line_size}
use Rattle.jr_picture.specs.DecodedScan.{DecodedScan}
use Rattle.jr_rows.specs.Bands.{ShowsMcus}
use Rattle.jr_rows.specs.Groups.{units_in}
use Rattle.jr_rows.specs.Rows.{DecodesFirst, ShowsLines, line_count}
use Rattle.jr_crew.proofs.row_buffer.decode_first.Goals as goal

pub paint_decoded-requires-clause-row : goal.paint_decoded-requires-clause-row
paint_decoded-requires-clause-row c = subst (λ (r : ℕ). r < mcus_down c.args.part.now.scan.head) (sym c.row-row.ensures) c.requires.row

pub paint_decoded-requires-clause-units : goal.paint_decoded-requires-clause-units
paint_decoded-requires-clause-units c =
    let t = c.args.part.now in
    let groups = c.decode-marked.new.work.lines.groups in
    subst (λ (r : ℕ). (b : DecodedScan) → DecodesFirst t.scan t.limit b → ShowsMcus b (r * mcus_across t.scan.head) (units_in t.scan.head groups)) (sym c.row-row.ensures) c.decode-marked.ensures.units

pub returns-clause-lines : goal.returns-clause-lines
returns-clause-lines c =
    let t = c.args.part.now in
    let new = c.paint_decoded.new.pixels in
    subst (λ (r : ℕ). ShowsLines t.scan t.limit r (take (line_count t.scan.head r * line_size t.scan.head) new)) c.row-row.ensures c.paint_decoded.ensures.lines
