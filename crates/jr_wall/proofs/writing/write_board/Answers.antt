use Rattle.std.proofs.Common.{ℕ, length, subst, ap, ◌∙◌}
use Rattle.std.specs.Arc.{arc_value}
use Rattle.jr_base.specs.Tally.{Writes, WritesBeginning}
use Rattle.jr_head.specs.HeadValue.{HeadValue}
use Rattle.jr_head.specs.Geometry.{IsValid}
use Rattle.jr_scan.specs.ScanValue.{ScanValue}
use Rattle.jr_scan.specs.FirstIntervalsValue.{least}
use Rattle.jr_paint.specs.Text.{text_of}
use Rattle.jr_picture.specs.DecodedScan.{DecodedScan, marks_of}
use Rattle.jr_picture.specs.Headline.{IsPicture, ShowsFirst}
use Rattle.jr_picture.specs.Samples.{samples_of}
use Rattle.jr_picture.proofs.DecodedPictures.{same_picture}
use Rattle.jr_wall.specs.Decoded.{IsDecoded}
use Rattle.jr_wall.proofs.writing.write_board.Goals as goal

-- the image of a decoded board
shows_first : (s : ScanValue) (n : ℕ) (b : DecodedScan) → IsValid s.head → IsDecoded s n b → IsPicture b.scan (marks_of b) (samples_of b) → ShowsFirst s n (marks_of b) (samples_of b)
shows_first s n b valid decoded picture = record { valid = valid; picture = same_picture b.scan s (marks_of b) (samples_of b) decoded.same picture; first = decoded.first }

pub returns-in-Ok-write_netpbm-clause-painted : goal.returns-in-Ok-write_netpbm-clause-painted
returns-in-Ok-write_netpbm-clause-painted g c =
    let s = arc_value c.args.scan.now in
    let b = c.in-Ok-decode_all.board in
    let valid = subst IsValid (c.head-valid.ensures.value ∙ ap (λ (t : ScanValue). t.head) c.deref.ensures) c.head-valid.ensures.valid in
    let decoded = subst (λ (t : ScanValue). IsDecoded t (least c.args.first (length t.intervals)) b) c.in-Ok.ensures c.in-Ok-decode_all.ensures in
    record {
      marks = marks_of b;
      f = samples_of b;
      shows = shows_first s (least c.args.first (length s.intervals)) b valid decoded c.headline-counts.ensures.picture;
      text = subst (λ (h : HeadValue). Writes g.W.Write.contents c.args.out.now c.write_netpbm.new.out (text_of h (samples_of b))) decoded.same.0 c.in-Ok-write_netpbm.ensures.ok;
      counted = c.headline-counts.ensures.counts;
    }

pub returns-clause-begun : goal.returns-clause-begun
returns-clause-begun g c _ =
    let s = arc_value c.args.scan.now in
    let b = c.in-Ok-decode_all.board in
    let valid = subst IsValid (c.head-valid.ensures.value ∙ ap (λ (t : ScanValue). t.head) c.deref.ensures) c.head-valid.ensures.valid in
    let decoded = subst (λ (t : ScanValue). IsDecoded t (least c.args.first (length t.intervals)) b) c.in-Ok.ensures c.in-Ok-decode_all.ensures in
    record {
      marks = marks_of b;
      f = samples_of b;
      shows = shows_first s (least c.args.first (length s.intervals)) b valid decoded c.headline-counts.ensures.picture;
      front = subst (λ (h : HeadValue). WritesBeginning g.W.Write.contents c.args.out.now c.write_netpbm.new.out (text_of h (samples_of b))) decoded.same.0 c.in-Err.ensures.err;
    }
