use Rattle.std.proofs.Common.{◌≡◌, ◌∙◌, false, Result, IfOk, OnOk, ap, refl, rules, subst, length}
use Rattle.std.specs.Arc.{arc_value}
use Rattle.jr_base.specs.Tally.{has_failed}
use Rattle.jr_scan.specs.FirstIntervalsValue.{least}
use Rattle.jr_scan.specs.ScanValue.{ScanValue}
use Rattle.jr_picture.specs.declared.counts.Counts.{Counts}
use Rattle.jr_picture.specs.Writing.{WritesPicture}
use Rattle.jr_picture.specs.declared.picture_error.PictureError.{PictureError}
use Rattle.jri_engine.proofs.PaintsLemmas.{Left, Wrote, left, scan_begins, scan_paints, wrote}
use Rattle.jri_engine.proofs.engine.write_image.Goals as goal
use Rattle.jri_engine.proofs.engine.write_image.Goals.{then-is_by_rows, else-is_by_rows+then-is_by_intervals, else-is_by_rows+else-is_by_intervals}

pub returns-in-Ok-clause-painted : goal.returns-in-Ok-clause-painted
returns-in-Ok-clause-painted g c =
    let K = g.W.Write.contents in
    let old = c.args.out.now in
    let s = arc_value c.args.scan.now in
    let new = c.if-is_by_rows.out in
    let w = c.if-is_by_rows.written in
    let stated : Wrote K old c.args.first s new w = elim c.if-is_by_rows.branch [
      | then-is_by_rows b ↦ let e = b.write_scan_by-written.ensures in wrote K old c.args.first s _ new _ w _ b.deref-then-is_by_rows.ensures b.out-is b.written-is (e.painted, e.begun)
      | else-is_by_rows+then-is_by_intervals b ↦ let e = b.write_board.ensures in wrote K old c.args.first s s new _ w _ refl b.out-is b.written-is (e.painted, e.begun)
      | else-is_by_rows+else-is_by_intervals b ↦ let e = b.write_scan.ensures in wrote K old c.args.first s _ new _ w _ b.deref-else-is_by_intervals.ensures b.out-is b.written-is (e.painted, e.begun)
    ] in
    let painted : WritesPicture K old new s (least c.args.first (length s.intervals)) c.in-Ok.counts =
    subst (λ (x : Result Counts PictureError). IfOk x (λ k. WritesPicture K old new s (least c.args.first (length s.intervals)) k)) c.in-Ok.is stated.0
    in
    scan_paints K old new s c.args.first c.in-Ok.counts _ painted (c.intervals.ensures.value ∙ ap (λ (t : ScanValue). length t.intervals) c.deref-in-Ok.ensures) refl refl refl (c.ended.ensures ∙ ap (λ (t : ScanValue). t.ended) c.deref-in-Ok-2.ensures)

pub returns-in-Err-Write-clause-begun : goal.returns-in-Err-Write-clause-begun
returns-in-Err-Write-clause-begun g c file is _ =
    let K = g.W.Write.contents in
    let old = c.args.out.now in
    let s = arc_value c.args.scan.now in
    let new = c.if-is_by_rows.out in
    let w = c.if-is_by_rows.written in
    let stated : Wrote K old c.args.first s new w = elim c.if-is_by_rows.branch [
      | then-is_by_rows b ↦ let e = b.write_scan_by-written.ensures in wrote K old c.args.first s _ new _ w _ b.deref-then-is_by_rows.ensures b.out-is b.written-is (e.painted, e.begun)
      | else-is_by_rows+then-is_by_intervals b ↦ let e = b.write_board.ensures in wrote K old c.args.first s s new _ w _ refl b.out-is b.written-is (e.painted, e.begun)
      | else-is_by_rows+else-is_by_intervals b ↦ let e = b.write_scan.ensures in wrote K old c.args.first s _ new _ w _ b.deref-else-is_by_intervals.ensures b.out-is b.written-is (e.painted, e.begun)
    ] in
    scan_begins K old new s c.args.first (stated.1 (search (rules, c.in-Err-Write.is, c.in-Err-Write.field-0-is))) file is

pub returns-in-Ok-clause-written : goal.returns-in-Ok-clause-written
returns-in-Ok-clause-written g c =
    let stated : Left c.args.out.now c.if-is_by_rows.out c.if-is_by_rows.written = elim c.if-is_by_rows.branch [
      | then-is_by_rows b ↦ let e = b.write_scan_by-written.ensures in left c.args.out.now c.if-is_by_rows.out _ c.if-is_by_rows.written _ b.out-is b.written-is (e.memory, e.written, e.write)
      | else-is_by_rows+then-is_by_intervals b ↦ let e = b.write_board.ensures in left c.args.out.now c.if-is_by_rows.out _ c.if-is_by_rows.written _ b.out-is b.written-is (e.memory, e.written, e.write)
      | else-is_by_rows+else-is_by_intervals b ↦ let e = b.write_scan.ensures in left c.args.out.now c.if-is_by_rows.out _ c.if-is_by_rows.written _ b.out-is b.written-is (e.memory, e.written, e.write)
    ] in
    subst (λ (x : Result Counts PictureError). OnOk x (has_failed c.if-is_by_rows.out ≡ false)) c.in-Ok.is stated.1

pub returns-in-Err-Memory-clause-memory : goal.returns-in-Err-Memory-clause-memory
returns-in-Err-Memory-clause-memory g c _ =
    let stated : Left c.args.out.now c.if-is_by_rows.out c.if-is_by_rows.written = elim c.if-is_by_rows.branch [
      | then-is_by_rows b ↦ let e = b.write_scan_by-written.ensures in left c.args.out.now c.if-is_by_rows.out _ c.if-is_by_rows.written _ b.out-is b.written-is (e.memory, e.written, e.write)
      | else-is_by_rows+then-is_by_intervals b ↦ let e = b.write_board.ensures in left c.args.out.now c.if-is_by_rows.out _ c.if-is_by_rows.written _ b.out-is b.written-is (e.memory, e.written, e.write)
      | else-is_by_rows+else-is_by_intervals b ↦ let e = b.write_scan.ensures in left c.args.out.now c.if-is_by_rows.out _ c.if-is_by_rows.written _ b.out-is b.written-is (e.memory, e.written, e.write)
    ] in
    stated.0 (search (rules, c.in-Err-Memory.is, c.in-Err-Memory.field-0-is))

pub returns-in-Err-Write-clause-write : goal.returns-in-Err-Write-clause-write
returns-in-Err-Write-clause-write g c _ =
    let stated : Left c.args.out.now c.if-is_by_rows.out c.if-is_by_rows.written = elim c.if-is_by_rows.branch [
      | then-is_by_rows b ↦ let e = b.write_scan_by-written.ensures in left c.args.out.now c.if-is_by_rows.out _ c.if-is_by_rows.written _ b.out-is b.written-is (e.memory, e.written, e.write)
      | else-is_by_rows+then-is_by_intervals b ↦ let e = b.write_board.ensures in left c.args.out.now c.if-is_by_rows.out _ c.if-is_by_rows.written _ b.out-is b.written-is (e.memory, e.written, e.write)
      | else-is_by_rows+else-is_by_intervals b ↦ let e = b.write_scan.ensures in left c.args.out.now c.if-is_by_rows.out _ c.if-is_by_rows.written _ b.out-is b.written-is (e.memory, e.written, e.write)
    ] in
    stated.2 (search (rules, c.in-Err-Write.is, c.in-Err-Write.field-0-is))
