use Rattle.std.proofs.Common.{arith, subst, sym, ap, ℕ, ◌∙◌, ◌≡◌, ◌+◌, ◌*◌, ◌<◌, ◌≤◌, length}
use Rattle.jr_head.specs.HeadValue.{HeadValue}
use Rattle.jr_head.specs.Geometry.{mcus_across, mcus_of}
use Rattle.jr_scan.specs.ScanValue.{ScanValue, intervals_of}
use Rattle.jr_scan.specs.Cursors.{interval_start}
use Rattle.jr_picture.specs.Headline.{interval_number, within_interval}
use Rattle.jr_rows.specs.Cursors.{IsCursorOf, mcus_to}
use Rattle.jr_rows.proofs.RowCursors.{start_to, starts}
use Rattle.jr_rows.specs.Rows.{coded_before}
use Rattle.jr_rows.proofs.RowStarts.{all_before, mcu_there, row_starts}
use Rattle.jr_rows.proofs.rows.Rows.at.Goals as goal

pub skip_mcus-requires-clause-lies : goal.skip_mcus-requires-clause-lies
skip_mcus-requires-clause-lies c =
    let t = c.args.part.now.scan in
    let h = t.head in
    let some = subst (λ (n : ℕ). 0 < n) (c.mcus.ensures.value ∙ ap (λ (x : HeadValue). mcus_of x) (c.head.ensures.value ∙ ap (λ (s : ScanValue). s.head) c.scan-scan.ensures)) c.mcus.ensures.some in
    let there = mcu_there h (c.args.row * mcus_across h) (row_starts h c.args.row some c.requires.row) in
    let number : c.interval_with-number.result.0 ≡ interval_number h (c.args.row * mcus_across h) = c.interval_with-number.ensures.interval ∙ ap (λ (x : HeadValue). interval_number x (c.args.row * c.shape_of-across.result.across)) (c.head-3.ensures.value ∙ ap (λ (s : ScanValue). s.head) c.scan-scan.ensures) ∙ ap (λ (n : ℕ). interval_number h (c.args.row * n)) (c.shape_of-across.ensures.across ∙ ap (λ (x : HeadValue). mcus_across x) (c.head-2.ensures.value ∙ ap (λ (s : ScanValue). s.head) c.scan-scan.ensures)) in
    let count : length t.intervals ≡ intervals_of h = subst (λ (s : ScanValue). length s.intervals ≡ intervals_of s.head) c.scan-scan.ensures (sym c.intervals.ensures.value ∙ c.intervals.ensures.count) in
    subst (λ (s : ScanValue). IsCursorOf s c.at_start-cursor.result) (sym c.scan-scan.ensures) (starts t c.interval_with-number.result.0 c.at_start-cursor.result (omega (arith, there.0, number, count)) c.at_start-cursor.ensures)

pub skip_mcus-requires-clause-few : goal.skip_mcus-requires-clause-few
skip_mcus-requires-clause-few c =
    let h = c.args.part.now.scan.head in
    let some = subst (λ (n : ℕ). 0 < n) (c.mcus.ensures.value ∙ ap (λ (x : HeadValue). mcus_of x) (c.head.ensures.value ∙ ap (λ (s : ScanValue). s.head) c.scan-scan.ensures)) c.mcus.ensures.some in
    let starts = row_starts h c.args.row some c.requires.row in
    let there = mcu_there h (c.args.row * mcus_across h) starts in
    let whole = there.1 in
    let number : c.interval_with-number.result.0 ≡ interval_number h (c.args.row * mcus_across h) = c.interval_with-number.ensures.interval ∙ ap (λ (x : HeadValue). interval_number x (c.args.row * c.shape_of-across.result.across)) (c.head-3.ensures.value ∙ ap (λ (s : ScanValue). s.head) c.scan-scan.ensures) ∙ ap (λ (n : ℕ). interval_number h (c.args.row * n)) (c.shape_of-across.ensures.across ∙ ap (λ (x : HeadValue). mcus_across x) (c.head-2.ensures.value ∙ ap (λ (s : ScanValue). s.head) c.scan-scan.ensures)) in
    let within : c.interval_with-number.result.1 ≡ within_interval h (c.args.row * mcus_across h) = c.interval_with-number.ensures.within ∙ ap (λ (x : HeadValue). within_interval x (c.args.row * c.shape_of-across.result.across)) (c.head-3.ensures.value ∙ ap (λ (s : ScanValue). s.head) c.scan-scan.ensures) ∙ ap (λ (n : ℕ). within_interval h (c.args.row * n)) (c.shape_of-across.ensures.across ∙ ap (λ (x : HeadValue). mcus_across x) (c.head-2.ensures.value ∙ ap (λ (s : ScanValue). s.head) c.scan-scan.ensures)) in
    let to = start_to h (interval_number h (c.args.row * mcus_across h)) c.at_start-cursor.result (c.at_start-cursor.ensures ∙ ap interval_start number) in
    subst (λ (s : ScanValue). mcus_to s.head c.at_start-cursor.result + c.interval_with-number.result.1 ≤ mcus_of s.head) (sym c.scan-scan.ensures) (omega (arith, to, within, whole, starts))

pub returns-clause-rows : goal.returns-clause-rows
returns-clause-rows c =
    let t = c.args.part.now.scan in
    let h = t.head in
    let next = c.skip_mcus.new.cursor in
    let start = c.at_start-cursor.result in
    let some = subst (λ (n : ℕ). 0 < n) (c.mcus.ensures.value ∙ ap (λ (x : HeadValue). mcus_of x) (c.head.ensures.value ∙ ap (λ (s : ScanValue). s.head) c.scan-scan.ensures)) c.mcus.ensures.some in
    let first = row_starts h c.args.row some c.requires.row in
    let whole = (mcu_there h (c.args.row * mcus_across h) first).1 in
    let number : c.interval_with-number.result.0 ≡ interval_number h (c.args.row * mcus_across h) = c.interval_with-number.ensures.interval ∙ ap (λ (x : HeadValue). interval_number x (c.args.row * c.shape_of-across.result.across)) (c.head-3.ensures.value ∙ ap (λ (s : ScanValue). s.head) c.scan-scan.ensures) ∙ ap (λ (n : ℕ). interval_number h (c.args.row * n)) (c.shape_of-across.ensures.across ∙ ap (λ (x : HeadValue). mcus_across x) (c.head-2.ensures.value ∙ ap (λ (s : ScanValue). s.head) c.scan-scan.ensures)) in
    let within : c.interval_with-number.result.1 ≡ within_interval h (c.args.row * mcus_across h) = c.interval_with-number.ensures.within ∙ ap (λ (x : HeadValue). within_interval x (c.args.row * c.shape_of-across.result.across)) (c.head-3.ensures.value ∙ ap (λ (s : ScanValue). s.head) c.scan-scan.ensures) ∙ ap (λ (n : ℕ). within_interval h (c.args.row * n)) (c.shape_of-across.ensures.across ∙ ap (λ (x : HeadValue). mcus_across x) (c.head-2.ensures.value ∙ ap (λ (s : ScanValue). s.head) c.scan-scan.ensures)) in
    let count : length t.intervals ≡ intervals_of h = subst (λ (s : ScanValue). length s.intervals ≡ intervals_of s.head) c.scan-scan.ensures (sym c.intervals.ensures.value ∙ c.intervals.ensures.count) in
    let to = start_to h (interval_number h (c.args.row * mcus_across h)) start (c.at_start-cursor.ensures ∙ ap interval_start number) in
    let before = ap (λ (s : ScanValue). mcus_to s.head start) c.scan-scan.ensures in
    let after = ap (λ (s : ScanValue). mcus_to s.head next) c.scan-scan.ensures in
    let at : mcus_to h next ≡ c.args.row * mcus_across h = omega (arith, c.skip_mcus.ensures.moved, before, after, to, within, whole) in
    record {
      lies = subst (λ (s : ScanValue). IsCursorOf s next) c.scan-scan.ensures c.skip_mcus.ensures.lies;
      at = at ∙ sym (all_before h c.args.row some c.requires.row) ∙ ap (λ (n : ℕ). coded_before h n c.args.row) (sym (c.requires.all ∙ count));
    }
