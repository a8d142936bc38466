use Rattle.std.proofs.Common.{rules, arith, subst, sym, ap, ◌≡◌, ℕ, ◌*◌, ◌<◌, ◌≤◌, ◌^◌, ◌∙◌, length}
use Rattle.std.specs.Prelude.{is_err}
use Rattle.jr_head.specs.HeadValue.{HeadValue}
use Rattle.jr_head.specs.Geometry.{IsValid, vertical_max}
use Rattle.jr_scan.specs.FirstIntervalsValue.{least, FirstIntervalsValue}
use Rattle.jr_scan.specs.ScanValue.{ScanValue, intervals_of}
use Rattle.jr_paint.specs.Lines.{line_size}
use Rattle.jr_rows.specs.Stream.{SendsPicture, HasCounts}
use Rattle.jr_rows.specs.Rows.{CountsRows, HasSampleSpace}
use Rattle.jr_rows.specs.RowsValue.{RowsValue}
use Rattle.jr_rows.proofs.FirstDecoded.{least_few}
use Rattle.jr_piece.proofs.EachOutcome.{outcome}
use Rattle.jr_rows.proofs.Sendings.{painted_picture, begun_picture}
use Rattle.jr_rows.proofs.writing.write_scan.Goals as goal

-- what fits into the requested buffer fits into the actual one
fits : (n space len long : ℕ) → n ≤ space → len ≡ space → len ≡ long → n ≤ long
fits n space len long le e is = omega (arith, le, e, is)

pub returns-in-Ok-write_rows-clause-painted : goal.returns-in-Ok-write_rows-clause-painted
returns-in-Ok-write_rows-clause-painted g c =
    let t = c.args.scan.now in
    let n = least c.args.first (length t.intervals) in
    let valid = subst IsValid c.head.ensures.value c.head.ensures.valid in
    let is : c.limit-limit.result ≡ n = c.limit-limit.ensures.value ∙ ap (λ (p : FirstIntervalsValue). p.limit) c.of-part.ensures in
    let painter = subst (λ (r : RowsValue). SendsPicture g.W.Write.contents c.args.out.now c.write_rows.new.out c.write_rows.result r.scan r.limit) c.of-painter.ensures c.write_rows.ensures.sent in
    let sends = subst (λ (p : FirstIntervalsValue). SendsPicture g.W.Write.contents c.args.out.now c.write_rows.new.out c.write_rows.result p.scan p.limit) c.of-part.ensures painter in
    painted_picture g.W.Write.contents _ _ c.write_rows.result outcome t valid n (least_few c.args.first (length t.intervals)) sends _ c.in-Ok-write_rows.is c.counts_of.result (subst (λ (k : ℕ). HasCounts t k c.counts_of.result) is c.counts_of.ensures)

pub returns-clause-begun : goal.returns-clause-begun
returns-clause-begun g c failed =
    let t = c.args.scan.now in
    let n = least c.args.first (length t.intervals) in
    let valid = subst IsValid c.head.ensures.value c.head.ensures.valid in
    let painter = subst (λ (r : RowsValue). SendsPicture g.W.Write.contents c.args.out.now c.write_rows.new.out c.write_rows.result r.scan r.limit) c.of-painter.ensures c.write_rows.ensures.sent in
    let sends = subst (λ (p : FirstIntervalsValue). SendsPicture g.W.Write.contents c.args.out.now c.write_rows.new.out c.write_rows.result p.scan p.limit) c.of-part.ensures painter in
    begun_picture g.W.Write.contents _ _ c.write_rows.result outcome t valid n (least_few c.args.first (length t.intervals)) sends _ c.in-Err.is

pub returns-clause-memory : goal.returns-clause-memory
returns-clause-memory g c = search rules

pub returns-in_default-vec-clause-memory : goal.returns-in_default-vec-clause-memory
returns-in_default-vec-clause-memory g c = search rules

pub write_rows-requires-clause-unfailed : goal.write_rows-requires-clause-unfailed
write_rows-requires-clause-unfailed g c = c.requires

pub counts_of-requires-clause-counts : goal.counts_of-requires-clause-counts
counts_of-requires-clause-counts g c =
    let part = c.of-part.result in
    let m = c.in-Ok-write_rows.marked in
    let counts = subst (λ (r : RowsValue). CountsRows r.scan r.limit m) c.of-painter.ensures c.in-Ok-write_rows.ensures.counts in
    let first = subst (λ (n : ℕ). CountsRows part.scan n m) (sym c.limit-limit.ensures.value) counts in
    subst (λ (s : ScanValue). CountsRows s c.limit-limit.result m) (ap (λ (p : FirstIntervalsValue). p.scan) c.of-part.ensures) first

pub of-painter-requires : goal.of-painter-requires
of-painter-requires g c =
    let here = subst (λ (h : HeadValue). HasSampleSpace h c.in-Ok.work) c.head.ensures.value c.in-Ok.ensures in
    record { space = subst (λ (p : FirstIntervalsValue). HasSampleSpace p.scan.head c.in-Ok.work) (sym c.of-part.ensures) here }

pub write_rows-requires-clause-head : goal.write_rows-requires-clause-head
write_rows-requires-clause-head g c = c.head-3.ensures.value ∙ sym (ap (λ (r : RowsValue). r.scan.head) c.of-painter.ensures ∙ ap (λ (p : FirstIntervalsValue). p.scan.head) c.of-part.ensures)

pub write_rows-requires-clause-start : goal.write_rows-requires-clause-start
write_rows-requires-clause-start g c = ap (λ (r : RowsValue). r.row) c.of-painter.ensures

pub write_rows-requires-clause-few : goal.write_rows-requires-clause-few
write_rows-requires-clause-few g c =
    let p = c.of-part.result in
    let own = sym c.intervals-all.ensures.value ∙ c.intervals-all.ensures.count in
    let same = subst (λ (q : FirstIntervalsValue). length q.scan.intervals ≡ intervals_of q.scan.head) (sym c.of-part.ensures) own in
    subst (λ (r : RowsValue). r.limit ≤ intervals_of r.scan.head) (sym c.of-painter.ensures) (subst (λ (n : ℕ). p.limit ≤ n) same c.limit-limit.ensures.few)

pub write_rows-requires-clause-intervals : goal.write_rows-requires-clause-intervals
write_rows-requires-clause-intervals g c =
    subst (λ (n : ℕ). n < 2 ^ 32) (c.intervals-all.ensures.count ∙ ap (λ (h : HeadValue). intervals_of h) (sym c.head-3.ensures.value)) c.intervals-all.type_inv

pub write_rows-requires-clause-pixels : goal.write_rows-requires-clause-pixels
write_rows-requires-clause-pixels g c =
    let pixels = c.in-Ok-vec.pixels in
    let head = c.head-2.ensures.value ∙ sym c.head-3.ensures.value in
    let lines = subst (λ (h : HeadValue). 8 * vertical_max h * line_size h ≤ c.space_for.result) head c.space_for.ensures.lines in
    fits _ c.space_for.result pixels.len (length pixels.items) lines c.in-Ok-vec.ensures.len pixels.ok.0

pub write_rows-requires-clause-header : goal.write_rows-requires-clause-header
write_rows-requires-clause-header g c =
    let pixels = c.in-Ok-vec.pixels in
    fits _ c.space_for.result pixels.len (length pixels.items) c.space_for.ensures.header c.in-Ok-vec.ensures.len pixels.ok.0

pub counts_of-requires-clause-few : goal.counts_of-requires-clause-few
counts_of-requires-clause-few g c =
    let few = subst (λ (n : ℕ). n ≤ length c.of-part.result.scan.intervals) (sym c.limit-limit.ensures.value) c.limit-limit.ensures.few in
    subst (λ (p : FirstIntervalsValue). c.limit-limit.result ≤ length p.scan.intervals) c.of-part.ensures few

pub returns-in-Ok-write_rows-clause-written : goal.returns-in-Ok-write_rows-clause-written
returns-in-Ok-write_rows-clause-written g c = c.write_rows.ensures.failed ∙ ap is_err c.in-Ok-write_rows.is
