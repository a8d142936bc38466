use Rattle.std.proofs.Common.{arith, sym, subst, ap, ◌∙◌, ◌≡◌, ℕ, ◌-◌, ◌*◌, ◌<◌, length, le_of_eq}
use Rattle.jr_head.specs.HeadValue.{HeadValue}
use Rattle.jr_head.specs.Geometry.{IsValid, mcus_down, mcus_of}
use Rattle.jr_scan.specs.ScanValue.{intervals_of}
use Rattle.jr_paint.specs.Lines.{line_size, next_lines_of}
use Rattle.jr_picture.specs.DecodedScan.{DecodedScan}
use Rattle.jr_picture.specs.Samples.{samples_of}
use Rattle.jr_rows.specs.MarkBytes.{StoresBetween}
use Rattle.jr_rows.specs.Rows.{CountsRows, DecodesFirst, HasSampleSpace}
use Rattle.jr_rows.specs.SomeLines.{CountsBetween, row_after, row_with}
use Rattle.jr_rows.specs.Stream.{HasCounts}
use Rattle.jr_piece.proofs.EachOutcome.{outcome}
use Rattle.jr_rows.proofs.WholePictures.{first_row, painted_whole}
use Rattle.jr_rows.proofs.whole.paint_scan.Goals as goal

pub counts_of-requires-clause-counts : goal.counts_of-requires-clause-counts
counts_of-requires-clause-counts c =
    let t = c.args.scan.now in
    let all : c.intervals-all.result ≡ length t.intervals = c.intervals-all.ensures.value in
    let height : c.height-height.result ≡ t.head.height = c.height-height.ensures.value ∙ ap (λ (h : HeadValue). h.height) c.head-3.ensures.value in
    let counts = subst (λ (y : ℕ). CountsBetween t (row_with t.head 0) (row_after t.head y) c.paint_between-marked.result) height c.paint_between-marked.ensures.counts in
    let rows : CountsRows t (length t.intervals) c.paint_between-marked.result = subst (λ (r : ℕ). CountsBetween t r (mcus_down t.head) c.paint_between-marked.result) (first_row t.head) counts in
    subst (λ (n : ℕ). CountsRows t n c.paint_between-marked.result) (sym all) rows

pub returns-clause-painted : goal.returns-clause-painted
returns-clause-painted c =
    let t = c.args.scan.now in
    let valid = subst IsValid c.head.ensures.value c.head.ensures.valid in
    let some : 0 < mcus_of t.head = subst (λ (n : ℕ). 0 < n) (c.mcus-some.ensures.value ∙ ap (λ (h : HeadValue). mcus_of h) c.head-2.ensures.value) c.mcus-some.ensures.some in
    let more : 0 < intervals_of t.head = subst (λ (n : ℕ). 0 < n) c.intervals-all.ensures.count c.intervals-all.ensures.some in
    let count : length t.intervals ≡ intervals_of t.head = sym c.intervals-all.ensures.value ∙ c.intervals-all.ensures.count in
    let all : c.intervals-all.result ≡ length t.intervals = c.intervals-all.ensures.value in
    let height : c.height-height.result ≡ t.head.height = c.height-height.ensures.value ∙ ap (λ (h : HeadValue). h.height) c.head-3.ensures.value in
    let old = c.args.marks.now in
    let new = c.paint_between-marked.new.marks in
    let stores = subst (λ (y : ℕ). StoresBetween t (row_with t.head 0) (row_after t.head y) old new) height c.paint_between-marked.ensures.stores in
    let rows = subst (λ (r : ℕ). StoresBetween t r (mcus_down t.head) old new) (first_row t.head) stores in
    let lines = subst (λ (y : ℕ). (b : DecodedScan) → DecodesFirst t (length t.intervals) b → c.paint_between-marked.new.pixels ≡ next_lines_of t.head (samples_of b) 0 (y - 0)) height c.paint_between-marked.ensures.lines in
    let counts = subst (λ (n : ℕ). HasCounts t n c.counts_of.result) all c.counts_of.ensures in
    painted_whole t some more count outcome valid c.paint_between-marked.new.pixels old new c.counts_of.result lines c.requires.places rows counts

pub paint_between-marked-requires-clause-some : goal.paint_between-marked-requires-clause-some
paint_between-marked-requires-clause-some c = c.height-height.ensures.some

pub paint_between-marked-requires-clause-inside : goal.paint_between-marked-requires-clause-inside
paint_between-marked-requires-clause-inside c = le_of_eq (c.height-height.ensures.value ∙ ap (λ (h : HeadValue). h.height) c.head-3.ensures.value)

pub paint_between-marked-requires-clause-space : goal.paint_between-marked-requires-clause-space
paint_between-marked-requires-clause-space c = subst (λ (h : HeadValue). HasSampleSpace h c.in_ok-work.work) c.head.ensures.value c.in_ok-work.ensures

pub paint_between-marked-requires-clause-pixels : goal.paint_between-marked-requires-clause-pixels
paint_between-marked-requires-clause-pixels c =
    let height = c.height-height.ensures.value ∙ ap (λ (h : HeadValue). h.height) c.head-3.ensures.value in
    let all : c.args.scan.now.head.height ≡ c.height-height.result - 0 = omega (arith, height) in
    c.requires.space ∙ ap (λ (n : ℕ). n * line_size c.args.scan.now.head) all

pub paint_between-marked-requires-clause-places : goal.paint_between-marked-requires-clause-places
paint_between-marked-requires-clause-places c = c.requires.places

pub counts_of-requires-clause-few : goal.counts_of-requires-clause-few
counts_of-requires-clause-few c = le_of_eq c.intervals-all.ensures.value
