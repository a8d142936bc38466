use Rattle.std.proofs.Common.{rules, arith, ap, subst, sym, ◌∙◌, ◌≡◌, ℕ, ◌+◌, ◌*◌, ◌<◌, ◌≤◌, length}
use Rattle.std.proofs.lemmas.List.{length-take-le}
use Rattle.jr_head.specs.Geometry.{IsValid, vertical_max}
use Rattle.jr_paint.specs.Lines as paint
use Rattle.jr_picture.specs.Samples.{samples_of}
use Rattle.jr_rows.specs.Bands.{samples_in}
use Rattle.jr_rows.specs.Rows.{first_line, line_count}
use Rattle.jri_canvas.specs.Layouts.{LieOn, laid_line}
use Rattle.jri_canvas.proofs.Canvases.{lie_as}
use Rattle.jr_rows.proofs.SomeLines.{lines_fit}
use Rattle.jri_memory.proofs.CanvasRows.{line_painted}
use Rattle.jri_memory.proofs.canvas.lay_row.Goals as goal

pub returns-clause-lie : goal.returns-clause-lie
returns-clause-lie c b is shows =
    let h = c.args.head.now in
    let form = c.args.form.now in
    let row = c.args.row in
    let y = c.lines_of-y.result.0 in
    let count = c.lines_of-y.result.1 in
    let groups = c.args.work.now.lines.groups in
    let valid : IsValid h = search (rules, c.assert_invariant.ensures) in
    let first : y ≡ first_line h row = c.lines_of-y.ensures.first in
    let lines : count ≡ line_count h row = c.lines_of-y.ensures.count in
    let same = λ (k : ℕ) (from : y ≤ k) (to : k < y + count).
    ap (laid_line form) (line_painted b h is valid groups row shows k (omega (arith, first, from)) (omega (arith, first, to, c.lines_of-y.ensures.few)) (omega (arith, to, c.lines_of-y.ensures.inside))) in
    let g = λ (k : ℕ). laid_line form (paint.line_of h (samples_of b) k) in
    let there = lie_as form (λ k. laid_line form (paint.line_of h (samples_in (record { head = h; groups = groups })) k)) g y (y + count) c.args.canvas.now c.lay_some.new.canvas same c.lay_some.ensures.lie in
    subst (λ (n : ℕ). LieOn form (first_line h row) (first_line h row + n) g c.args.canvas.now c.lay_some.new.canvas) lines
    (subst (λ (n : ℕ). LieOn form n (n + count) g c.args.canvas.now c.lay_some.new.canvas) first there)

pub slice_bounds-lay_some-end : goal.slice_bounds-lay_some-end
slice_bounds-lay_some-end c =
    let h = c.args.head.now in
    lines_fit c.lines_of-y.result.1 (8 * vertical_max h) c.bytes_before.result (paint.line_size h) (length c.args.lines.now) c.lines_of-y.ensures.few (c.bytes_before.ensures.value ∙ c.requires.line) c.requires.lines

pub slice_bounds-lay_some-end-2 : goal.slice_bounds-lay_some-end-2
slice_bounds-lay_some-end-2 c =
    let h = c.args.head.now in
    sym (length-take-le (c.lines_of-y.result.1 * c.bytes_before.result) c.args.lines.now (lines_fit c.lines_of-y.result.1 (8 * vertical_max h) c.bytes_before.result (paint.line_size h) (length c.args.lines.now) c.lines_of-y.ensures.few (c.bytes_before.ensures.value ∙ c.requires.line) c.requires.lines))

pub lay_some-requires-clause-lines : goal.lay_some-requires-clause-lines
lay_some-requires-clause-lines c =
    let h = c.args.head.now in
    length-take-le (c.lines_of-y.result.1 * c.bytes_before.result) c.args.lines.now (lines_fit c.lines_of-y.result.1 (8 * vertical_max h) c.bytes_before.result (paint.line_size h) (length c.args.lines.now) c.lines_of-y.ensures.few (c.bytes_before.ensures.value ∙ c.requires.line) c.requires.lines)
    ∙ ap (λ (k : ℕ). c.lines_of-y.result.1 * k) (c.bytes_before.ensures.value ∙ c.requires.line)
