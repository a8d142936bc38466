use Rattle.std.proofs.Common.{rules, arith, ap, ◌∙◌, ◌≡◌, ℕ, ◌+◌, ◌-◌, ◌*◌, ◌<◌, ◌≤◌, length}
use Rattle.std.proofs.lemmas.Nat.{mul-le}
use Rattle.jr_paint.specs.Lines as paint
use Rattle.jr_rows.specs.Bands.{samples_in}
use Rattle.jri_canvas.specs.Layouts.{laid_line, line_in, plain_line_size}
use Rattle.jri_canvas.proofs.Canvases.{lie_as}
use Rattle.jri_memory.proofs.CanvasRows.{line_long, piece_at}
use Rattle.jri_memory.proofs.canvas.lay_some.Goals as goal

pub lay_lines-requires-clause-few : goal.lay_lines-requires-clause-few
lay_lines-requires-clause-few c =
    let size = paint.line_size c.args.head.now in
    let long : length c.paint_some.new.pixels ≡ c.args.count * size = search (rules, arith, c.paint_some.auto.pixels) in
    let some : 1 ≤ size = search (rules, arith) in
    let most = mul-le c.args.count 1 c.args.count size (omega arith) some in
    omega (arith, long, most)

pub returns-clause-lie : goal.returns-clause-lie
returns-clause-lie c =
    let h = c.args.head.now in
    let form = c.args.form.now in
    let y = c.args.y in
    let f = samples_in (record { head = h; groups = c.args.work.now.lines.groups }) in
    let part = c.paint_some.new.pixels in
    let same = λ (k : ℕ) (from : y ≤ k) (to : k < y + c.args.count).
    let here : y + (k - y) ≡ k = omega (arith, from) in
    ap (laid_line form)
    (ap (λ (n : ℕ). line_in n part (k - y)) c.requires.line ∙ ap (λ z. line_in (paint.line_size h) z (k - y)) c.paint_some.ensures.lines
    ∙ piece_at (paint.line_of h f) (paint.line_size h) (line_long h f) y c.args.count (k - y) (omega (arith, from, to)) ∙ ap (paint.line_of h f) here) in
    lie_as form (λ k. laid_line form (line_in (plain_line_size form) part (k - y))) (λ k. laid_line form (paint.line_of h f k)) y (y + c.args.count) c.args.canvas.now c.lay_lines.new.canvas same c.lay_lines.ensures

pub lay_lines-requires-clause-places : goal.lay_lines-requires-clause-places
lay_lines-requires-clause-places c k from to = c.requires.places k (omega arith) (omega (arith, to, c.requires.inside))
