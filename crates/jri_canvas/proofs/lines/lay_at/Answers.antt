use Rattle.std.proofs.Common.{rules, arith, ◌≡◌, ◌+◌, ◌-◌, ◌*◌, length}
use Rattle.jri_canvas.specs.Layouts.{laid_line, laid_line_size}
use Rattle.jri_canvas.proofs.Canvases.{lie_one}
use Rattle.jri_canvas.proofs.lines.lay_at.Goals as goal

pub returns : goal.returns
returns c =
    let form = c.args.form.now in
    let at = c.args.number * form.stride in
    let size = c.bytes-size.result in
    let long : length c.lay_line.new.out ≡ laid_line_size form = search (rules, arith, c.lay_line.auto.out) in
    let whole : at + size - at ≡ laid_line_size form = omega (arith, c.bytes-size.ensures.value) in
    search (rules, lie_one form (λ _. laid_line form c.args.line.now) c.args.number (at + size - at) c.args.canvas.now c.lay_line.new.out whole long c.requires.place c.lay_line.ensures)
