use Rattle.std.proofs.Common.{rules, arith, ap, ◌∙◌, ◌≡◌, ℕ, ◌+◌, ◌*◌, ◌≤◌}
use Rattle.jr_head.specs.Geometry.{IsValid, vertical_max}
use Rattle.jr_paint.specs.Lines.{next_lines_of}
use Rattle.jr_picture.specs.Samples.{samples_of}
use Rattle.jr_rows.specs.BandValue.{BandValue}
use Rattle.jr_rows.specs.Bands.{samples_in}
use Rattle.jr_rows.specs.Rows.{first_line, line_count}
use Rattle.jr_rows.proofs.PaintedRows.{row_painted}
use Rattle.jr_rows.proofs.painting.paint_row.Goals as goal

pub returns : goal.returns
returns c b same shows =
    let h = c.args.head.now in
    let row = c.args.row in
    let y = c.lines_of-y.result.0 in
    let count = c.lines_of-y.result.1 in
    let valid : IsValid h = search (rules, c.of-band.ensures.valid) in
    let first_is : y ≡ first_line h row = search rules in
    let start : y ≡ first_line h row + 0 = omega (arith, first_is) in
    let lines : count ≡ line_count h row = search rules in
    let most : count ≤ 8 * vertical_max h = search rules in
    let few : 0 + count ≤ 8 * vertical_max h = omega (arith, most) in
    let inside : y + count ≤ h.height = search rules in
    c.paint_lines.ensures ∙ ap (λ (v : BandValue). next_lines_of v.head (samples_in v) y count) c.of-band.ensures.value ∙ row_painted b h same valid c.args.samples.now.groups row shows y count 0 start few inside
    ∙ ap (λ (k : ℕ). next_lines_of h (samples_of b) k count) first_is ∙ ap (next_lines_of h (samples_of b) (first_line h row)) lines
