use Rattle.std.proofs.Common.{sym, subst, ap, ◌∙◌, ◌≡◌, ℕ, ◌+◌, ◌*◌, ◌≤◌, List, length, le_of_eq}
use Rattle.jr_paint.specs.Lines.{line_space, line_size, next_lines_of}
use Rattle.jr_rows.specs.BandValue.{BandValue}
use Rattle.jr_rows.specs.Bands.{samples_in}
use Rattle.jr_rows.specs.Rows.{HasSampleSpace}
use Rattle.jr_rows.specs.RowsValue.{SampleRowValue}
use Rattle.jr_rows.proofs.Lent.{all_back}
use Rattle.jr_rows.proofs.sample_row.SampleRow.paint_some.Goals as goal

pub paint_lines-requires-clause-down : goal.paint_lines-requires-clause-down
paint_lines-requires-clause-down c = subst (λ (v : BandValue). c.args.y + c.args.count ≤ v.head.height) (sym c.of-band.ensures.value) c.requires.inside

pub paint_lines-requires-clause-space : goal.paint_lines-requires-clause-space
paint_lines-requires-clause-space c =
    let had = subst (HasSampleSpace c.args.head.now) (sym c.self.view_is) c.requires.space in
    let long : length c.deref_mut.result.now ≡ line_space c.args.head.now = ap (λ (l : List ℕ). length l) c.deref_mut.ensures.value ∙ had.space in
    subst (λ (v : BandValue). line_space v.head ≤ length c.deref_mut.result.now) (sym c.of-band.ensures.value) (le_of_eq (sym long))

pub paint_lines-requires-clause-pixels : goal.paint_lines-requires-clause-pixels
paint_lines-requires-clause-pixels c = subst (λ (v : BandValue). length c.args.pixels.now ≡ c.args.count * line_size v.head) (sym c.of-band.ensures.value) c.requires.pixels

pub returns-clause-space : goal.returns-clause-space
returns-clause-space c =
    let had = subst (HasSampleSpace c.args.head.now) (sym c.self.view_is) c.requires.space in
    let held = c.self.inside.space in
    let space = c.paint_lines.new.space in
    let same : length space ≡ length held.items = c.paint_lines.auto.space ∙ ap (λ (l : List ℕ). length l) c.deref_mut.ensures.value in
    record {
      blocks = had.blocks;
      lines = had.lines;
      space = ap length (all_back held.len space held.items (held.ok.0 ∙ sym same)) ∙ same ∙ had.space;
    }

pub returns-clause-kept : goal.returns-clause-kept
returns-clause-kept c = ap (λ (r : SampleRowValue). r.lines) c.self.view_is

pub returns-clause-lines : goal.returns-clause-lines
returns-clause-lines c =
    let h = c.args.head.now in
    c.paint_lines.ensures ∙ ap (λ (v : BandValue). next_lines_of v.head (samples_in v) c.args.y c.args.count) c.of-band.ensures.value
    ∙ ap (λ (r : SampleRowValue). next_lines_of h (samples_in (record { head = h; groups = r.lines.groups })) c.args.y c.args.count) c.self.view_is
