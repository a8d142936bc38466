use Rattle.std.proofs.Common.{sym, subst, ap, ◌∙◌, ◌≡◌, ℕ, List, length, le_of_eq}
use Rattle.jr_rows.specs.Rows.{HasSampleSpace, PaintsRowLines}
use Rattle.jr_rows.specs.RowsValue.{SampleRowValue}
use Rattle.jr_rows.proofs.Lent.{all_back}
use Rattle.jr_rows.proofs.sample_row.SampleRow.paint_row.Goals as goal

pub paint_row-requires-clause-lines : goal.paint_row-requires-clause-lines
paint_row-requires-clause-lines c =
    let had = subst (HasSampleSpace c.args.head.now) (sym c.self.view_is) c.requires.space in
    le_of_eq (sym (ap (λ (l : List ℕ). length l) c.deref_mut.ensures.value ∙ had.space))

pub paint_row-requires-clause-space : goal.paint_row-requires-clause-space
paint_row-requires-clause-space c =
    let had = subst (HasSampleSpace c.args.head.now) (sym c.self.view_is) c.requires.space in
    had.lines

pub returns-clause-space : goal.returns-clause-space
returns-clause-space c =
    let had = subst (HasSampleSpace c.args.head.now) (sym c.self.view_is) c.requires.space in
    let held = c.self.inside.space in
    let space = c.paint_row.new.space in
    let same : length space ≡ length held.items = c.paint_row.auto.space ∙ ap (λ (l : List ℕ). length l) c.deref_mut.ensures.value in
    record {
      blocks = had.blocks;
      lines = had.lines;
      space = ap length (all_back held.len space held.items (held.ok.0 ∙ sym same)) ∙ same ∙ had.space;
    }

pub paint_row-requires-clause-row : goal.paint_row-requires-clause-row
paint_row-requires-clause-row c = c.requires.row

pub paint_row-requires-clause-pixels : goal.paint_row-requires-clause-pixels
paint_row-requires-clause-pixels c = c.requires.pixels

pub returns-clause-lines : goal.returns-clause-lines
returns-clause-lines c = subst (λ (r : SampleRowValue). PaintsRowLines c.args.head.now c.args.row r.lines.groups c.paint_row.new.pixels) c.self.view_is c.paint_row.ensures
