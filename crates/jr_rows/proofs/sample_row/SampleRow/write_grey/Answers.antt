use Rattle.std.proofs.Common.{sym, subst, ap, ◌∙◌, ◌≡◌, ℕ, ◌*◌, ◌<◌, [], length, slice_index_or}
use Rattle.jr_head.specs.Geometry.{blocks_of}
use Rattle.jr_rows.specs.Groups.{units_in}
use Rattle.jr_rows.specs.Rows.{HasSampleSpace}
use Rattle.jr_rows.specs.RowsValue.{SampleRowValue}
use Rattle.jr_rows.proofs.Lent.{all_back}
use Rattle.jr_rows.proofs.sample_row.SampleRow.write_grey.Goals as goal

pub write_grey-requires-clause-near : goal.write_grey-requires-clause-near
write_grey-requires-clause-near c =
    let had = subst (HasSampleSpace c.args.head.now) (sym c.self.view_is) c.requires.space in
    ap (λ z. length z) c.deref_mut.ensures.value ∙ had.blocks

pub write_grey-requires-clause-space : goal.write_grey-requires-clause-space
write_grey-requires-clause-space c =
    let had = subst (HasSampleSpace c.args.head.now) (sym c.self.view_is) c.requires.space in
    had.lines

pub returns-clause-space : goal.returns-clause-space
returns-clause-space c =
    let had = subst (HasSampleSpace c.args.head.now) (sym c.self.view_is) c.requires.space in
    let held = c.self.inside.blocks in
    let blocks = c.write_grey.new.blocks in
    let same : length blocks ≡ length held.items = c.write_grey.auto.blocks ∙ ap (λ z. length z) c.deref_mut.ensures.value in
    record {
      blocks = ap length (all_back held.len blocks held.items (held.ok.0 ∙ sym same)) ∙ same ∙ had.blocks;
      lines = c.write_grey.ensures.space;
      space = had.space;
    }

pub returns-clause-kept : goal.returns-clause-kept
returns-clause-kept c =
    let h = c.args.head.now in
    let new = c.write_grey.new.lines.groups in
    subst (λ (r : SampleRowValue). (k : ℕ) → k < c.args.done * blocks_of h → slice_index_or (units_in h new) k [] ≡ slice_index_or (units_in h r.lines.groups) k []) c.self.view_is c.write_grey.ensures.kept
