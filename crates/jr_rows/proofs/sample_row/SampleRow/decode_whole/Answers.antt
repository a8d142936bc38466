use Rattle.std.proofs.Common.{sym, subst, ap, ◌∙◌, ◌≡◌, ℕ, ◌*◌, ◌<◌, [], length, slice_index_or}
use Rattle.jr_head.specs.Geometry.{blocks_of}
use Rattle.jr_rows.specs.Groups.{units_in}
use Rattle.jr_rows.specs.Rows.{HasSampleSpace}
use Rattle.jr_rows.specs.RowsValue.{SampleRowValue}
use Rattle.jr_rows.proofs.Lent.{all_back}
use Rattle.jr_rows.proofs.sample_row.SampleRow.decode_whole.Goals as goal

pub decode_whole-requires-clause-near : goal.decode_whole-requires-clause-near
decode_whole-requires-clause-near c =
    let had = subst (HasSampleSpace c.args.head.now) (sym c.self.view_is) c.requires.space in
    ap (λ z. length z) c.deref_mut.ensures.value ∙ had.blocks

pub decode_whole-requires-clause-space : goal.decode_whole-requires-clause-space
decode_whole-requires-clause-space c =
    let had = subst (HasSampleSpace c.args.head.now) (sym c.self.view_is) c.requires.space in
    had.lines

pub returns-clause-space : goal.returns-clause-space
returns-clause-space c =
    let had = subst (HasSampleSpace c.args.head.now) (sym c.self.view_is) c.requires.space in
    let held = c.self.inside.blocks in
    let blocks = c.decode_whole.new.blocks in
    let same : length blocks ≡ length held.items = c.decode_whole.auto.blocks ∙ ap (λ z. length z) c.deref_mut.ensures.value in
    record {
      blocks = ap length (all_back held.len blocks held.items (held.ok.0 ∙ sym same)) ∙ same ∙ had.blocks;
      lines = c.decode_whole.ensures.space;
      space = had.space;
    }

pub returns-clause-kept : goal.returns-clause-kept
returns-clause-kept c =
    let h = c.args.head.now in
    let new = c.decode_whole.new.lines.groups in
    subst (λ (r : SampleRowValue). (k : ℕ) → k < c.args.done * blocks_of h → slice_index_or (units_in h new) k [] ≡ slice_index_or (units_in h r.lines.groups) k []) c.self.view_is c.decode_whole.ensures.kept
