use Rattle.std.proofs.Common.{◌≡◌, ◌+◌, ◌*◌, ◌<◌, ℕ, [], slice_index_or, subst}
use Rattle.jr_head.specs.HeadValue.{HeadValue}
use Rattle.jr_head.specs.Geometry.{blocks_of}
use Rattle.jr_piece.specs.Outcome.{unit_of}
use Rattle.jr_rows.specs.Groups.{units_in}
use Rattle.jr_arrival.proofs.mcu_sink.SampleRowMcuSink.take.Goals as goal

pub returns-clause-taken : goal.returns-clause-taken
returns-clause-taken c read =
    let d = c.decode_whole.ensures.decoded in
    let units = units_in c.args.head.now c.decode_whole.new.self.lines.groups in
    record {
      blocks = d.blocks;
      read = d.read [] read;
      adds = λ keep. record {
        kept = c.decode_whole.ensures.kept;
        each = subst (λ (g : HeadValue). (k : ℕ) → k < c.decode_whole.result * blocks_of g → slice_index_or units (c.args.done * blocks_of g + k) [] ≡ unit_of g d.blocks k) c.requires.head d.each;
      };
    }
