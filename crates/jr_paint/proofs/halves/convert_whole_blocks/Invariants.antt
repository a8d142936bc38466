use Rattle.std.proofs.Common.{◌≡◌, ◌*◌, ◌/◌, take, slice_index}
use Rattle.std.specs.List.{flat_map, range_with_len}
use Rattle.jr_segments.specs.declared.kind.Kind.TheVariants.{Ycc}
use Rattle.jr_paint.specs.Colours.{colour_of}
use Rattle.jr_paint.proofs.halves.convert_whole_blocks.Given as goal

abbrev pub invariant-loop-n : goal.invariant-loop-n
invariant-loop-n l = record {
  line : take (3 * (32 * l.n)) l.first ≡ flat_map (λ k. colour_of Ycc (slice_index l.luma k) (slice_index l.cb (k / 2)) (slice_index l.cr (k / 2))) (range_with_len 0 (32 * l.n));
  next : take (3 * (32 * l.n)) l.second ≡ flat_map (λ k. colour_of Ycc (slice_index l.next_luma k) (slice_index l.cb (k / 2)) (slice_index l.cr (k / 2))) (range_with_len 0 (32 * l.n));
}
