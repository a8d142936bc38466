use Rattle.std.proofs.Common.{◌≡◌, ◌*◌, take, slice_index}
use Rattle.std.specs.List.{flat_map, range_with_len}
use Rattle.jr_segments.specs.declared.kind.Kind.TheVariants.{Ycc}
use Rattle.jr_paint.specs.Colours.{colour_of}
use Rattle.jr_paint.proofs.pixels.convert_whole_blocks.Given as goal

abbrev pub invariant-loop-n : goal.invariant-loop-n
invariant-loop-n l = take (3 * (32 * l.n)) l.out ≡ flat_map (λ k. colour_of Ycc (slice_index l.luma k) (slice_index l.cb k) (slice_index l.cr k)) (range_with_len 0 (32 * l.n))
