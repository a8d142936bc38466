use Rattle.std.proofs.Common.{◌≡◌, ◌*◌, take, slice_index}
use Rattle.std.specs.List.{flat_map, range_with_len}
use Rattle.jr_segments.specs.declared.kind.Kind.TheVariants.{Ycc}
use Rattle.jr_paint.specs.Colours.{colour_of}
use Rattle.jr_paint.proofs.pixels.convert.Given as goal

abbrev pub invariant-loop-i : goal.invariant-loop-i
invariant-loop-i l = take (3 * l.i) l.out ≡ flat_map (λ k. colour_of Ycc (slice_index l.luma k) (slice_index l.cb k) (slice_index l.cr k)) (range_with_len 0 l.i)
