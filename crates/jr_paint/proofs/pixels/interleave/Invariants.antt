use Rattle.std.proofs.Common.{◌≡◌, ◌*◌, take, slice_index}
use Rattle.std.specs.List.{flat_map, range_with_len}
use Rattle.jr_segments.specs.declared.kind.Kind.TheVariants.{Rgb}
use Rattle.jr_paint.specs.Colours.{colour_of}
use Rattle.jr_paint.proofs.pixels.interleave.Given as goal

abbrev pub invariant-loop-i : goal.invariant-loop-i
invariant-loop-i l = take (3 * l.i) l.out ≡ flat_map (λ k. colour_of Rgb (slice_index l.red k) (slice_index l.green k) (slice_index l.blue k)) (range_with_len 0 l.i)
