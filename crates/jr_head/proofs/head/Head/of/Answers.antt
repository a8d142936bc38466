-- An accepted frame has a valid header.
use Rattle.std.proofs.Common.{◌∙◌, ap}
use Rattle.jr_segments.specs.Frames.{IsAccepted}
use Rattle.jr_head.specs.Geometry.{AreValid, order_from, greatest_across, greatest_down}
use Rattle.jr_head.proofs.AcceptedLaws.{valid, few_there}
use Rattle.jr_head.proofs.head.Head.of.Goals as goal

pub block_order-requires-clause-few : goal.block_order-requires-clause-few
block_order-requires-clause-few c =
    let accepted : IsAccepted c.in-Some.frame = rw c.in-Some.is at c.requires.frame in
    let l : AreValid c.kind_from-kind.result c.in_ok-components.components.items =
    rw (c.kind_from-kind.ensures, c.is_single.ensures) (valid c.in-Some.frame c.in_ok-components.components.items c.args.definitions.now.is_jfif c.args.definitions.now.transform accepted c.in_ok-components.ensures.factors) in
    rw c.as_slice.ensures.value (few_there c.kind_from-kind.result c.in_ok-components.components.items l.count)

pub block_order-requires-clause-sampled : goal.block_order-requires-clause-sampled
block_order-requires-clause-sampled c =
    let accepted : IsAccepted c.in-Some.frame = rw c.in-Some.is at c.requires.frame in
    let l : AreValid c.kind_from-kind.result c.in_ok-components.components.items =
    rw (c.kind_from-kind.ensures, c.is_single.ensures) (valid c.in-Some.frame c.in_ok-components.components.items c.args.definitions.now.is_jfif c.args.definitions.now.transform accepted c.in_ok-components.ensures.factors) in
    rw c.as_slice.ensures.value l.sampled

pub invariant_of-result : goal.invariant_of-result
invariant_of-result c =
    let accepted : IsAccepted c.in-Some.frame = rw c.in-Some.is at c.requires.frame in
    let l : AreValid c.kind_from-kind.result c.in_ok-components.components.items =
    rw (c.kind_from-kind.ensures, c.is_single.ensures) (valid c.in-Some.frame c.in_ok-components.components.items c.args.definitions.now.is_jfif c.args.definitions.now.transform accepted c.in_ok-components.ensures.factors) in
    record {
      valid = record {
        components = l;
        wide = accepted.wide;
        narrow = accepted.narrow;
        high = accepted.high;
        low = accepted.low;
        pixels = accepted.pixels;
        after = c.requires.after;
      };
      order = c.in_ok-order.ensures ∙ ap (order_from 0) c.as_slice.ensures.value;
      horizontal = c.greatest_horizontal-horizontal_max.ensures ∙ ap greatest_across c.as_slice-2.ensures.value;
      vertical = c.greatest_vertical-vertical_max.ensures ∙ ap greatest_down c.as_slice-3.ensures.value;
    }
