use Rattle.std.proofs.Common.{rules, arith, refl, inr}
use Rattle.jri_memory.proofs.laying.form_of.Goals as goal

pub returns-then-stride-bytes-clause-none : goal.returns-then-stride-bytes-clause-none
returns-then-stride-bytes-clause-none c _ = inr (record {
  form = record { width = c.args.width; pixels = c.args.pixels; layout = c.in_ok-of_number.field-0; stride = c.args.stride };
  numbers = record { width_is = refl; components_are = refl; stride_is = refl; layout_is = search rules };
  wide = search (rules, arith);
})
