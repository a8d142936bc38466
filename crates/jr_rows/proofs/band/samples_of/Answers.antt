use Rattle.std.proofs.Common.{◌∙◌, ap, slice_index}
use Rattle.jr_rows.proofs.GroupSamples.{flat_sample}
use Rattle.jr_rows.proofs.band.samples_of.Goals as goal

pub returns-clause-samples : goal.returns-clause-samples
returns-clause-samples c k lt = ap (λ l. slice_index l k) c.as_flattened.ensures.value ∙ flat_sample c.args.groups.now c.told-groups k lt
