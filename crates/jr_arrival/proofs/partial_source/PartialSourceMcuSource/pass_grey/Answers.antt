use Rattle.jr_arrival.proofs.PartialSteps.{passes_grey}
use Rattle.jr_arrival.proofs.partial_source.PartialSourceMcuSource.pass_grey.Goals as goal

pub returns : goal.returns
returns c h is none few = passes_grey h c.args.self.now is none.stuck c.args.mcus few
