use Rattle.jr_arrival.proofs.Standing.{passes_grey}
use Rattle.jr_arrival.proofs.file_source.FileSourceMcuSource.pass_grey.Goals as goal

pub returns : goal.returns
returns c h is none few = passes_grey h c.args.self.now c.args.mcus is none.stuck few
