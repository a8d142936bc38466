use Rattle.std.proofs.Common.{rules}
use Rattle.jr_wall.proofs.decoding.Decoding.finish.Goals as goal

pub sweep-requires-clause-blank : goal.sweep-requires-clause-blank
sweep-requires-clause-blank c = search rules

pub returns : goal.returns
returns c = search rules
