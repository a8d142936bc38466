use Rattle.std.proofs.Common.{ap, length, arith}
use Rattle.jr_cut.specs.PartialCut.{PartialCutValue}
use Rattle.jr_cut.proofs.PartialSegments.{count_of}
use Rattle.jr_cut.proofs.partial_cut.PartialCut.last_begun.Goals as goal

pub returns-clause-last : goal.returns-clause-last
returns-clause-last c = omega (arith, count_of c.self.inside.segments, c.len.ensures, ap (λ (v : PartialCutValue). length v.segments) c.self.view_is)
