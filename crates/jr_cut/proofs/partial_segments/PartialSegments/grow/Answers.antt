use Rattle.std.proofs.Common.{ap, length, length-drop, refl, arith}
use Rattle.jr_cut.proofs.PartialSegments.{have_grown, open_grown}
use Rattle.jr_cut.proofs.partial_segments.PartialSegments.grow.Goals as goal

pub returns-clause-is : goal.returns-clause-is
returns-clause-is c = open_grown _ _ c.unstuff.result c.requires refl refl refl refl c.unstuff.ensures.within c.unstuff.ensures.data c.unstuff.ensures.rest

pub returns-clause-all : goal.returns-clause-all
returns-clause-all c = have_grown _ _ c.unstuff.result c.requires refl refl refl refl c.unstuff.ensures.within c.unstuff.ensures.data c.unstuff.ensures.rest

pub returns-clause-rest : goal.returns-clause-rest
returns-clause-rest c = omega (arith, ap length c.unstuff.ensures.rest, length-drop c.unstuff.result c.args.self.now.bytes.rest)
