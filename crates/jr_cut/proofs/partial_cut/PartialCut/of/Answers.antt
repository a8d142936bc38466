use Rattle.std.proofs.Common.{refl}
use Rattle.jr_cut.proofs.PartialSegments.{few_datas, read_none}
use Rattle.jr_cut.proofs.partial_cut.PartialCut.of.Goals as goal

pub returns-clause-count : goal.returns-clause-count
returns-clause-count c = few_datas c.read_on.new.self c.read_on.ensures.is

pub returns-clause-rest : goal.returns-clause-rest
returns-clause-rest c = c.in_ok-ended.ensures.rest _ _ (read_none c.args.start _ c.new.ensures.items refl refl c.requires.unread)

pub returns-clause-cut : goal.returns-clause-cut
returns-clause-cut c = c.in_ok-ended.ensures.cut _ _ (read_none c.args.start _ c.new.ensures.items refl refl c.requires.unread)
