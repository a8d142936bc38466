use Rattle.std.proofs.Common.{rules}
use Rattle.std.specs.Arc.{arc_value}
use Rattle.jri_engine.proofs.ResyncLemmas.{own_scan}
use Rattle.jri_engine.proofs.resync.cut_in_step.Goals as goal

pub returns-in-Ok-clause-scan : goal.returns-in-Ok-clause-scan
returns-in-Ok-clause-scan c =
    own_scan c.args.file.items c.args.head (arc_value c.in-Ok.scan) _ c.requires.in_step c.in-Ok.ensures.head c.in-Ok.ensures.scan (search (rules, c.new.ensures.items))
