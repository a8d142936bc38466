use Rattle.std.proofs.Common.{rules, ◌+◌}
use Rattle.jr_damage.proofs.Verdicts.{verdict_sound, verdict_damaged}
use Rattle.jr_damage.proofs.verdict.with_front.Goals as goal

pub returns-in-None : goal.returns-in-None
returns-in-None c = search (rules, verdict_sound c.args.scan.now c.args.i c.args.before c.requires.before (search (rules, c.requires.sound)))

pub returns-in-Some : goal.returns-in-Some
returns-in-Some c =
    search (rules, verdict_damaged c.args.scan.now c.args.i (c.args.before.damaged + 1) c.args.before c.lines_of.result c.joined.result c.requires.before (search (rules, c.requires.damaged)) (search (rules, c.lines_of.ensures.lines)) (search rules) c.joined.ensures.none c.joined.ensures.first c.joined.ensures.last)
