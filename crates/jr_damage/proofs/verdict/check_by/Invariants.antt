use Rattle.jr_damage.specs.Verdicts.{IsVerdictOf}
use Rattle.jr_damage.proofs.verdict.check_by.Given as goal

abbrev pub invariant-loop-i : goal.invariant-loop-i
invariant-loop-i g l = IsVerdictOf l.scan l.i l.verdict
