use Rattle.std.proofs.Common.{rules}
use Rattle.jr_scan.proofs.FewMcus.{few_mcus}
use Rattle.jr_scan.proofs.interval.Interval.most_mcus.Goals as goal

pub returns-clause-enough : goal.returns-clause-enough
returns-clause-enough c = λ k zs f. let few = few_mcus c.args.self.now k zs (search rules) f in let claimed = f.at_most in search (rules, few, claimed)
