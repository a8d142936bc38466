use Rattle.std.proofs.Common.{List, ℕ, [], get_or, rules}
use Rattle.jr_cut.specs.Coded.{IsSpelledAt}
use Rattle.jr_mend.proofs.file_copy.FileCopy.unstuff.Goals as goal

pub returns-clause-data : goal.returns-clause-data
returns-clause-data c i segment =
    let bytes : List ℕ = get_or c.args.self.now.scan.intervals i [] in
    let fact = segment.spelled in
    let spelled : IsSpelledAt c.self.inside.file.now c.args.span bytes = search (rules, fact) in
    c.unstuff_at.ensures.data bytes spelled
