use Rattle.jr_head.proofs.BaselineLaws as baseline
use Rattle.jr_head.proofs.laws.baseline_is_accepted.Goals as goal

pub returns : goal.returns
returns c = baseline.baseline_is_accepted
