use Rattle.jr_head.proofs.OneHeadLaws as heads
use Rattle.jr_head.proofs.laws.one_head_or_one_fault.Goals as goal

pub returns : goal.returns
returns c = heads.one_head_or_one_fault
