use Rattle.jr_mend.proofs.LocalLaws.{one_mark, one_sample, same_line}
use Rattle.jr_mend.proofs.ScanOfCopies.{same_interval}
use Rattle.jr_mend.proofs.locality.damage_is_local.Goals as goal

pub returns-clause-mark : goal.returns-clause-mark
returns-clause-mark c = λ s t n i k m f g head one other same. one_mark s t n i k m f g (same_interval s t i head same) one other

pub returns-clause-samples : goal.returns-clause-samples
returns-clause-samples c = λ s t n i k m f g head one other same. one_sample s t n i k m f g (same_interval s t i head same) one other

pub returns-clause-lines : goal.returns-clause-lines
returns-clause-lines c = λ s t n line k m f g head one other. same_line s t n k m f g head one other line
