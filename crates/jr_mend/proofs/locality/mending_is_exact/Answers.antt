use Rattle.jr_mend.proofs.LocalLaws.{one_mark, one_sample, taken_from}
use Rattle.jr_mend.proofs.locality.mending_is_exact.Goals as goal

pub returns-clause-mark : goal.returns-clause-mark
returns-clause-mark c = λ copies choices file m n i choice copy j k f g chosen is a b. one_mark m.scan copy.scan n i j k f g (taken_from copies choices file m i choice copy chosen is) a b

pub returns-clause-samples : goal.returns-clause-samples
returns-clause-samples c = λ copies choices file m n i choice copy j k f g chosen is a b. one_sample m.scan copy.scan n i j k f g (taken_from copies choices file m i choice copy chosen is) a b
