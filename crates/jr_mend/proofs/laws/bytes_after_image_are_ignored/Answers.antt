use Rattle.jr_mend.proofs.TrailerLaw.{bytes_after_end, file_after_end}
use Rattle.jr_mend.proofs.laws.bytes_after_image_are_ignored.Goals as goal

pub returns-clause-scan : goal.returns-clause-scan
returns-clause-scan c = bytes_after_end

pub returns-clause-file : goal.returns-clause-file
returns-clause-file c = file_after_end
