use Rattle.jr_head.proofs.HeadStays as heads
use Rattle.jr_mend.proofs.laws.header_stays.Goals as goal

pub returns : goal.returns
returns c = λ file more h head small. heads.header_stays file more h head small
