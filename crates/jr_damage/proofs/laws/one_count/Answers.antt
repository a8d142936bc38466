use Rattle.jr_damage.proofs.Verdicts.{one_count}
use Rattle.jr_damage.proofs.laws.one_count.Goals as goal

pub returns : goal.returns
returns c = λ s n a b x y. one_count s n a b x y
