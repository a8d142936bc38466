use Rattle.jr_arrival.proofs.Longest.{none_in_long}
use Rattle.jr_arrival.proofs.place_laws.no_mcu_in_long_data.Goals as goal

pub returns : goal.returns
returns c = λ i more p few within long none. none_in_long i more p few within long none
