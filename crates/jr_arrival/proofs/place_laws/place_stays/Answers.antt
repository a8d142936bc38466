use Rattle.jr_arrival.proofs.GivenPlaces as given
use Rattle.jr_arrival.proofs.place_laws.place_stays.Goals as goal

pub returns : goal.returns
returns c = λ x more all whole t p is. given.place_stays x more all whole t p is
