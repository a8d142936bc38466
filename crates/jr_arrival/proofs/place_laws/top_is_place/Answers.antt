use Rattle.jr_arrival.proofs.GivenPlaces as given
use Rattle.jr_arrival.proofs.place_laws.top_is_place.Goals as goal

pub returns : goal.returns
returns c = λ x whole t scan from come. given.top_is_place x whole t scan from come
