use Rattle.jr_arrival.proofs.GivenPlaces as given
use Rattle.jr_arrival.proofs.place_laws.place_in_part.Goals as goal

pub returns : goal.returns
returns c = λ x y h whole t p is_x is_y from to is. given.place_in_part x y h whole t p is_x is_y from to is
