use Rattle.jr_paint.proofs.Places.{place_of_lies, place_of_only}
use Rattle.jr_paint.specs.Geometry.{place_of}
use Rattle.jr_paint.proofs.geometry.exactly_one_place.Goals as goal

pub returns : goal.returns
returns c = λ across down x y a d. (place_of across down x y, (place_of_lies across down x y a d, place_of_only across down x y a d))
