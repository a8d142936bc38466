use Rattle.jr_cut.proofs.Splits.{split_cut}
use Rattle.jr_arrival.proofs.place_laws.split_segment.Goals as goal

pub returns : goal.returns
returns c = λ n k at raw found tail datas end is cut. let s = split_cut n k at raw found tail datas end is cut in (s.rest, s.others, s.is, s.cut, s.none)
