use Rattle.jr_scan.proofs.ScanLaws.{one_decoding, one_front}
use Rattle.jr_piece.proofs.Outcomes as outcomes
use Rattle.jr_piece.proofs.laws.one_outcome.Goals as goal

pub returns : goal.returns
returns c = outcomes.one_outcome one_decoding one_front
