use Rattle.jr_scan.proofs.ScanLaws.{one_front}
use Rattle.jr_piece.proofs.Strips.{one_strip}
use Rattle.jr_piece.proofs.laws.one_strip.Goals as goal

pub returns : goal.returns
returns c = one_strip one_front
