use Rattle.std.specs.List.{All}
use Rattle.jr_mcu.specs.Block.{IsInDcRange}
use Rattle.jr_mend.proofs.scan_position.ScanPosition.after_markers.Given as goal

abbrev pub invariant-loop : goal.invariant-loop
invariant-loop l = All IsInDcRange l.position.place.predictions
