use Rattle.std.proofs.Common.{◌≤◌}
use Rattle.std.specs.List.{All}
use Rattle.std.specs.Vec.{vec_capacity}
use Rattle.jr_mcu.specs.Block.{IsInDcRange}
use Rattle.jr_mend.proofs.scan_position.ScanPosition.reach.Given as goal

abbrev pub invariant-loop : goal.invariant-loop
invariant-loop l = All IsInDcRange l.position.place.predictions × (vec_capacity l.fn.buffer ≤ vec_capacity l.buffer)
