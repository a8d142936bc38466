use Rattle.std.proofs.Common.{◌≡◌, ◌<◌, ◌≤◌, length}
use Rattle.std.specs.List.{All}
use Rattle.std.specs.Vec.{vec_capacity}
use Rattle.jr_mcu.specs.Block.{IsInDcRange}
use Rattle.jr_mend.specs.Combined.{AreBetween, AreBytesByRuns}
use Rattle.jr_mend.proofs.combining.choose_runs.Given as goal

abbrev pub invariant-loop : goal.invariant-loop
invariant-loop l = (length l.file ≡ length l.fn.file) × (l.at ≤ length l.fn.file) × All IsInDcRange l.position.place.predictions × (length l.file < vec_capacity l.buffers.data) × AreBetween l.fn.head.scan_at l.at l.runs.items × AreBytesByRuns l.copies l.runs.items l.file
