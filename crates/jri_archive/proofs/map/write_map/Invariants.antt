use Rattle.std.proofs.Common.{◌≤◌, length}
use Rattle.jr_damage.specs.Coded.{IsNextAt}
use Rattle.jri_archive.specs.Doubts.{IsDoubtIn}
use Rattle.jri_archive.proofs.map.write_map.Given as goal

abbrev pub invariant-loop-i : goal.invariant-loop-i
invariant-loop-i g l = (l.at ≤ length l.file) × IsNextAt l.file l.checked.scan l.i l.at × IsDoubtIn l.file l.checked.scan l.i l.is_doubtful
