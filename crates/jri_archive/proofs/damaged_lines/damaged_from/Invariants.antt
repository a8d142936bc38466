use Rattle.jri_archive.proofs.Undecoded.{NoneDamaged}
use Rattle.jri_archive.proofs.damaged_lines.damaged_from.Given as goal

abbrev pub invariant-loop-i : goal.invariant-loop-i
invariant-loop-i l = NoneDamaged l.scan l.i
