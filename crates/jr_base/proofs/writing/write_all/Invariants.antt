use Rattle.std.proofs.Common.{◌≡◌, ◌≤◌, ◌-◌, false, take, length}
use Rattle.std.specs.Io.KnownBytes.{Appends}
use Rattle.jr_base.specs.Tally.{has_failed, known_in}
use Rattle.jr_base.proofs.writing.write_all.Given as goal

abbrev pub invariant-parts : goal.invariant-parts
invariant-parts g l = record {
  within : l.at ≤ length l.bytes;
  unfailed : has_failed l.out ≡ false;
  sent : Appends (known_in g.W.Write.contents l.initial.out) (known_in g.W.Write.contents l.out) (take l.at l.bytes);
}

abbrev pub decreases-parts : goal.decreases-parts
decreases-parts g l = length l.bytes - l.at
