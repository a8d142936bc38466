use Rattle.std.proofs.Common.{◌≡◌, ◌≤◌, ◌+◌, ◌-◌, false, vec_len}
use Rattle.std.specs.Io.KnownBytes.{Consumes}
use Rattle.jr_base.specs.declared.limits.TheConstants.{MAX_FILE_BYTES}
use Rattle.jr_base.specs.Tally.{has_failed, known_in}
use Rattle.jri_file.proofs.heading.read_file_head.Given as goal

abbrev pub invariant-parts : goal.invariant-parts
invariant-parts g l = record {
  few : vec_len l.bytes ≤ MAX_FILE_BYTES + 1;
  some : 2 ≤ l.enough;
  enough : l.enough ≤ MAX_FILE_BYTES + 1;
  unfailed : has_failed l.input ≡ false;
  read : Consumes (known_in g.R.Read.remaining l.initial.input) (known_in g.R.Read.remaining l.input) l.bytes.items;
}

abbrev pub decreases-parts : goal.decreases-parts
decreases-parts g l = MAX_FILE_BYTES + 1 - l.enough
