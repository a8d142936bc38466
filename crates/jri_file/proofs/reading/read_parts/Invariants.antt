use Rattle.std.proofs.Common.{◌≡◌, ◌≤◌, ◌<◌, ◌-◌, false, length, vec_len}
use Rattle.std.specs.Io.KnownBytes.{Consumes, prepend_known}
use Rattle.jr_base.specs.Tally.{has_failed, known_in}
use Rattle.jri_file.proofs.reading.read_parts.Given as goal

abbrev pub invariant-parts : goal.invariant-parts
invariant-parts g l = record {
  within : vec_len l.bytes ≤ l.limit;
  space : 0 < length l.space;
  unfailed : has_failed l.input ≡ false;
  read : Consumes (prepend_known l.initial.bytes.items (known_in g.R.Read.remaining l.initial.input)) (known_in g.R.Read.remaining l.input) l.bytes.items;
}

abbrev pub decreases-parts : goal.decreases-parts
decreases-parts g l = l.limit - vec_len l.bytes
