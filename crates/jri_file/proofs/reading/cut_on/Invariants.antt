use Rattle.std.proofs.Common.{◌≡◌, ◌≤◌, ◌-◌, ◌+◌, ◌++◌, ℕ, List, length, false}
use Rattle.std.specs.Io.KnownBytes.{Consumes}
use Rattle.jr_base.specs.Tally.{has_failed, known_in}
use Rattle.jr_base.specs.declared.limits.TheConstants.{MAX_FILE_BYTES}
use Rattle.jr_scan.specs.PartialScan.{HasCome}
use Rattle.jri_file.proofs.reading.cut_on.Given as goal

abbrev pub invariant-parts : goal.invariant-parts
invariant-parts g l = record {
  few : l.come ≤ MAX_FILE_BYTES + 1;
  unfailed : has_failed l.input ≡ false;
  head : l.scan.scan.head ≡ l.initial.scan.scan.head;
  read : (given : List ℕ) × Consumes (known_in g.R.Read.remaining l.initial.input) (known_in g.R.Read.remaining l.input) given × (l.come ≡ l.before + length given) × ((bytes : List ℕ) → HasCome l.initial.scan bytes → HasCome l.scan (bytes ++ given));
}

abbrev pub decreases-parts : goal.decreases-parts
decreases-parts g l = MAX_FILE_BYTES + 1 - l.come
