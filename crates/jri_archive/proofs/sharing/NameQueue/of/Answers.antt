use Rattle.std.proofs.Common.{arith}
use Rattle.jri_archive.proofs.sharing.NameQueue.of.Goals as goal

pub invariant_of-result : goal.invariant_of-result
invariant_of-result g c = record {
  few = λ all known. (c.requires all known).1;
  within = λ all known going. omega arith;
  left = λ all known going. (c.requires all known).0;
  over = λ all known over _. absurd (let e = over in cc);
}
