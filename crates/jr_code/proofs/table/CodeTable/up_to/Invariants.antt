use Rattle.std.proofs.Common.{◌≡◌, ◌*◌, ◌≤◌, take}
use Rattle.std.specs.Prelude.{sum}
use Rattle.jr_code.specs.Code.{space, lengths, extent}
use Rattle.jr_code.proofs.table.CodeTable.up_to.Given as goal

abbrev pub invariant-loop-i : goal.invariant-loop-i
invariant-loop-i l = record {
  full : l.end * extent l.i ≡ space (lengths (take l.i l.self.counts));
  words_is : l.words ≡ sum (take l.i l.self.counts);
  small : l.words ≤ 255 * l.i;
}
