use Rattle.std.proofs.Common.{◌≡◌, ℕ, ◌<◌, get_or}
use Rattle.jr_mend.specs.Copies.{CopyValue}
use Rattle.jr_mend.proofs.mending.other_head.Given as goal

abbrev pub invariant-loop-k : goal.invariant-loop-k
invariant-loop-k l = (j : ℕ) (c : CopyValue) → j < l.k → (get_or l.copies j c).scan.head ≡ (get_or l.copies 0 (get_or l.copies j c)).scan.head
