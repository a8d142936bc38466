use Rattle.std.proofs.Common.{◌≡◌, ◌++◌, ℕ, suc, List, [], length, replicate}
use Rattle.jr_mend.specs.Splice.{joined_intervals}
use Rattle.jr_mend.proofs.reading.write_after.Given as goal

abbrev pub invariant-loop-i : goal.invariant-loop-i
invariant-loop-i l = (front : List ℕ) (raws : List (List ℕ)) → length raws ≡ suc l.k → l.initial.bytes.items ≡ front ++ joined_intervals 0 raws → l.bytes.items ≡ front ++ joined_intervals 0 (raws ++ replicate l.i [])
