use Rattle.std.proofs.Common.{◌≡◌, ◌≤◌, ◌++◌, length, map, take, drop, sum}
use Rattle.std.specs.List.{All}
use Rattle.jr_damage.specs.Verdicts.{IsFileScan}
use Rattle.jr_mend.specs.Copies.{CopyValue}
use Rattle.jri_memory.specs.Mends.{files_of}
use Rattle.jri_memory.proofs.mend.read_copies.Given as goal

abbrev pub invariant-loop-k : goal.invariant-loop-k
invariant-loop-k l = (map (λ (c : CopyValue). c.file) l.copies.items ++ files_of (drop l.k l.sizes) (drop l.at l.files) ≡ files_of l.sizes l.files)
    × All (λ (c : CopyValue). IsFileScan c.file c.scan) l.copies.items
    × (length l.copies.items ≡ l.k) × (l.at ≤ length l.files) × (l.at ≡ sum (take l.k l.sizes))
