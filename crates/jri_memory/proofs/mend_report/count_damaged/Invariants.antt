use Rattle.std.proofs.Common.{◌≡◌, ◌≤◌, count_by, take}
use Rattle.jri_memory.specs.Mends.{is_damaged_choice}
use Rattle.jri_memory.proofs.mend_report.count_damaged.Given as goal

abbrev pub invariant-loop-k : goal.invariant-loop-k
invariant-loop-k l = (l.damaged ≡ count_by is_damaged_choice (take l.k l.choices)) × (l.damaged ≤ l.k)
