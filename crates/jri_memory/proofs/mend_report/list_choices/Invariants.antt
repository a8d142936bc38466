use Rattle.std.proofs.Common.{◌≡◌, ◌++◌, map, take, drop}
use Rattle.jri_memory.specs.Mends.{choice_entry}
use Rattle.jri_memory.proofs.mend_report.list_choices.Given as goal

abbrev pub invariant-loop-k : goal.invariant-loop-k
invariant-loop-k l = l.choices ≡ map choice_entry (take l.k l.chosen) ++ drop l.k l.initial.choices
