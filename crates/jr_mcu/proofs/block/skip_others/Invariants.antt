use Rattle.std.proofs.Common.{◌+◌, ◌-◌, ◌≤◌, ℤ, List, pos}
use Rattle.jr_mcu.proofs.Rest.{IsPartialCut}
use Rattle.jr_mcu.proofs.block.skip_others.Given as goal

abbrev pub invariant-codes : goal.invariant-codes
invariant-codes l = (l.place ≤ 62) × ((block : List ℤ) × IsPartialCut l.ac (pos 0) l.fn.bits l.bits block (l.place + 1))

abbrev pub decreases-codes : goal.decreases-codes
decreases-codes l = 63 - l.place

abbrev pub invariant-held : goal.invariant-held
invariant-held l = ((l.initial.place ≤ l.place) × (l.place ≤ 62)) × ((block : List ℤ) × IsPartialCut l.ac (pos 0) l.fn.bits l.bits block (l.place + 1))
