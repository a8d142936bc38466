use Rattle.std.proofs.Common.{◌≡◌, ◌≤◌, ◌*◌, take}
use Rattle.std.specs.Prelude.{sum}
use Rattle.jr_code.proofs.table.word_count.Given as goal

abbrev pub invariant-loop-count : goal.invariant-loop-count
invariant-loop-count l = record { is : l.total ≡ sum (take l.count-index l.counts); small : l.total ≤ 255 * l.count-index }
