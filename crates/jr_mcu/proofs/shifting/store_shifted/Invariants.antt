use Rattle.std.proofs.Common.{◌≡◌, ◌<◌, ℕ, length}
use Rattle.jr_mcu.specs.Mcus.{block_of, component}
use Rattle.jr_mcu.specs.Shift.{of_component, IsShifted}
use Rattle.jr_mcu.proofs.shifting.store_shifted.Given as goal

abbrev pub invariant-loop-k : goal.invariant-loop-k
invariant-loop-k l = record {
  space : length l.others ≡ length l.fn.others;
  each : (n : ℕ) → n < l.k → IsShifted (of_component l.fn.by (component l.fn.head n)) (block_of l.fn.blocks n) (block_of l.others n);
}
