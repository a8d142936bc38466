use Rattle.std.proofs.Common.{◌≡◌, ℕ, ◌<◌, get_or}
use Rattle.jri_machine.specs.Escapes.{IsPlainByte}
use Rattle.jri_machine.proofs.escaping.plain_count.Given as goal

abbrev pub invariant-loop-byte : goal.invariant-loop-byte
invariant-loop-byte l = (l.count ≡ l.byte-index) × ((k : ℕ) → k < l.count → IsPlainByte (get_or l.bytes k 0))
