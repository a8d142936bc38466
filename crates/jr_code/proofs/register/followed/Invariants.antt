use Rattle.std.proofs.Common.{◌≡◌, ◌+◌, ◌*◌, ◌++◌, ◌≤◌, ℕ, drop, length}
use Rattle.jr_code.specs.Bits.{bits_of, bits}
use Rattle.jr_code.proofs.register.followed.Given as goal

abbrev pub invariant-loop-byte : goal.invariant-loop-byte
invariant-loop-byte l = (count : ℕ) → count + 8 * length l.bytes ≤ 64 → bits_of (count + 8 * l.byte-index) l.held ++ bits (drop l.byte-index l.bytes) ≡ bits_of count l.initial.held ++ bits l.bytes
