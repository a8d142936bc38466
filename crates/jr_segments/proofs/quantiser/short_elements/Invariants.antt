use Rattle.std.proofs.Common.{◌≡◌, ◌<◌, length, ℕ, get_or}
use Rattle.jr_segments.proofs.quantiser.short_elements.Given as goal

abbrev pub invariant-loop-i : goal.invariant-loop-i
invariant-loop-i l = record { len : length l.elements ≡ 64; each : (k : ℕ) → k < l.i → get_or l.elements k 0 ≡ get_or l.bytes k 0 }
