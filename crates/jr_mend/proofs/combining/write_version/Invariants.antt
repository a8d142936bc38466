use Rattle.std.proofs.Common.{◌≡◌, ℕ, ◌<◌, ◌≤◌, ◌⊎◌, length, get_or}
use Rattle.jr_mend.proofs.combining.write_version.Given as goal

abbrev pub invariant-loop-at : goal.invariant-loop-at
invariant-loop-at l = (length l.file ≡ length l.fn.file) × ((p : ℕ) → l.fn.found.start ≤ p → p < l.at → get_or l.file p 0 ≡ get_or l.copy p 0) × ((p : ℕ) → (p < l.fn.found.start) ⊎ (l.at ≤ p) → get_or l.file p 0 ≡ get_or l.fn.file p 0)
