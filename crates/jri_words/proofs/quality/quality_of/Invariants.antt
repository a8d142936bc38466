use Rattle.std.specs.Prelude.{ℕ, ◌≤◌}
use Rattle.jri_words.specs.Quality.{HasQuality}
use Rattle.jri_words.proofs.quality.quality_of.Given as goal

abbrev pub invariant-loop-lower : goal.invariant-loop-lower
invariant-loop-lower l = (q : ℕ) → 1 ≤ q → q ≤ l.lower → HasQuality l.head q → ⊥
