use Rattle.std.specs.Prelude.{ℕ, ◌<◌, slice_index}
use Rattle.jri_words.specs.Quality.{IsScaled, luminance}
use Rattle.jri_words.proofs.quality.is_scaled_table.Given as goal

abbrev pub invariant-loop-k : goal.invariant-loop-k
invariant-loop-k l = (k : ℕ) → k < l.k → IsScaled l.percentage (slice_index luminance k) (slice_index l.table k)
