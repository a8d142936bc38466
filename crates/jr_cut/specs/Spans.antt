-- Where the data of each segment are in the unstuffed bytes of a scan.
use Rattle.std.specs.Prelude.{◌≡◌, ℕ, ◌≤◌, List, ◌++◌, length, slice_range}
use Rattle.jr_cut.specs.declared.span.Span.{Span}
use Rattle.jr_cut.specs.Cut.{IsRaw}

abbrev pub segment_data : List ℕ → Span → List ℕ
segment_data bytes s = slice_range bytes s.start s.end

abbrev pub IsSpanOf : List ℕ → Span → Type 0
IsSpanOf bytes s = (s.start ≤ s.end) × (s.end ≤ length bytes)

-- what the raw bytes spell is after what was there
pub record Unstuffs (raw old new : List ℕ) : Type 0 where
  pub added : List ℕ
  pub is : IsRaw raw added
  pub joins : new ≡ old ++ added
