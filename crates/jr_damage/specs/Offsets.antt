-- Where in a file the bytes of an interval's data are, which are spelled with stuffing there (T.81, B.1.1.5).
use Rattle.std.specs.Prelude.{ℕ, ◌≤◌, List, take, drop, slice_range}
use Rattle.jr_cut.specs.Cut.{IsRaw}
use Rattle.jr_cut.specs.declared.file_segments.CodedSpan.{CodedSpan}

-- byte k of the data that a segment's bytes spell begins at an offset: the bytes up to there spell those before it, the others it and
-- those after it
pub record BeginsByte (file : List ℕ) (span : CodedSpan) (bytes : List ℕ) (k at : ℕ) : Type 0 where
  pub after_start : span.start ≤ at
  pub before_end : at ≤ span.end
  pub before : IsRaw (slice_range file span.start at) (take k bytes)
  pub from : IsRaw (slice_range file at span.end) (drop k bytes)
