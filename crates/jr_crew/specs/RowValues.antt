-- What contracts see of a row of MCUs that threads pass on: read, and painted.
use Rattle.std.specs.Prelude.{ℕ, List, ℤ}
use Rattle.jr_rows.specs.declared.marked.Marked.{Marked}

-- its number, the marks of the intervals that end in it, and its blocks
pub record CodedRowValue : Type 0 where
  pub row : ℕ
  pub marked : Marked
  pub blocks : List (List ℤ)

-- its number, the marks of the intervals that end in it, and bytes that begin with its lines
pub record PaintedValue : Type 0 where
  pub row : ℕ
  pub marked : Marked
  pub pixels : List ℕ
