-- What contracts see of the lines of a row of MCUs.
use Rattle.std.specs.Prelude.{ℕ, List}
use Rattle.jr_rows.specs.declared.row_lines.UnitStart.{UnitStart}

-- the groups of eight samples, line after line; the positions of data units; and the number of groups for which a line has space
pub record RowLinesValue : Type 0 where
  pub groups : List (List ℕ)
  pub starts : List UnitStart
  pub across : ℕ
