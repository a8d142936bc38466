-- What contracts see of the rows of MCUs of a scan.
use Rattle.std.specs.Prelude.{ℕ, List, ℤ}
use Rattle.jr_scan.specs.ScanValue.{ScanValue}
use Rattle.jr_rows.specs.RowLinesValue.{RowLinesValue}

-- a scan, of which the first `limit` intervals are decoded, and the number of the row of MCUs that comes next
pub record RowsValue : Type 0 where
  pub scan : ScanValue
  pub limit : ℕ
  pub row : ℕ

-- the blocks of a few MCUs, the samples of a row of MCUs, or of no one yet, and the size of the scratch space for painting in bytes
pub record SampleRowValue : Type 0 where
  pub blocks : List (List ℤ)
  pub lines : RowLinesValue
  pub space : ℕ
