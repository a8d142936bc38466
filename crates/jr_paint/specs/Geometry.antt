-- The position of a sample among the data units of an image (T.81, A.1.1 and A.2).
use Rattle.std.specs.Prelude.{◌≡◌, ℕ, ◌+◌, ◌*◌, ◌/◌, ◌%◌, ◌<◌}
use Rattle.std.specs.Int.{div_ceil}
use Rattle.jr_head.specs.HeadValue.{HeadValue}
use Rattle.jr_paint.specs.declared.geometry.Spot.{Spot}
use Rattle.jr_head.specs.Geometry.{horizontal_of, vertical_of, horizontal_max, vertical_max, mcus_across, blocks_before}

-- the number of columns and lines of samples of component c (T.81, A.1.1)
abbrev pub samples_across : HeadValue → ℕ → ℕ
samples_across h c = div_ceil (h.width * horizontal_of h c) (horizontal_max h)

abbrev pub samples_down : HeadValue → ℕ → ℕ
samples_down h c = div_ceil (h.height * vertical_of h c) (vertical_max h)

-- an MCU, a data unit of one component in it, and a sample in that data unit (A.2.1, A.2.3)
pub record Place : Type 0 where
  pub mcu_column : ℕ
  pub mcu_line : ℕ
  pub block_column : ℕ
  pub block_line : ℕ
  pub row : ℕ
  pub col : ℕ

-- the sample in column x and line y of a component with these factors is there
pub record Where (across down x y : ℕ) (p : Place) : Type 0 where
  pub column : x ≡ 8 * (across * p.mcu_column + p.block_column) + p.col
  pub line : y ≡ 8 * (down * p.mcu_line + p.block_line) + p.row
  pub block_across : p.block_column < across
  pub block_down : p.block_line < down
  pub row_in : p.row < 8
  pub col_in : p.col < 8

-- P holds for one value alone
abbrev pub IsOnlyOne : {A : Type 0} → (A → Type 0) → Type 0
IsOnlyOne {A} P = (a : A) × (P a × ((b : A) → P b → b ≡ a))

-- the one position, by division
abbrev pub place_of : ℕ → ℕ → ℕ → ℕ → Place
place_of across down x y = record {
  mcu_column = x / (8 * across);
  mcu_line = y / (8 * down);
  block_column = x % (8 * across) / 8;
  block_line = y % (8 * down) / 8;
  row = y % 8;
  col = x % 8;
}

-- the number of that MCU in reading order (A.2.3), of that data unit in it, and the sample in the data unit
abbrev pub spot_at : HeadValue → ℕ → Place → Spot
spot_at h c p = record {
  mcu = p.mcu_line * mcus_across h + p.mcu_column;
  block = blocks_before h c + p.block_line * horizontal_of h c + p.block_column;
  row = p.row;
  col = p.col;
}

-- the position of the sample in column x and line y of component c (T.81, A.2)
abbrev pub spot_of : HeadValue → ℕ → ℕ → ℕ → Spot
spot_of h c x y = spot_at h c (place_of (horizontal_of h c) (vertical_of h c) x y)

-- its position in its data unit
abbrev pub place_in : Spot → ℕ
place_in s = 8 * s.row + s.col

-- the spot of the sample in column x of a line, from that of its column 0, if an MCU has `across` data units across
abbrev pub spot_in_line : Spot → ℕ → ℕ → Spot
spot_in_line s across x = record { mcu = s.mcu + x / 8 / across; block = s.block + x / 8 % across; row = s.row; col = x % 8 }
