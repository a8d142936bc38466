-- The samples of a decoded scan.
use Rattle.std.specs.Prelude.{ℕ, ◌+◌, ◌*◌, List, slice_index, slice_get, Option, Some, None}
use Rattle.jr_segments.specs.declared.kind.Kind.{Kind}
use Rattle.jr_head.specs.Geometry.{blocks_of}
use Rattle.jr_paint.specs.Geometry.{spot_of, place_in}
use Rattle.jr_paint.specs.declared.geometry.Spot.{Spot}
use Rattle.jr_piece.specs.PieceValue.{PieceValue}
use Rattle.jr_picture.specs.DecodedScan.{DecodedScan, piece_at}
use Rattle.jr_picture.specs.Headline.{blank_of, interval_number, within_interval}

-- the sample at an index of a data unit, 128 after the prefix
abbrev pub sample_in : Option (List ℕ) → ℕ → ℕ
sample_in None place = 128
sample_in (Some samples) place = slice_index samples place

-- the sample at a position in data unit k of an interval, whose piece is posted or not
abbrev pub sample_of_piece : Kind → ℕ → Option PieceValue → ℕ → ℕ → ℕ
sample_of_piece kind c None k place = blank_of kind c
sample_of_piece kind c (Some p) k place = sample_in (slice_get p.samples k) place

-- the sample at a position in a data unit of an MCU
abbrev pub sample_in_mcu : DecodedScan → ℕ → ℕ → ℕ → ℕ → ℕ
sample_in_mcu b c mcu block place =
    let h = b.scan.head in
    sample_of_piece h.kind c (piece_at b (interval_number h mcu)) (within_interval h mcu * blocks_of h + block) place

-- the sample in a row and a column of a data unit of an MCU
abbrev pub sample_at : DecodedScan → ℕ → Spot → ℕ
sample_at b c s = sample_in_mcu b c s.mcu s.block (place_in s)

-- the sample in column x and line y of component c
unfoldable pub samples_of : DecodedScan → ℕ → ℕ → ℕ → ℕ
samples_of b c x y = sample_at b c (spot_of b.scan.head c x y)
