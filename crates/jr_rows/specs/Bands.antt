-- A row of MCUs, by the samples of its data units (T.81, A.2.3).
use Rattle.std.specs.Prelude.{◌≡◌, ℕ, ◌+◌, ◌*◌, ◌/◌, ◌%◌, ◌<◌, List, [], length, replicate, slice_index, slice_index_or, Option, Some, None}
use Rattle.jr_head.specs.HeadValue.{HeadValue}
use Rattle.jr_head.specs.Geometry.{vertical_of, blocks_of}
use Rattle.jr_mcu.specs.Mcus.{component}
use Rattle.jr_piece.specs.PieceValue.{PieceValue}
use Rattle.jr_piece.specs.Units.{unit_in_piece}
use Rattle.jr_picture.specs.DecodedScan.{DecodedScan, piece_at}
use Rattle.jr_picture.specs.Headline.{blank_of, interval_number, within_interval}
use Rattle.jr_rows.specs.BandValue.{BandValue}
use Rattle.jr_rows.specs.Groups.{groups_across, lines_before_component}

-- sample n of groups of eight
abbrev pub sample_in_groups : List (List ℕ) → ℕ → ℕ
sample_in_groups groups n = slice_index (slice_index_or groups (n / 8) []) (n % 8)

-- the samples of the image each of whose rows of MCUs has these lines
unfoldable pub samples_in : BandValue → ℕ → ℕ → ℕ → ℕ
samples_in b c x y =
    sample_in_groups b.groups (8 * ((lines_before_component b.head c + y % (8 * vertical_of b.head c)) * groups_across b.head) + x)

-- data unit j of an MCU, n of its interval, whose piece is posted or not
abbrev pub unit_shown_of : HeadValue → ℕ → Option PieceValue → ℕ → List ℕ
unit_shown_of h j None n = replicate 64 (blank_of h.kind (component h j))
unit_shown_of h j (Some p) n = unit_in_piece p n

-- data unit j of an MCU of a decoded scan
abbrev pub unit_shown : DecodedScan → ℕ → ℕ → List ℕ
unit_shown b mcu j =
    let h = b.scan.head in unit_shown_of h j (piece_at b (interval_number h mcu)) (within_interval h mcu * blocks_of h + j)

-- these are the data units of a decoded scan's MCUs starting at this one
abbrev pub ShowsMcus : DecodedScan → ℕ → List (List ℕ) → Type 0
ShowsMcus b mcu units =
    (k : ℕ) → k < length units → slice_index_or units k [] ≡ unit_shown b (mcu + k / blocks_of b.scan.head) (k % blocks_of b.scan.head)
