-- What a view shows of an image, and what a strip or a piece adds to it.
use Rattle.std.specs.Prelude.{◌≡◌, ℕ, ◌+◌, ◌-◌, ◌*◌, ◌==◌, ◌<◌, ◌≤◌, ◌⊎◌, Bool, true, false, List, length, count_by, if◌then◌else◌, slice_index, slice_index_or, slice_range}
use Rattle.std.specs.List.{list_all, range_with_len}
use Rattle.jr_head.specs.HeadValue.{HeadValue}
use Rattle.jr_head.specs.Geometry.{blocks_of, mcus_across, mcus_down, mcus_of}
pub use Rattle.jr_head.specs.Intervals.{first_mcu_of}
use Rattle.jr_piece.specs.PieceValue.{PieceValue}
use Rattle.jr_piece.specs.StripValue.{StripValue}
use Rattle.jr_piece.specs.Units.{grey_unit}
use Rattle.jr_paint.specs.Units.{sample_by_units}
use Rattle.jr_view.specs.declared.shown.Shown.{Shown}
use Rattle.jr_view.specs.declared.shown.Shown.TheVariants.{OfStrip, OfPiece}
use Rattle.jr_view.specs.ViewValue.{ViewValue}

-- whether an MCU was seen; no MCU outside the image was
abbrev pub has_seen : ViewValue → ℕ → Bool
has_seen v mcu = slice_index_or v.seen mcu false

-- data unit k of an MCU (T.81, A.2.3)
abbrev pub unit_at : ViewValue → ℕ → ℕ → List ℕ
unit_at v mcu k = slice_index_or v.units (mcu * blocks_of v.scan.head + k) grey_unit

-- the sample of an MCU, by data unit and position in it
abbrev pub sample_seen : ViewValue → (c mcu block place : ℕ) → ℕ
sample_seen v c mcu block place = slice_index (unit_at v mcu block) place

-- the sample in column x and line y of component c
unfoldable pub sample_in_view : ViewValue → ℕ → ℕ → ℕ → ℕ
sample_in_view v = sample_by_units v.scan.head (sample_seen v)

-- whether each MCU of this row of MCUs was seen
abbrev pub has_seen_row : HeadValue → List Bool → ℕ → Bool
has_seen_row h seen row = list_all (λ b. b) (slice_range seen (row * mcus_across h) ((row + 1) * mcus_across h))

-- the number of rows of MCUs that were seen whole
unfoldable pub whole_rows : ViewValue → ℕ
whole_rows v = count_by (has_seen_row v.scan.head v.seen) (range_with_len 0 (mcus_down v.scan.head))

-- both views show the same of an MCU
pub record IsSameAt (a b : ViewValue) (mcu : ℕ) : Type 0 where
  pub seen : has_seen a mcu ≡ has_seen b mcu
  pub units : (k : ℕ) → k < blocks_of a.scan.head → unit_at a mcu k ≡ unit_at b mcu k

-- an MCU shows the data units of a list starting at this one, grey ones if it has none
abbrev pub ShowsUnits : ViewValue → ℕ → List (List ℕ) → ℕ → Type 0
ShowsUnits v mcu units from = (k : ℕ) → k < blocks_of v.scan.head → unit_at v mcu k ≡ slice_index_or units (from + k) grey_unit

-- the image has this MCU, and it is one of `count` starting at `first`
pub record IsAmong (h : HeadValue) (first count mcu : ℕ) : Type 0 where
  pub picture : mcu < mcus_of h
  pub from : first ≤ mcu
  pub before : mcu < first + count

-- it is before or after them
abbrev pub IsOutside : (first count mcu : ℕ) → Type 0
IsOutside first count mcu = (mcu < first) ⊎ (first + count ≤ mcu)

-- the number of MCUs of an interval, except of the last one, which ends with the image (E.1.4)
abbrev pub size_of : HeadValue → ℕ
size_of h = if h.restart == 0 then mcus_of h else h.restart

-- the MCU is one of a strip, or none of them
abbrev pub first_of_strip : HeadValue → StripValue → ℕ
first_of_strip h s = first_mcu_of h s.interval.number + s.first

abbrev pub IsOfStrip : ViewValue → StripValue → ℕ → Type 0
IsOfStrip v s mcu = IsAmong v.scan.head (first_of_strip v.scan.head s) s.mcus mcu

abbrev pub IsNotOfStrip : ViewValue → StripValue → ℕ → Type 0
IsNotOfStrip v s mcu = IsOutside (first_of_strip v.scan.head s) s.mcus mcu

-- it shows the strip's data units
abbrev pub ShowsStripUnits : ViewValue → StripValue → ℕ → Type 0
ShowsStripUnits v s mcu = ShowsUnits v mcu s.samples ((mcu - first_of_strip v.scan.head s) * blocks_of v.scan.head)

-- the MCU is one of a piece's interval, or none of them
abbrev pub IsOfPiece : ViewValue → PieceValue → ℕ → Type 0
IsOfPiece v p mcu = IsAmong v.scan.head (first_mcu_of v.scan.head p.interval.number) (size_of v.scan.head) mcu

abbrev pub IsNotOfPiece : ViewValue → PieceValue → ℕ → Type 0
IsNotOfPiece v p mcu = IsOutside (first_mcu_of v.scan.head p.interval.number) (size_of v.scan.head) mcu

-- it shows the piece's data units, grey ones after its prefix
abbrev pub ShowsPiece : ViewValue → PieceValue → ℕ → Type 0
ShowsPiece v p mcu = ShowsUnits v mcu p.samples ((mcu - first_mcu_of v.scan.head p.interval.number) * blocks_of v.scan.head)

-- what the fields of a view keep
pub record IsView (v : ViewValue) (count : ℕ) : Type 0 where
  pub units : length v.units ≡ mcus_of v.scan.head * blocks_of v.scan.head
  pub seen : length v.seen ≡ mcus_of v.scan.head
  pub rows : count ≡ whole_rows v

-- the data units of what a view is shown
abbrev pub units_shown : Shown → List (List ℕ)
units_shown (OfStrip s) = s.now.samples
units_shown (OfPiece p) = p.now.samples

-- MCU `mcu`, which was not seen, shows data units starting at this one; the others are unchanged
pub record AddsMcu (old : ViewValue) (mcu : ℕ) (units : List (List ℕ)) (from : ℕ) (new : ViewValue) : Type 0 where
  pub scan : new.scan ≡ old.scan
  pub seen : has_seen new mcu ≡ true
  pub shown : ShowsUnits new mcu units from
  pub others : (m : ℕ) → (m < mcu) ⊎ (mcu < m) → IsSameAt old new m

-- those MCUs of a number starting at `first` that were not seen show data units; the others are unchanged
pub record AddsMcus (old : ViewValue) (first count : ℕ) (units : List (List ℕ)) (new : ViewValue) : Type 0 where
  pub scan : new.scan ≡ old.scan
  pub seen : (mcu : ℕ) → IsAmong old.scan.head first count mcu → has_seen new mcu ≡ true
  pub shown : (mcu : ℕ) → IsAmong old.scan.head first count mcu → has_seen old mcu ≡ false → ShowsUnits new mcu units ((mcu - first) * blocks_of old.scan.head)
  pub kept : (mcu : ℕ) → has_seen old mcu ≡ true → IsSameAt old new mcu
  pub others : (mcu : ℕ) → IsOutside first count mcu → IsSameAt old new mcu
