-- Positions between two rows of MCUs of a file's image.
use Rattle.std.specs.Prelude.{◌≡◌, ℕ, ◌+◌, ◌-◌, ◌*◌, ◌/◌, ◌<◌, ◌≤◌, nat_le, min, if◌then◌else◌, Bool, true, false, Option, Some, None}
use Rattle.jr_head.specs.HeadValue.{HeadValue}
use Rattle.jr_head.specs.Geometry.{mcus_across, mcus_down, vertical_max}
use Rattle.jr_head.specs.Intervals.{intervals_of, mcus_in}
use Rattle.jr_paint.specs.Lines.{line_size}
use Rattle.jr_scan.specs.declared.place.Place.{Place}
use Rattle.jr_arrival.specs.declared.place.RowPlace.{RowPlace}

-- the image has such an interval, and that interval the given number of MCUs
pub record IsIn (h : HeadValue) (interval mcu : ℕ) : Type 0 where
  pub number : interval < intervals_of h
  pub few : mcu ≤ mcus_in h interval

-- the state of a position, by where the next MCU begins and whether the scan has ended
abbrev pub place_state : Option Place → (ended : Bool) → ℕ
place_state (Some p) ended = 0
place_state None false = 1
place_state None true = 2

-- the number of MCUs of the image before one of an interval
abbrev pub mcus_before_place : HeadValue → (interval mcu : ℕ) → ℕ
mcus_before_place h interval mcu = interval * h.restart + mcu

-- the position has numbers of the image: a row of MCUs, and the interval and MCU that begin it
pub record IsPlaceOf (h : HeadValue) (p : RowPlace) : Type 0 where
  pub row : p.row ≤ mcus_down h
  pub is_in : IsIn h p.interval p.mcu
  pub at : mcus_before_place h p.interval p.mcu ≡ p.row * mcus_across h

-- the number of lines of the image before a row of MCUs
abbrev pub lines_above : HeadValue → ℕ → ℕ
lines_above h row = min (row * (8 * vertical_max h)) h.height

-- the number of lines in the rows of MCUs from one to before another
abbrev pub lines_between : HeadValue → (from to : ℕ) → ℕ
lines_between h from to = lines_above h to - lines_above h from

-- the number of rows of MCUs, starting at one, whose lines fit into the given number of bytes: all that are left, or those that fit if
-- each has the number of lines of a row that is not the last
abbrev pub rows_with_space : HeadValue → (row bytes : ℕ) → ℕ
rows_with_space h row bytes = let lines = bytes / line_size h in
    if nat_le (h.height - lines_above h row) lines then mcus_down h - row else lines / (8 * vertical_max h)

-- the number of rows of MCUs that are returned, starting at one, if all of the file is there: at most the number asked for, and as many as fit
-- with their lines into the given number of bytes
abbrev pub rows_to_give : HeadValue → (row rows bytes : ℕ) → ℕ
rows_to_give h row rows bytes = min rows (rows_with_space h row bytes)
