-- What the bytes so far make final of an image.
use Rattle.std.specs.Prelude.{◌≡◌, ℕ, ◌-◌, ◌*◌, ◌/◌, ◌<◌, ◌≤◌, ◌⊎◌, min, List, length, take}
use Rattle.jr_segments.specs.declared.refusal.Refusal.TheVariants.{EndsEarly, NotJpeg}
use Rattle.jr_head.specs.Geometry.{mcus_down, vertical_max}
use Rattle.jr_head.specs.Heads.{RefusalOf}
use Rattle.jr_paint.specs.Lines.{line_size, next_lines_of}
use Rattle.jr_scan.specs.ScanValue.{ScanValue}
use Rattle.jr_picture.specs.declared.mark.Mark.{Mark}
use Rattle.jr_picture.specs.Headline.{ShowsFirst}
use Rattle.jr_arrival.specs.Arrival.{CanBecome}
use Rattle.jr_arrival.specs.LongerFile.{HasScan, RowIsSettled}

-- the bytes' refusal says that some are missing
abbrev pub WantsMore : List ℕ → Type 0
WantsMore bytes = RefusalOf bytes EndsEarly ⊎ (RefusalOf bytes NotJpeg × (length bytes < 2))

-- the bytes so far make the first `rows` rows of MCUs final, and not the next one
pub record HasRows (bytes : List ℕ) (s : ScanValue) (rows : ℕ) : Type 0 where
  pub few : rows ≤ mcus_down s.head
  pub settled : (row : ℕ) → row < rows → RowIsSettled bytes s row
  pub next : rows < mcus_down s.head → RowIsSettled bytes s rows → ⊥

-- what the bytes so far make final: the scan into which they are cut, and a number of rows of MCUs
pub record FinalRows : Type 0 where
  pub scan : ScanValue
  pub rows : ℕ

-- the number of lines of pixels in these rows
abbrev pub lines_in : FinalRows → ℕ
lines_in s = min s.scan.head.height (s.rows * (8 * vertical_max s.scan.head))

-- these are n lines of the image of every file that the bytes can become, starting at this one
abbrev pub AreFinal : (bytes : List ℕ) → (first count : ℕ) → (pixels : List ℕ) → Type 0
AreFinal bytes first count pixels = (file : List ℕ) (t : ScanValue) (marks : List Mark) (f : ℕ → ℕ → ℕ → ℕ) → CanBecome bytes file → HasScan file t
    → ShowsFirst t (length t.intervals) marks f → pixels ≡ next_lines_of t.head f first count

-- the number of final lines that come next, as many as fit into the given number of bytes
pub record ReturnsSettled (bytes : List ℕ) (s : ScanValue) (first n space : ℕ) : Type 0 where
  pub rows : ℕ
  pub has : HasRows bytes s rows
  pub count : n ≡ min (lines_in (record { scan = s; rows = rows }) - first) (space / line_size s.head)

-- the next lines that the bytes make final, as many as fit: n starting at this one
pub record NextLines (bytes : List ℕ) (first n : ℕ) (pixels : List ℕ) : Type 0 where
  pub settled : FinalRows
  pub scan : HasScan bytes settled.scan
  pub rows : HasRows bytes settled.scan settled.rows
  pub count : n ≡ min (lines_in settled - first) (length pixels / line_size settled.scan.head)
  pub are : AreFinal bytes first n (take (n * line_size settled.scan.head) pixels)

-- or none, if more bytes are wanted for a header
abbrev pub ReturnsNext : (bytes : List ℕ) → (first n : ℕ) → (pixels : List ℕ) → Type 0
ReturnsNext bytes first n pixels = ((n ≡ 0) × WantsMore bytes) ⊎ NextLines bytes first n pixels
