-- What a view shows of a file that is still arriving.
use Rattle.std.specs.Prelude.{◌≡◌, ◌≢◌, ℕ, ◌-◌, ◌*◌, ◌<◌, ◌≤◌, ◌⊎◌, List, [], length, take, drop, replicate, All}
use Rattle.jr_base.specs.declared.limits.TheConstants.{MAX_FILE_BYTES}
use Rattle.jr_head.specs.HeadValue.{HeadValue}
use Rattle.jr_head.specs.Heads.{HeadOf}
use Rattle.jr_paint.specs.Lines.{line_size, next_lines_of}
use Rattle.jr_scan.specs.ScanValue.{ScanValue}
use Rattle.jr_picture.specs.declared.mark.Mark.{Mark}
use Rattle.jr_picture.specs.Headline.{ShowsFirst}
use Rattle.jr_arrival.specs.PartialFile.{PartialFileValue, IsPartialFile, given_of}
use Rattle.jr_arrival.specs.LongerFile.{HasScan}
use Rattle.jr_arrival.specs.Settled.{AreFinal, HasRows, FinalRows, WantsMore, lines_in}

-- what contracts see of such a view: the file as far as it has arrived; the bytes of all lines of its image, none before they are allocated;
-- and the size of the space for the lines that come next in bytes
pub record PartialViewValue : Type 0 where
  pub partial_file : PartialFileValue
  pub pixels : List ℕ
  pub space : ℕ

-- the view of a file that has arrived so far, with these lines and this space
abbrev pub view_of : PartialFileValue → (pixels row : List ℕ) → PartialViewValue
view_of partial_file pixels row = record { partial_file = partial_file; pixels = pixels; space = length row }

-- the number of lines shown
abbrev pub lines_shown : PartialViewValue → ℕ
lines_shown v = given_of v.partial_file.partial_image

-- of an image with this header the given number of lines is shown, which every file shows that the bytes can become; all after them is mid-grey
pub record ViewShowsLines (bytes : List ℕ) (h : HeadValue) (lines : ℕ) (pixels : List ℕ) : Type 0 where
  pub size : length pixels ≡ h.height * line_size h
  pub few : lines ≤ h.height
  pub shown : AreFinal bytes 0 lines (take (lines * line_size h) pixels)
  pub grey : drop (lines * line_size h) pixels ≡ replicate ((h.height - lines) * line_size h) 128

-- it has the lines of the image with the header of these bytes
pub record ViewHasLines (v : PartialViewValue) (bytes : List ℕ) : Type 0 where
  pub head : HeadValue
  pub is_head : HeadOf bytes head
  pub lines : ViewShowsLines bytes head (lines_shown v) v.pixels
  pub space : line_size head ≤ v.space

-- these bytes of the file have arrived, and what is shown is theirs; before lines are allocated none is shown
pub record IsSeen (v : PartialViewValue) (bytes : List ℕ) : Type 0 where
  pub are_bytes : All (λ b. b < 256) bytes
  pub partial_file : IsPartialFile v.partial_file bytes
  pub none : v.pixels ≡ [] → lines_shown v ≡ 0
  pub some : v.pixels ≢ [] → length bytes ≤ MAX_FILE_BYTES → ViewHasLines v bytes

-- these are all lines that the bytes make final, or they have no header yet
abbrev pub AreSettled : (bytes : List ℕ) → (lines : ℕ) → Type 0
AreSettled bytes lines = WantsMore bytes ⊎ ((s : FinalRows) × HasScan bytes s.scan × HasRows bytes s.scan s.rows × (lines_in s ≤ lines))

-- the lines that were shown are unchanged
abbrev pub KeepsLines : (old new : PartialViewValue) → Type 0
KeepsLines old new = (bytes : List ℕ) (h : HeadValue) → IsSeen old bytes → HeadOf bytes h → take (lines_shown old * line_size h) new.pixels ≡ take (lines_shown old * line_size h) old.pixels

-- the lines of the scan's image, of which all intervals are marked
abbrev pub AreScanLines : ScanValue → List ℕ → Type 0
AreScanLines s pixels = (marks : List Mark) (f : ℕ → ℕ → ℕ → ℕ) → ShowsFirst s (length s.intervals) marks f → pixels ≡ next_lines_of s.head f 0 s.head.height
