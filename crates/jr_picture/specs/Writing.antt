-- What is written of an image.
use Rattle.std.specs.Prelude.{ℕ, List, Option}
use Rattle.jr_base.specs.declared.tally.Tally.{Tally}
use Rattle.jr_base.specs.Tally.{Writes, WritesBeginning}
use Rattle.jr_paint.specs.Text.{text_of}
use Rattle.jr_scan.specs.ScanValue.{ScanValue}
use Rattle.jr_picture.specs.declared.counts.Counts.{Counts}
use Rattle.jr_picture.specs.declared.mark.Mark.{Mark}
use Rattle.jr_picture.specs.Headline.{AreCounts, ShowsFirst}

-- the text of an image of the scan was written, of which the first n intervals are marked; these are the marks' counts
pub record WritesPicture {T : Type 0} (known : T → Option (List ℕ)) (old new : Tally T) (scan : ScanValue) (n : ℕ) (counts : Counts) : Type 0 where
  pub marks : List Mark
  pub f : ℕ → ℕ → ℕ → ℕ
  pub shows : ShowsFirst scan n marks f
  pub text : Writes known old new (text_of scan.head f)
  pub counted : AreCounts marks counts.sound counts.damaged counts.blank

-- a beginning of it was
pub record BeginsPicture {T : Type 0} (known : T → Option (List ℕ)) (old new : Tally T) (scan : ScanValue) (n : ℕ) : Type 0 where
  pub marks : List Mark
  pub f : ℕ → ℕ → ℕ → ℕ
  pub shows : ShowsFirst scan n marks f
  pub front : WritesBeginning known old new (text_of scan.head f)
