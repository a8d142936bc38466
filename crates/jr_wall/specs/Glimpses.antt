-- What a thread that looks at an image of a scan sees.
use Rattle.std.specs.Prelude.{◌≡◌, ℕ, List}
use Rattle.jr_head.specs.HeadValue.{HeadValue}
use Rattle.jr_scan.specs.ScanValue.{ScanValue}
use Rattle.jr_picture.specs.declared.mark.Mark.{Mark}
use Rattle.jr_picture.specs.Headline.{interval_number, spot_of, mark_in, IsPicture, AreCounts}
use Rattle.jr_wall.specs.declared.glimpse.Glimpse.{Glimpse}

-- one sample of an image, the mark of the interval that holds it, and the counts
pub record IsGlimpse (head : HeadValue) (marks : List Mark) (f : ℕ → ℕ → ℕ → ℕ) (c x y : ℕ) (g : Glimpse) : Type 0 where
  pub mark : g.mark ≡ mark_in marks (interval_number head (spot_of head c x y).mcu)
  pub sample : g.sample ≡ f c x y
  pub counts : AreCounts marks g.sound g.damaged g.blank

-- a thread has looked at an image of the scan; only that thread can say at which
pub record IsSomeGlimpse (scan : ScanValue) (c x y : ℕ) (g : Glimpse) : Type 0 where
  pub marks : List Mark
  pub f : ℕ → ℕ → ℕ → ℕ
  pub picture : IsPicture scan marks f
  pub glimpse : IsGlimpse scan.head marks f c x y g
