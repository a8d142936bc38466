-- What several workers know of a long interval that they decode together.
use Rattle.std.specs.Prelude.{◌≡◌, Option}
use Rattle.std.specs.Option.{IfSome}
use Rattle.std.specs.declared.sync.Arc.{Arc}
use Rattle.std.specs.declared.alloc.Global.{Global}
use Rattle.std.specs.Arc.{arc_value}
use Rattle.jr_scan.specs.Speculations.{AreSpeculationsOf}
use Rattle.jr_scan.specs.IntervalValue.{IntervalValue}
use Rattle.jr_scan.specs.ScanValue.{HasInterval}
use Rattle.jr_scan.specs.FirstIntervalsValue.{FirstIntervalsValue}
use Rattle.jr_work.specs.Speculating.{OfPart}
use Rattle.jr_piece.specs.StripValue.{StripValue}
use Rattle.jr_piece.specs.Strips.{ReportsEnd}
use Rattle.jr_wall.specs.declared.reading.End.{End}
use Rattle.jr_wall.specs.declared.reading.Next.{Next}
use Rattle.jr_wall.specs.declared.reading.Next.TheVariants.{Strip, End as Ended}
use Rattle.jr_wall.specs.declared.waiting_strip.WaitingStrip.{WaitingStrip}
use Rattle.jr_wall.specs.declared.waiting_strip.WaitingStrip.TheVariants.{Coded, Placed}

-- the interval is one of the scan's, if there is one
abbrev pub IsOneOf : Option FirstIntervalsValue → IntervalValue → Type 0
IsOneOf known i = OfPart known (λ part. HasInterval part.scan i)

-- a position is empty, or holds a strip of the interval
abbrev pub IsEmptyOrOf : IntervalValue → Option (Arc StripValue Global) → Type 0
IsEmptyOrOf i slot = IfSome slot (λ s. (arc_value s).interval ≡ i)

-- the end of the scan's interval of that number
pub record IsEndOf (known : Option FirstIntervalsValue) (e : End) : Type 0 where
  pub interval : IntervalValue
  pub own : IsOneOf known interval
  pub number : interval.number ≡ e.number
  pub ends : ReportsEnd interval e.front e.is_sound

abbrev pub interval_of_strip : WaitingStrip → IntervalValue
interval_of_strip (Coded s) = s.interval
interval_of_strip (Placed s speculations) = s.interval

-- the speculative reads with which a strip is read are of its interval
abbrev pub HasItsSpeculations : WaitingStrip → Type 0
HasItsSpeculations (Coded s) = Unit {0}
HasItsSpeculations (Placed s speculations) = AreSpeculationsOf s.interval speculations

-- what follows is of an interval of the scan
abbrev pub IsNextOf : Option FirstIntervalsValue → Next → Type 0
IsNextOf known (Strip s) = IsOneOf known (interval_of_strip s) × HasItsSpeculations s
IsNextOf known (Ended e) = IsEndOf known e
