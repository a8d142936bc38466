-- Speculations that a reader goes over.
use Rattle.std.specs.Prelude.{Option}
use Rattle.std.specs.Option.{IfSome}
use Rattle.std.specs.declared.sync.Arc.{Arc}
use Rattle.std.specs.declared.alloc.Global.{Global}
use Rattle.std.specs.Arc.{arc_value}
use Rattle.jr_scan.specs.Speculation.{SpeculationValue, IsSpeculationOf}
use Rattle.jr_scan.specs.IntervalValue.{IntervalValue}
use Rattle.jr_scan.specs.declared.speculations.Speculations.{Speculations}

-- none, or a speculative read of the interval
abbrev pub IsSpeculationOrNone : IntervalValue → Option (Arc SpeculationValue Global) → Type 0
IsSpeculationOrNone i speculation = IfSome speculation (λ g. IsSpeculationOf i (arc_value g))

-- speculative reads of the interval
pub record AreSpeculationsOf (i : IntervalValue) (gs : Speculations) : Type 0 where
  pub first : IsSpeculationOrNone i gs.first
  pub second : IsSpeculationOrNone i gs.second
  pub third : IsSpeculationOrNone i gs.third
