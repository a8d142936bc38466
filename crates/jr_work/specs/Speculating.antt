-- What several threads know of speculative reads that they share: the part of a scan that is decoded.
use Rattle.std.specs.Prelude.{ℕ, Option, Some, None}
use Rattle.jr_scan.specs.Speculation.{SpeculationValue, IsSpeculationOf}
use Rattle.jr_scan.specs.Speculations.{AreSpeculationsOf}
use Rattle.jr_scan.specs.ScanValue.{interval_of}
use Rattle.jr_scan.specs.FirstIntervalsValue.{FirstIntervalsValue}
use Rattle.jr_scan.specs.declared.speculations.Speculations.{Speculations}

-- of the part that a proof knows of this holds
abbrev pub OfPart : Option FirstIntervalsValue → (FirstIntervalsValue → Type 0) → Type 0
OfPart None P = ⊥
OfPart (Some part) P = P part

-- a speculative read of an interval of the scan
abbrev pub HasSpeculationOf : Option FirstIntervalsValue → SpeculationValue → Type 0
HasSpeculationOf known g = OfPart known (λ part. IsSpeculationOf (interval_of part.scan g.number) g)

-- speculative reads of the scan's interval of that number
abbrev pub AreSpeculations : Option FirstIntervalsValue → ℕ → Speculations → Type 0
AreSpeculations known number speculations = OfPart known (λ part. AreSpeculationsOf (interval_of part.scan number) speculations)
