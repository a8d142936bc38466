-- What is reported of a damaged interval.
use Rattle.std.specs.Prelude.{◌≡◌, ◌<◌, ◌≤◌, Option, Some, None}
use Rattle.jr_cut.specs.declared.file_segments.CodedSpan.{CodedSpan}
use Rattle.jr_scan.specs.IntervalValue.{IntervalValue}
use Rattle.jr_scan.specs.Mcus.{HasNoDecoding, HasLongestFront}
use Rattle.jr_scan.specs.ScanValue.{mcus_in}
use Rattle.jr_damage.specs.declared.map.DamagedInterval.{DamagedInterval}
use Rattle.jr_damage.specs.Lines.{first_mcu_of, AreLinesOf}

-- the bytes of a segment, or none if it has none
abbrev pub AreBytesOf : CodedSpan → Option CodedSpan → Type 0
AreBytesOf span None = span.end ≤ span.start
AreBytesOf span (Some b) = (b ≡ span) × (b.start < b.end)

-- the interval has no decoding, and these are its numbers and the bytes of its segment
pub record IsDamageOf (i : IntervalValue) (span : CodedSpan) (d : DamagedInterval) : Type 0 where
  pub number : d.number ≡ i.number
  pub undecodable : HasNoDecoding i
  pub decodable : HasLongestFront i d.decodable
  pub first : d.mcus.first ≡ first_mcu_of i.head i.number
  pub count : d.mcus.count ≡ mcus_in i.head i.number
  pub lines : AreLinesOf i.head i.number d.lines
  pub bytes : AreBytesOf span d.bytes
