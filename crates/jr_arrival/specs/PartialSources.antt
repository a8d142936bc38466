-- A source of MCUs over a scan whose file is still arriving.
use Rattle.std.specs.Prelude.{◌≡◌, length}
use Rattle.jr_head.specs.HeadValue.{HeadValue}
use Rattle.jr_head.specs.Geometry.{IsValid}
use Rattle.jr_head.specs.Intervals.{intervals_of}
use Rattle.jr_scan.specs.PartialScan.{PartialScanValue}
use Rattle.jr_arrival.specs.declared.partial_source.PartialSource.{PartialSource}
use Rattle.jr_arrival.specs.PartialRows.{GrowsInto, HasNoMore, IsPartialReading, ReadsAll}
use Rattle.jr_arrival.specs.Sources.{SourceValue}

-- its numbers are those of an MCU of an image with this header
pub record IsPartialSource (h : HeadValue) (s : PartialSource) : Type 0 where
  pub head : s.scan.now.scan.head ≡ h
  pub valid : IsValid h
  pub count : length s.scan.now.scan.intervals ≡ intervals_of h
  pub reading : IsPartialReading s.scan.now s.cursor s.marked

-- as a source
abbrev pub partial_source_of : PartialSource → SourceValue PartialScanValue
partial_source_of s = record {
  part = s.scan.now;
  cursor = s.cursor;
  is_at = λ h. IsPartialSource h s;
  may_be = λ h whole t. GrowsInto s.scan.now t;
  reads_all = λ h. ReadsAll s.scan.now.scan s.cursor.number s.cursor.mcu s.cursor.place;
  waits = λ h. HasNoMore s.scan.now s.cursor;
}
