-- The top is a position, and a position is one in other parts of its file.
use Rattle.std.proofs.Common.{◌≡◌, ℕ, ◌+◌, ◌-◌, ◌≤◌, Bool, List, [], ◌++◌, length, replicate, take, drop, map, refl, sym, ap, subst, ◌∙◌, length-append, arith}
use Rattle.jr_cut.specs.Cut.{CodedSegment, CutFrom, IsRaw}
use Rattle.jr_cut.proofs.CutLaw.{one_cut}
use Rattle.jr_cut.proofs.Cuts.{raw_none}
use Rattle.jr_scan.specs.Run.{start_of_interval}
use Rattle.jr_scan.specs.ScanValue.{ScanValue, IsScanOf, intervals_of}
use Rattle.jr_arrival.specs.declared.place.RowPlace.{RowPlace}
use Rattle.jr_head.specs.HeadValue.{HeadValue}
use Rattle.jr_arrival.specs.Meaning.{GoesOnAt, IsPlaceIn, MayBe, MeansAt, offset_in, top}
use Rattle.jr_arrival.specs.Parts.{FilePart, part_at}
use Rattle.jr_arrival.proofs.Parts.{take_part}
use Rattle.jr_arrival.proofs.ReadOn.{reads_first}
use Rattle.jr_arrival.proofs.Spelled.{front_whole}

begins : (whole : List ℕ) (t : ScanValue) → IsScanOf whole t → GoesOnAt whole t 0 t.head.scan_at []
begins whole t s =
    let c = s.cut in
    let others = map (λ (p : CodedSegment). p.bytes) c.segments in
    let empty = intervals_of t.head - length s.segments in
    record {
      rest = c.first;
      others = others;
      empty = empty;
      cut = subst (λ (d : List (List ℕ)). CutFrom (intervals_of t.head) 0 t.head.scan_at (drop t.head.scan_at whole) d t.ended) c.means s.cut;
      datas = s.intervals ∙ ap (λ (d : List (List ℕ)). d ++ replicate empty []) c.means;
      count = λ d.
          let same = (one_cut (intervals_of t.head) t.head.scan_at (drop t.head.scan_at whole) d.segments s.segments t.ended t.ended d.cut s.cut).0 in
          omega (arith, ap length same, ap length c.means);
    }

pub top_is_place : (x : FilePart) (whole : List ℕ) (t : ScanValue) → IsScanOf whole t → x.from ≤ t.head.scan_at → t.head.scan_at ≤ x.from + length x.bytes → IsPlaceIn x whole t top
top_is_place x whole t scan from come =
    let at : offset_in t.head top ≡ t.head.scan_at = omega arith in
    record {
      bit = omega arith;
      from = omega (arith, at, from);
      come = record { read = 0; found = []; within = omega (arith, at, from, come); spelled = raw_none; few = omega arith };
      means = subst (λ (k : ℕ). MeansAt whole t 0 0 0 k start_of_interval) (sym at) (reads_first whole t 0 t.head.scan_at start_of_interval refl (begins whole t scan));
    }

pub place_stays : (x : FilePart) (more : List ℕ) (all : Bool) (whole : List ℕ) (t : ScanValue) (p : RowPlace) → IsPlaceIn x whole t p → IsPlaceIn (part_at x.from (x.bytes ++ more) all) whole t p
place_stays x more all whole t p is = record {
  bit = is.bit;
  from = is.from;
  come = record {
    read = is.come.read;
    found = is.come.found;
    within = omega (arith, is.come.within, length-append x.bytes more);
    spelled = subst (λ (y : List ℕ). IsRaw y is.come.found) (sym (front_whole x.bytes more (offset_in t.head p - x.from) is.come.read is.come.within)) is.come.spelled;
    few = is.come.few;
  };
  means = is.means;
}

pub place_in_part : (x y : FilePart) (h : HeadValue) (whole : List ℕ) (t : ScanValue) (p : RowPlace) → MayBe x h whole t → MayBe y h whole t → y.from ≤ offset_in t.head p → x.from + length x.bytes ≤ y.from + length y.bytes → IsPlaceIn x whole t p → IsPlaceIn y whole t p
place_in_part x y h whole t p is_x is_y from to is =
    let at = offset_in t.head p in
    let read = is.come.read in
    let in_x : x.from + (at - x.from) ≡ at = omega (arith, is.from) in
    let in_y : y.from + (at - y.from) ≡ at = omega (arith, from) in
    let within : at - y.from + read ≤ length y.bytes = omega (arith, is.come.within, is.from, from, to) in
    let same : take read (drop (at - x.from) x.bytes) ≡ take read (drop (at - y.from) y.bytes) =
    sym (take_part x h whole t is_x (at - x.from) read is.come.within) ∙ ap (λ (k : ℕ). take read (drop k whole)) (in_x ∙ sym in_y) ∙ take_part y h whole t is_y (at - y.from) read within in
    record {
      bit = is.bit;
      from = from;
      come = record { read = read; found = is.come.found; within = within; spelled = subst (λ (z : List ℕ). IsRaw z is.come.found) same is.come.spelled; few = is.come.few };
      means = is.means;
    }
