use Rattle.std.proofs.Common.{◌≡◌, ◌<◌, Some, sym, ap, subst, ◌∙◌, arith, rules}
use Rattle.jr_head.specs.HeadValue.{HeadValue}
use Rattle.jr_head.specs.Intervals.{intervals_of}
use Rattle.jr_scan.specs.IntervalValue.{IntervalValue}
use Rattle.jr_scan.specs.ScanValue.{interval_of}
use Rattle.jr_scan.specs.Run.{CanReadFrom}
use Rattle.jr_scan.specs.declared.cursor.Cursor.{Cursor}
use Rattle.jr_arrival.specs.PartialRows.{ReadsTo}
use Rattle.jr_arrival.proofs.PartialSteps.{none_whole, walks_whole}
use Rattle.jr_arrival.proofs.partial_source.PartialSourceMcuSource.take_some.Goals as goal

pub interval_ref-interval-requires : goal.interval_ref-interval-requires
interval_ref-interval-requires g c = omega (arith, c.requires.at.reading.number, c.requires.at.count, ap intervals_of c.requires.at.head)

pub take_whole-requires-clause-head : goal.take_whole-requires-clause-head
take_whole-requires-clause-head g c = ap (λ (i : IntervalValue). i.head) c.interval_ref-interval.ensures ∙ c.requires.at.head

pub take_whole-requires-clause-can : goal.take_whole-requires-clause-can
take_whole-requires-clause-can g c =
    let s = c.args.self.now in
    let p = c.in-Some.place in
    let reads : ReadsTo s.scan.now s.cursor.number s.cursor.mcu (Some p) = subst (ReadsTo s.scan.now s.cursor.number s.cursor.mcu) c.in-Some.is c.requires.at.reading.reads in
    subst (λ (i : IntervalValue). CanReadFrom i p) (sym c.interval_ref-interval.ensures) reads.1.can

pub take_whole-requires-clause-number : goal.take_whole-requires-clause-number
take_whole-requires-clause-number g c =
    subst (λ (h : HeadValue). c.args.self.now.cursor.number < intervals_of h) c.requires.at.head c.requires.at.reading.number

pub returns-clause-walks : goal.returns-clause-walks
returns-clause-walks g c =
    let s = c.args.self.now in
    let same : c.interval_ref-interval.result ≡ interval_of s.scan.now.scan s.cursor.number = search (rules, c.interval_ref-interval.ensures) in
    walks_whole c.args.head.now s c.requires.at c.in-Some.place c.in-Some.is same c.take_whole.ensures.taken

pub returns-clause-number : goal.returns-clause-number
returns-clause-number g c = ap (λ (k : Cursor). k.number) c.take_whole.ensures.taken.cursor

pub returns-clause-none : goal.returns-clause-none
returns-clause-none g c stated = none_whole c.args.head.now c.args.self.now c.requires.at c.in-Some.place c.in-Some.is c.interval_ref-interval.ensures c.take_whole.ensures.taken stated
