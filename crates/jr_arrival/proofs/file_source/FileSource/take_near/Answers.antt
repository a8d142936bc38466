use Rattle.std.proofs.Common.{Some, sym, ap, subst, arith}
use Rattle.jr_scan.specs.IntervalValue.{IntervalValue}
use Rattle.jr_scan.specs.Run.{HasNoMcu, CanReadFrom}
use Rattle.jr_scan.specs.declared.cursor.Cursor.{Cursor}
use Rattle.jr_arrival.specs.declared.file_source.FileSource.{FileSource}
use Rattle.jr_arrival.specs.FileSources.{IsInside}
use Rattle.jr_arrival.proofs.ShownSteps.{walks_near}
use Rattle.jr_arrival.proofs.Windows.{window_long}
use Rattle.jr_arrival.proofs.file_source.FileSource.take_near.Goals as goal

pub take_whole-whole-requires-clause-can : goal.take_whole-whole-requires-clause-can
take_whole-whole-requires-clause-can g c =
    let s = c.args.self.now in
    let inside : IsInside s.window (Some c.args.place) = subst (IsInside s.window) c.requires.place c.requires.at.inside in
    subst (λ (i : IntervalValue). CanReadFrom i c.args.place) (sym c.interval.ensures) (omega (arith, inside.0, window_long s.window c.requires.at.window), inside.1)

pub returns-clause-walks : goal.returns-clause-walks
returns-clause-walks g c = walks_near c.args.head.now c.args.self.now c.args.place c.requires.at c.requires.place c.interval.ensures c.take_whole-whole.ensures.taken

pub returns-clause-number : goal.returns-clause-number
returns-clause-number g c = ap (λ (k : Cursor). k.number) c.take_whole-whole.ensures.taken.cursor

pub returns-clause-none : goal.returns-clause-none
returns-clause-none g c stated =
    let none = c.take_whole-whole.ensures.taken.none stated in
    (ap (λ (k : Cursor). (let f : FileSource = record c.args.self.now { cursor = k } in f)) none.0, subst (λ (i : IntervalValue). HasNoMcu i c.args.place) c.interval.ensures none.1)
