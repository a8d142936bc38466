use Rattle.std.proofs.Common.{Option, sym, subst, ◌∙◌}
use Rattle.jr_scan.specs.declared.place.Place.{Place}
use Rattle.jr_scan.specs.IntervalValue.{IntervalValue}
use Rattle.jr_scan.specs.ScanValue.{interval_of}
use Rattle.jr_scan.specs.Mcus.{ReportsSound}
use Rattle.jr_scan.specs.Cursors.{IsPlaceAfter}
use Rattle.jr_arrival.specs.PartialRows.{ReadsTo}
use Rattle.jr_arrival.proofs.Readings.{none_sound, reads_there}
use Rattle.jr_arrival.proofs.partial_source.is_sound.Goals as goal

pub returns-in_default : goal.returns-in_default
returns-in_default c =
    let r = c.args.cursor in
    none_sound c.args.scan.now r.number r.mcu (subst (ReadsTo c.args.scan.now r.number r.mcu) c.in_default.is c.requires.reads)

pub skip-requires-clause-at : goal.skip-requires-clause-at
skip-requires-clause-at c =
    let r = c.args.cursor in
    let reads = subst (ReadsTo c.args.scan.now r.number r.mcu) c.in-Some.is c.requires.reads in
    let there = reads_there c.args.scan.now r.number r.mcu _ c.requires.few reads in
    let here = subst (λ (o : Option Place). IsPlaceAfter (interval_of c.args.scan.now.scan r.number) r.mcu o) (sym c.in-Some.is) there in
    subst (λ (i : IntervalValue). IsPlaceAfter i r.mcu r.place) (sym (c.fork.ensures ∙ c.interval_ref-interval.ensures)) here

pub returns : goal.returns
returns c = subst (ReportsSound c.is_sound.result) c.interval_ref-interval.ensures c.is_sound.ensures
