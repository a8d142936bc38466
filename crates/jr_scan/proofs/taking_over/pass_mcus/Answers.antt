use Rattle.std.proofs.Common.{rules, ◌≡◌, ◌++◌, [], length}
use Rattle.jr_scan.specs.declared.place.RunEnd.TheVariants.{AllRead}
use Rattle.jr_scan.proofs.McuReaders.{no_run}
use Rattle.jr_scan.proofs.Runs.{component_low, runs_meet}
use Rattle.jr_scan.proofs.taking_over.pass_mcus.Goals as goal

pub loop-k-init : goal.loop-k-init
loop-k-init c =
    let p = c.args.place.now in
    let three : length p.predictions ≡ 3 = search rules in
    record { run = ([], no_run c.args.interval.now p three); within = c.requires.within; in_range = c.requires.in_range }

pub loop-k-preserved : goal.loop-k-preserved
loop-k-preserved c =
    let i = c.args.interval.now in
    let before = c.loop-k.invariant.run in
    let ys = c.in-Some.ensures.run in
    record {
      run = (before.0 ++ ys.0, runs_meet i c.args.place.now c.loop-k.place c.in-Some.to c.loop-k.k 1 before.0 ys.0 AllRead (component_low i.head c.in-Some.ensures.valid) before.1 ys.1);
      within = c.in-Some.ensures.within;
      in_range = c.in-Some.ensures.in_range;
    }
