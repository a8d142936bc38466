use Rattle.std.proofs.Common.{rules, ◌≡◌, length, get_or}
use Rattle.std.specs.Prelude.{pos}
use Rattle.jr_mcu.specs.Shift.{IsSmall}
use Rattle.jr_mcu.proofs.Greater.{three_within}
use Rattle.jr_mcu.proofs.shifting.all_small.Goals as goal
use Rattle.jr_mcu.proofs.shifting.all_small.Goals.{then-is_small, else-is_small}

pub returns-then-is_small-2 : goal.returns-then-is_small-2
returns-then-is_small-2 c last =
    let ps = c.args.predictions.now in
    let three : length ps ≡ 3 = search rules in
    let third : IsSmall (get_or ps 2 (pos 0)) = search (rules, c.is_small-then-is_small-2.ensures last) in
    elim c.if-is_small.branch [
      | then-is_small w ↦
          let first : IsSmall (get_or ps 0 (pos 0)) = search (rules, c.is_small.ensures w.if-is_small.true) in
          let second : IsSmall (get_or ps 1 (pos 0)) = search (rules, w.is_small-then-is_small.ensures, w.value-is, c.if-is_small-2.true) in
          three_within IsSmall ps three first second third
      | else-is_small w ↦ search (rules, w.value-is, c.if-is_small-2.true)
    ]
