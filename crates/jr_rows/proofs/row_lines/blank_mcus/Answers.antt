use Rattle.std.proofs.Common.{◌≡◌, ◌<◌, ◌∙◌, inl, inr, ap, arith, rules}
use Rattle.std.proofs.lemmas.Bool.{cases_lt}
use Rattle.jr_head.specs.Geometry.{mcus_across}
use Rattle.jr_rows.specs.Groups.{unit_in}
use Rattle.jr_rows.proofs.row_lines.blank_mcus.Goals as goal

pub loop-mcu-preserved : goal.loop-mcu-preserved
loop-mcu-preserved c =
    let h = c.args.head.now in
    let mcu = c.loop-mcu.mcu in
    let new = c.blank_mcu.new.groups in
    let kept = c.loop-mcu.invariant in
    let here : mcu < mcus_across h = search rules in
    record {
      space = record { across_is = kept.space.across_is; long = search (rules, kept.space.long) };
      here = λ m j le lt lm lj. elim (cases_lt m mcu) [
        | inl l ↦ c.blank_mcu.ensures.others m j lm lj (λ e. omega (arith, e, l)) ∙ kept.here m j le l lm lj
        | inr g ↦
            let same : m ≡ mcu = omega (arith, lt, g) in
            ap (λ n. unit_in h new n j) same ∙ c.blank_mcu.ensures.here j lj
      ];
      kept = λ m j lt lm lj. c.blank_mcu.ensures.others m j lm lj (λ e. search (rules, arith, e, lt)) ∙ kept.kept m j lt lm lj;
    }

pub returns-clause-here : goal.returns-clause-here
returns-clause-here c m j le lm lj = c.loop-mcu.invariant.here m j le (search (rules, arith, lm)) lm lj
