use Rattle.std.proofs.Common.{◌≡◌, ◌<◌, ◌∙◌, None, inl, inr, ap, sym, arith, rules}
use Rattle.std.proofs.lemmas.Bool.{cases_lt}
use Rattle.jr_head.specs.Geometry.{blocks_of}
use Rattle.jr_rows.specs.Bands.{unit_shown_of}
use Rattle.jr_rows.specs.Groups.{unit_in}
use Rattle.jr_rows.proofs.row_lines.blank_mcu.Goals as goal

pub loop-j-preserved : goal.loop-j-preserved
loop-j-preserved c =
    let h = c.args.head.now in
    let j = c.loop-j.j in
    let new = c.store_unit.new.groups in
    let kept = c.loop-j.invariant in
    let here : j < blocks_of h = search (rules, arith) in
    let store : unit_in h new c.args.mcu j ≡ unit_shown_of h j None 0 = search (rules, c.store_unit.ensures.here, c.blank_unit.ensures) in
    record {
      space = record { across_is = kept.space.across_is; long = search (rules, kept.space.long) };
      here = λ i lt. elim (cases_lt i j) [
        | inl l ↦ c.store_unit.ensures.others c.args.mcu i c.requires.mcu (omega (arith, l, here)) (λ _ e. omega (arith, e, l)) ∙ kept.here i l
        | inr g ↦
            let same : i ≡ j = omega (arith, lt, g) in
            ap (λ k. unit_in h new c.args.mcu k) same ∙ store ∙ ap (λ k. unit_shown_of h k None 0) (sym same)
      ];
      others = λ m i lm li apart. c.store_unit.ensures.others m i lm li (λ e _. apart e) ∙ kept.others m i lm li apart;
    }
