use Rattle.std.proofs.Common.{Err, ap, ◌<◌, subst, arith}
use Rattle.std.proofs.lemmas.List.Elements.{All-from_get_or}
use Rattle.jr_arrival.specs.Parts.{part_of}
use Rattle.jri_memory.specs.declared.places.PlaceError.{PlaceError}
use Rattle.jri_memory.specs.Rows.{IsWhy}
use Rattle.jri_memory.proofs.Reasons.{only_outside, only_rows, skips_rows, wants_or_inside}
use Rattle.jri_memory.proofs.place_calls.skip_window_rows.Goals as goal

pub returns-in-Err-clause-refused : goal.returns-in-Err-clause-refused
returns-in-Err-clause-refused c answer =
    let stated = c.report_undone.ensures.refused answer in
    let why = subst (λ (e : PlaceError). IsWhy c.args.header.now (part_of c.args.window) c.args.place.now c.args.rows 0 e) stated.is (c.in-Err.ensures.why 0) in
    record {
      fault = stated.fault;
      is = why stated.other;
      number_is = stated.number_is;
      detail_is = stated.detail_is;
    }

pub returns-in-Err-clause-rows : goal.returns-in-Err-clause-rows
returns-in-Err-clause-rows c answer =
    subst (λ (e : PlaceError). IsWhy c.args.header.now (part_of c.args.window) c.args.place.now c.args.rows 0 e) (c.report_undone.ensures.rows answer) (c.in-Err.ensures.why 0)

pub returns-in-Err-clause-outside : goal.returns-in-Err-clause-outside
returns-in-Err-clause-outside c answer =
    subst (λ (e : PlaceError). IsWhy c.args.header.now (part_of c.args.window) c.args.place.now c.args.rows 0 e) (c.report_undone.ensures.outside answer) (c.in-Err.ensures.why 0)

pub returns-in-Ok-clause-each_rows : goal.returns-in-Ok-clause-each_rows
returns-in-Ok-clause-each_rows c lacks other =
    let fits = All-from_get_or (λ b. b < 256) c.args.header.now 0 (λ i lt. let byte = c.type_inv.header i in omega (arith, byte)) in
    absurd (skips_rows c.args.header.now fits c.args.place.now c.args.rows (part_of c.args.window) c.skip_in_window.new.place c.in-Ok.skipped c.in-Ok.ensures.skipped lacks)

pub returns-in-Ok-clause-each_outside : goal.returns-in-Ok-clause-each_outside
returns-in-Ok-clause-each_outside c lacks other =
    let fits = All-from_get_or (λ b. b < 256) c.args.header.now 0 (λ i lt. let byte = c.type_inv.header i in omega (arith, byte)) in
    absurd (wants_or_inside c.args.header.now fits c.args.place.now c.args.rows (part_of c.args.window) c.in-Ok.ensures.inside lacks)

pub returns-in-Err-clause-each_rows : goal.returns-in-Err-clause-each_rows
returns-in-Err-clause-each_rows c lacks other =
    let fits = All-from_get_or (λ b. b < 256) c.args.header.now 0 (λ i lt. let byte = c.type_inv.header i in omega (arith, byte)) in
    c.report_undone.ensures.each_rows (only_rows c.args.header.now fits c.args.place.now c.args.rows (part_of c.args.window) 0 c.in-Err.unmoved (λ e. other (c.report_undone.ensures.each_memory e)) (c.in-Err.ensures.why 0) lacks)

pub returns-in-Err-clause-each_outside : goal.returns-in-Err-clause-each_outside
returns-in-Err-clause-each_outside c lacks other =
    let fits = All-from_get_or (λ b. b < 256) c.args.header.now 0 (λ i lt. let byte = c.type_inv.header i in omega (arith, byte)) in
    c.report_undone.ensures.each_outside (only_outside c.args.header.now fits c.args.place.now c.args.rows (part_of c.args.window) 0 c.in-Err.unmoved (λ e. other (c.report_undone.ensures.each_memory e)) (λ e. absurd (c.in-Err.ensures.other (ap Err e))) (c.in-Err.ensures.why 0) lacks)
