use Rattle.std.proofs.Common.{◌<◌, subst, arith}
use Rattle.std.proofs.lemmas.List.Elements.{All-from_get_or}
use Rattle.jri_memory.specs.declared.places.PlaceError.{PlaceError}
use Rattle.jri_memory.specs.Rows.{IsWhy, file_part}
use Rattle.jri_memory.proofs.Reasons.{only_rows, skips_rows}
use Rattle.jri_memory.proofs.place_calls.skip_file_rows.Goals as goal

pub returns-in-Err-clause-refused : goal.returns-in-Err-clause-refused
returns-in-Err-clause-refused c answer =
    let stated = c.report_undone.ensures.refused answer in
    let why = subst (λ (e : PlaceError). IsWhy c.args.file.now (file_part c.args.file.now c.args.more) c.args.place.now c.args.rows 0 e) stated.is (c.in-Err.ensures.why 0) in
    record {
      fault = stated.fault;
      is = why stated.other;
      number_is = stated.number_is;
      detail_is = stated.detail_is;
    }

pub returns-in-Err-clause-rows : goal.returns-in-Err-clause-rows
returns-in-Err-clause-rows c answer =
    subst (λ (e : PlaceError). IsWhy c.args.file.now (file_part c.args.file.now c.args.more) c.args.place.now c.args.rows 0 e) (c.report_undone.ensures.rows answer) (c.in-Err.ensures.why 0)

pub returns-in-Ok-clause-each_rows : goal.returns-in-Ok-clause-each_rows
returns-in-Ok-clause-each_rows c lacks other =
    let fits = All-from_get_or (λ b. b < 256) c.args.file.now 0 (λ i lt. let byte = c.type_inv.file i in omega (arith, byte)) in
    absurd (skips_rows c.args.file.now fits c.args.place.now c.args.rows (file_part c.args.file.now c.args.more) c.skip_from.new.place c.in-Ok.skipped c.in-Ok.ensures.skipped lacks)

pub returns-in-Err-clause-each_rows : goal.returns-in-Err-clause-each_rows
returns-in-Err-clause-each_rows c lacks other =
    let fits = All-from_get_or (λ b. b < 256) c.args.file.now 0 (λ i lt. let byte = c.type_inv.file i in omega (arith, byte)) in
    c.report_undone.ensures.each_rows (only_rows c.args.file.now fits c.args.place.now c.args.rows (file_part c.args.file.now c.args.more) 0 c.in-Err.unmoved (λ e. other (c.report_undone.ensures.each_memory e)) (c.in-Err.ensures.why 0) lacks)
