use Rattle.std.proofs.Common.{Err, ap, ◌<◌, length, arith}
use Rattle.std.proofs.lemmas.List.Elements.{All-from_get_or}
use Rattle.jri_memory.specs.Rows.{file_part}
use Rattle.jri_memory.proofs.Reasons.{returns_space, returns_rows, only_space, only_rows}
use Rattle.jri_memory.proofs.place_calls.decode_file_rows.Goals as goal

pub returns-in-Ok-clause-each_rows : goal.returns-in-Ok-clause-each_rows
returns-in-Ok-clause-each_rows c lacks other =
    let fits = All-from_get_or (λ b. b < 256) c.args.file.now 0 (λ i lt. let byte = c.type_inv.file i in omega (arith, byte)) in
    absurd (returns_rows c.args.file.now fits c.args.place.now c.args.rows (file_part c.args.file.now c.args.more) c.decode_from.new.place c.in-Ok.decoded c.args.pixels.now c.decode_from.new.pixels c.in-Ok.ensures.given lacks)

pub returns-in-Ok-clause-each_space : goal.returns-in-Ok-clause-each_space
returns-in-Ok-clause-each_space c lacks other =
    let fits = All-from_get_or (λ b. b < 256) c.args.file.now 0 (λ i lt. let byte = c.type_inv.file i in omega (arith, byte)) in
    absurd (returns_space c.args.file.now fits c.args.place.now c.args.rows (file_part c.args.file.now c.args.more) c.decode_from.new.place c.in-Ok.decoded c.args.pixels.now c.decode_from.new.pixels c.in-Ok.ensures.given lacks)

pub returns-in-Err-clause-each_rows : goal.returns-in-Err-clause-each_rows
returns-in-Err-clause-each_rows c lacks other =
    let fits = All-from_get_or (λ b. b < 256) c.args.file.now 0 (λ i lt. let byte = c.type_inv.file i in omega (arith, byte)) in
    c.report_undone.ensures.each_rows (only_rows c.args.file.now fits c.args.place.now c.args.rows (file_part c.args.file.now c.args.more) (length c.args.pixels.now) c.in-Err.unmoved (λ e. other (c.report_undone.ensures.each_memory e)) c.in-Err.ensures.why lacks)

pub returns-in-Err-clause-each_space : goal.returns-in-Err-clause-each_space
returns-in-Err-clause-each_space c lacks other =
    let fits = All-from_get_or (λ b. b < 256) c.args.file.now 0 (λ i lt. let byte = c.type_inv.file i in omega (arith, byte)) in
    c.report_undone.ensures.each_space (only_space c.args.file.now fits c.args.place.now c.args.rows (file_part c.args.file.now c.args.more) (length c.args.pixels.now) c.in-Err.unmoved (λ e. other (c.report_undone.ensures.each_memory e)) (λ e. c.in-Err.ensures.inside (ap Err e)) c.in-Err.ensures.why lacks)
