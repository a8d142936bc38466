use Rattle.std.proofs.Common.{Err, ap, ◌<◌, length, arith}
use Rattle.std.proofs.lemmas.List.Elements.{All-from_get_or}
use Rattle.jr_arrival.specs.Parts.{part_of}
use Rattle.jri_memory.proofs.Reasons.{returns_space, returns_rows, only_outside, only_space, only_rows, wants_or_inside}
use Rattle.jri_memory.proofs.place_calls.decode_window_rows.Goals as goal

pub returns-in-Ok-clause-each_rows : goal.returns-in-Ok-clause-each_rows
returns-in-Ok-clause-each_rows c lacks other =
    let fits = All-from_get_or (λ b. b < 256) c.args.header.now 0 (λ i lt. let byte = c.type_inv.header i in omega (arith, byte)) in
    absurd (returns_rows c.args.header.now fits c.args.place.now c.args.rows (part_of c.args.window) c.decode_in_window.new.place c.in-Ok.decoded c.args.pixels.now c.decode_in_window.new.pixels c.in-Ok.ensures.given lacks)

pub returns-in-Ok-clause-each_space : goal.returns-in-Ok-clause-each_space
returns-in-Ok-clause-each_space c lacks other apart =
    let fits = All-from_get_or (λ b. b < 256) c.args.header.now 0 (λ i lt. let byte = c.type_inv.header i in omega (arith, byte)) in
    absurd (returns_space c.args.header.now fits c.args.place.now c.args.rows (part_of c.args.window) c.decode_in_window.new.place c.in-Ok.decoded c.args.pixels.now c.decode_in_window.new.pixels c.in-Ok.ensures.given lacks)

pub returns-in-Ok-clause-each_outside : goal.returns-in-Ok-clause-each_outside
returns-in-Ok-clause-each_outside c lacks other =
    let fits = All-from_get_or (λ b. b < 256) c.args.header.now 0 (λ i lt. let byte = c.type_inv.header i in omega (arith, byte)) in
    absurd (wants_or_inside c.args.header.now fits c.args.place.now c.args.rows (part_of c.args.window) c.in-Ok.ensures.inside lacks)

pub returns-in-Err-clause-each_rows : goal.returns-in-Err-clause-each_rows
returns-in-Err-clause-each_rows c lacks other =
    let fits = All-from_get_or (λ b. b < 256) c.args.header.now 0 (λ i lt. let byte = c.type_inv.header i in omega (arith, byte)) in
    c.report_undone.ensures.each_rows (only_rows c.args.header.now fits c.args.place.now c.args.rows (part_of c.args.window) (length c.args.pixels.now) c.in-Err.unmoved (λ e. other (c.report_undone.ensures.each_memory e)) c.in-Err.ensures.why lacks)

pub returns-in-Err-clause-each_space : goal.returns-in-Err-clause-each_space
returns-in-Err-clause-each_space c lacks other apart =
    let fits = All-from_get_or (λ b. b < 256) c.args.header.now 0 (λ i lt. let byte = c.type_inv.header i in omega (arith, byte)) in
    c.report_undone.ensures.each_space (only_space c.args.header.now fits c.args.place.now c.args.rows (part_of c.args.window) (length c.args.pixels.now) c.in-Err.unmoved (λ e. other (c.report_undone.ensures.each_memory e)) (λ e. apart (c.report_undone.ensures.each_outside e)) c.in-Err.ensures.why lacks)

pub returns-in-Err-clause-each_outside : goal.returns-in-Err-clause-each_outside
returns-in-Err-clause-each_outside c lacks other =
    let fits = All-from_get_or (λ b. b < 256) c.args.header.now 0 (λ i lt. let byte = c.type_inv.header i in omega (arith, byte)) in
    c.report_undone.ensures.each_outside (only_outside c.args.header.now fits c.args.place.now c.args.rows (part_of c.args.window) (length c.args.pixels.now) c.in-Err.unmoved (λ e. other (c.report_undone.ensures.each_memory e)) (λ e. c.in-Err.ensures.space (ap Err e)) c.in-Err.ensures.why lacks)
