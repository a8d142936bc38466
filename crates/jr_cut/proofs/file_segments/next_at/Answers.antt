use Rattle.std.proofs.Common.{rules, sym, subst, inl, inr, arith}
use Rattle.std.proofs.lemmas.List.{take_rest}
use Rattle.jr_cut.specs.Cut.{IsStop}
use Rattle.jr_cut.proofs.Following.{restart_within}
use Rattle.jr_cut.proofs.file_segments.next_at.Goals as goal

pub stop_at-requires-clause-stop : goal.stop_at-requires-clause-stop
stop_at-requires-clause-stop c = subst IsStop (sym (take_rest c.args.file.now c.args.end)) c.requires.stop

pub overflow_add-result : goal.overflow_add-result
overflow_add-result c =
    let due = rw (take_rest c.args.file.now c.args.end) at c.in-Restart.ensures in
    omega (arith, restart_within c.args.file.now c.args.end _ c.in-Restart.marker c.requires.there due.1)

pub returns-in-Restart-clause-within : goal.returns-in-Restart-clause-within
returns-in-Restart-clause-within c =
    let due = rw (take_rest c.args.file.now c.args.end) at c.in-Restart.ensures in
    search (rules, restart_within c.args.file.now c.args.end _ c.in-Restart.marker c.requires.there due.1)

pub returns-in-Restart-clause-next : goal.returns-in-Restart-clause-next
returns-in-Restart-clause-next c =
    let due = rw (take_rest c.args.file.now c.args.end) at c.in-Restart.ensures in
    inl (record { count = c.in-Restart.marker; more = search (rules, due.0); due = search (rules, due.1); is = search rules })

pub returns-in-End-clause-next : goal.returns-in-End-clause-next
returns-in-End-clause-next c =
    let ends = rw (take_rest c.args.file.now c.args.end) at c.in-End.ensures in
    inr (record { ended = c.in-End.field-0; ends = search (rules, ends); last = search rules })
