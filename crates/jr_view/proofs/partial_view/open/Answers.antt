use Rattle.std.proofs.Common.{◌≡◌, [], eqb, true, length, refl, rules}
use Rattle.std.proofs.lemmas.Bool.{eqb-true}
use Rattle.std.proofs.lemmas.List.{nil_from_length}
use Rattle.jr_view.proofs.PartialViews.{seen_grey, seen_same}
use Rattle.jr_view.proofs.partial_view.open.Goals as goal

pub returns-then-not-is_empty-clause-seen : goal.returns-then-not-is_empty-clause-seen
returns-then-not-is_empty-clause-seen c bytes seen =
    seen_same c.args.partial_file.now c.begin.new.self c.args.pixels.now.items (length c.args.row.now.items) (length c.args.row.now.items) bytes c.begin.ensures.lines (c.begin.ensures.partial_file bytes seen.partial_file) refl seen

pub returns-in_default-clause-seen : goal.returns-in_default-clause-seen
returns-in_default-clause-seen c bytes seen =
    seen_same c.args.partial_file.now c.begin.new.self c.args.pixels.now.items (length c.args.row.now.items) (length c.args.row.now.items) bytes c.begin.ensures.lines (c.begin.ensures.partial_file bytes seen.partial_file) refl seen

pub returns-in_default-row_space-clause-seen : goal.returns-in_default-row_space-clause-seen
returns-in_default-row_space-clause-seen c bytes seen =
    seen_same c.args.partial_file.now c.begin.new.self c.args.pixels.now.items (length c.args.row.now.items) (length c.args.row.now.items) bytes c.begin.ensures.lines (c.begin.ensures.partial_file bytes seen.partial_file) refl seen

pub returns-in_default-grey_lines-clause-seen : goal.returns-in_default-grey_lines-clause-seen
returns-in_default-grey_lines-clause-seen c bytes seen =
    seen_same c.args.partial_file.now c.begin.new.self c.args.pixels.now.items (length c.args.row.now.items) (length c.args.row.now.items) bytes c.begin.ensures.lines (c.begin.ensures.partial_file bytes seen.partial_file) refl seen

pub returns-clause-seen : goal.returns-clause-seen
returns-clause-seen c bytes seen =
    let is : (eqb (length c.args.pixels.now.items) 0) ≡ true = search rules in
    let empty : c.args.pixels.now.items ≡ [] = nil_from_length c.args.pixels.now.items (eqb-true (length c.args.pixels.now.items) 0 is) in
    let come = c.begin.ensures.partial_file bytes seen.partial_file in
    seen_grey c.args.partial_file.now c.begin.new.self c.in-Some.head.now c.args.pixels.now.items c.in-Ok-grey_lines.lines.items (length c.args.row.now.items) (length c.in-Ok-row_space.next.items) bytes
    empty c.begin.ensures.lines come (c.in-Some.ensures.head bytes come) c.in-Ok-grey_lines.ensures.grey c.in-Ok-row_space.ensures seen
