use Rattle.std.proofs.Common.{rules, ◌≡◌, length}
use Rattle.jr_head.specs.Geometry.{mcus_down, mcus_of}
use Rattle.jr_view.specs.Views.{whole_rows}
use Rattle.jr_view.proofs.Rows.{whole_is_all}
use Rattle.jr_view.proofs.view.View.is_whole.Goals as goal

pub returns-clause-all : goal.returns-clause-all
returns-clause-all c is =
    let v = c.args.self.now in
    let rows : whole_rows v ≡ mcus_down v.scan.head = search (rules, is) in
    let long : length v.seen ≡ mcus_of v.scan.head = search rules in
    whole_is_all v long rows
