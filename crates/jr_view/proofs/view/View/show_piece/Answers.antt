use Rattle.std.proofs.Common.{rules, ◌*◌, ◌-◌, refl, subst, sym}
use Rattle.jr_head.specs.Geometry.{blocks_of}
use Rattle.jr_scan.specs.ScanValue.{ScanValue}
use Rattle.jr_view.specs.Views.{AddsMcus, ShowsUnits, first_mcu_of, size_of}
use Rattle.jr_view.proofs.Parts.{piece_part}
use Rattle.jr_view.proofs.view.View.show_piece.Goals as goal

shows : (c : goal.After-show) → AddsMcus c.args.self.now (first_mcu_of c.args.self.now.scan.head c.args.piece.now.interval.number) (size_of c.args.self.now.scan.head) c.args.piece.now.samples c.show.new.self
shows c = search rules

pub returns-clause-part : goal.returns-clause-part
returns-clause-part c part has =
    piece_part c.args.self.now c.show.new.self c.args.piece.now (shows c) (record { number = refl; interval = has; outcome = c.assert_invariant.ensures }) part

pub returns-clause-seen : goal.returns-clause-seen
returns-clause-seen c = (shows c).seen

pub returns-clause-shown : goal.returns-clause-shown
returns-clause-shown c mcu is unseen =
    subst (λ (s : ScanValue). ShowsUnits c.show.new.self mcu c.args.piece.now.samples ((mcu - first_mcu_of s.head c.args.piece.now.interval.number) * blocks_of s.head))
    (sym (shows c).scan) ((shows c).shown mcu is unseen)

pub returns-clause-kept : goal.returns-clause-kept
returns-clause-kept c = (shows c).kept

pub returns-clause-others : goal.returns-clause-others
returns-clause-others c = (shows c).others
