use Rattle.std.proofs.Common.{rules, ◌≡◌, ℕ, ◌-◌, ◌*◌, false, sym, subst}
use Rattle.jr_head.specs.Geometry.{blocks_of}
use Rattle.jr_scan.specs.ScanValue.{ScanValue}
use Rattle.jr_view.specs.Views.{AddsMcus, IsOfStrip, ShowsUnits, first_of_strip, has_seen}
use Rattle.jr_view.proofs.Parts.{strip_part}
use Rattle.jr_view.proofs.view.View.show_strip.Goals as goal

shows : (c : goal.After-show) → AddsMcus c.args.self.now (first_of_strip c.args.self.now.scan.head c.args.strip.now) c.args.strip.now.mcus c.args.strip.now.samples c.show.new.self
shows c = search rules

pub returns-clause-seen : goal.returns-clause-seen
returns-clause-seen c = (shows c).seen

pub returns-clause-shown : goal.returns-clause-shown
returns-clause-shown c =
    let old = c.args.self.now in
    let strip = c.args.strip.now in
    subst (λ (s : ScanValue). (mcu : ℕ) → IsOfStrip old strip mcu → has_seen old mcu ≡ false → ShowsUnits c.show.new.self mcu strip.samples ((mcu - first_of_strip s.head strip) * blocks_of s.head))
    (sym (shows c).scan) (shows c).shown

pub returns-clause-others : goal.returns-clause-others
returns-clause-others c = (shows c).others

pub returns-clause-part : goal.returns-clause-part
returns-clause-part c = strip_part c.args.self.now c.show.new.self c.args.strip.now (shows c) c.assert_invariant.ensures
