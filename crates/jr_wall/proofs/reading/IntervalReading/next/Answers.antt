use Rattle.std.proofs.Common.{rules, ◌≡◌, ◌<◌, sym, subst, ap}
use Rattle.std.specs.Option.{IfNone}
use Rattle.jr_scan.specs.Mcus.{HasLongestFront}
use Rattle.jr_scan.specs.Cursors.{ReadingValue}
use Rattle.jr_wall.specs.Sharing.{IsOneOf}
use Rattle.jr_piece.specs.Strips.{ReportsEnd}
use Rattle.jr_wall.proofs.Gathering.{reports_end}
use Rattle.jr_wall.proofs.reading.IntervalReading.next.Goals as goal

pub returns : goal.returns
returns g c =
    let r = c.self.inside.reader in
    let now = c.next_strip.new.reader in
    let same : now ≡ r = subst (λ o. IfNone o (now ≡ r)) c.in_default.is c.in_ok-strip.ensures.same in
    let some : 0 < c.self.inside.each = c.self.invariant.1 in
    let there : HasLongestFront r.interval r.first = (subst (λ o. IfNone o (0 < c.self.inside.each → HasLongestFront r.interval r.first)) c.in_default.is c.in_ok-strip.ensures.none) some in
    let whole : HasLongestFront now.interval now.first = subst (λ (x : ReadingValue). HasLongestFront x.interval x.first) (sym same) there in
    let ends : ReportsEnd now.interval c.first.result c.is_sound.result = subst (λ k. ReportsEnd now.interval k c.is_sound.result) (sym c.first.ensures) (reports_end c.is_sound.result now.interval now.first c.is_sound.ensures.sound c.is_sound.ensures.damaged whole) in
    record {
      interval = now.interval;
      own = subst (IsOneOf g.S.OneScan.part) (ap (λ (x : ReadingValue). x.interval) (sym same)) c.self.invariant.0;
      number = sym c.number.ensures;
      ends = search (rules, ends);
    }
