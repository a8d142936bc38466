use Rattle.std.proofs.Common.{rules, arith, subst, sym, ap, ◌∙◌, ◌≡◌, ℕ, ◌+◌, ◌<◌}
use Rattle.jr_head.specs.HeadValue.{HeadValue}
use Rattle.jr_head.specs.Geometry.{mcus_of}
use Rattle.jr_rows.proofs.IntervalPlaces.{first_few}
use Rattle.std.specs.Option.{IfSome}
use Rattle.jr_scan.specs.ScanValue.{ScanValue}
use Rattle.jr_rows.specs.Cursors.{AreSpeculationsIn, IsCursorOf, mcus_to}
use Rattle.jr_rows.specs.Rows.{coded_before}
use Rattle.jr_rows.proofs.rows.Rows.skip.Goals as goal

pub skip_mcus-requires-clause-few : goal.skip_mcus-requires-clause-few
skip_mcus-requires-clause-few c =
    let h = c.args.part.now.scan.head in
    let some : 0 < mcus_of h = subst (λ (n : ℕ). 0 < n) (c.mcus.ensures.value ∙ ap (λ (x : HeadValue). mcus_of x) (c.head.ensures.value ∙ ap (λ (s : ScanValue). s.head) c.scan-scan.ensures)) c.mcus.ensures.some in
    let few = first_few h c.args.part.now.limit some in
    search (rules, arith, few, c.requires.rows.at)

pub skip_mcus-requires-clause-lies : goal.skip_mcus-requires-clause-lies
skip_mcus-requires-clause-lies c = subst (λ (s : ScanValue). IsCursorOf s c.args.self.now.cursor) (sym c.scan-scan.ensures) c.requires.rows.lies

pub skip_mcus-requires-clause-same : goal.skip_mcus-requires-clause-same
skip_mcus-requires-clause-same c = subst (λ (s : ScanValue). IfSome c.args.speculations (λ g. AreSpeculationsIn s g.now)) (sym c.scan-scan.ensures) c.requires.same

pub returns-clause-rows : goal.returns-clause-rows
returns-clause-rows c =
    let n = c.args.part.now.limit in
    let row = c.args.self.now.row in
    let h = c.args.part.now.scan.head in
    let at = c.args.self.now.cursor in
    let next = c.skip_mcus.new.cursor in
    let coded = c.coded_of_row-coded.result in
    let here = subst (λ (s : ScanValue). coded_before s.head c.limit.result row + coded ≡ coded_before s.head c.limit.result (row + 1)) c.scan-scan.ensures c.coded_of_row-coded.ensures.moved in
    let rest = subst (λ (k : ℕ). coded_before h k row + coded ≡ coded_before h k (row + 1)) c.limit.ensures.value here in
    let before = ap (λ (s : ScanValue). mcus_to s.head at) c.scan-scan.ensures in
    let after = ap (λ (s : ScanValue). mcus_to s.head next) c.scan-scan.ensures in
    record {
      lies = subst (λ (s : ScanValue). IsCursorOf s next) c.scan-scan.ensures c.skip_mcus.ensures.lies;
      at = omega (arith, c.skip_mcus.ensures.moved, before, after, c.requires.rows.at, rest);
    }
