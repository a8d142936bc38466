use Rattle.std.proofs.Common.{rules, subst, ◌≡◌, ℕ, ◌-◌, take, drop}
use Rattle.jr_scan.specs.FirstIntervalsValue.{FirstIntervalsValue}
use Rattle.jr_rows.specs.Rows.{CountsRow, ShowsLines}
use Rattle.jr_crew.proofs.caller.CallerRowPainter.paint.Goals as goal

pub returns-clause-lines : goal.returns-clause-lines
returns-clause-lines g c =
    let old = c.args.self.now in
    let pix = take (c.args.to - c.args.from) (drop c.args.from c.store_into-buffer.new.pixels.items) in
    let part : c.part-2.result.now ≡ record { scan = old.scan; limit = old.limit } = search rules in
    let row : c.painted-painted.result.row ≡ old.row = search rules in
    subst (λ (r : ℕ). ShowsLines old.scan old.limit r pix) row (subst (λ (p : FirstIntervalsValue). ShowsLines p.scan p.limit c.painted-painted.result.row pix) part c.store_into-buffer.ensures.lines)

pub returns-clause-counts : goal.returns-clause-counts
returns-clause-counts g c =
    let old = c.args.self.now in
    let m = c.store_into-buffer.result.0 in
    let part : c.part-2.result.now ≡ record { scan = old.scan; limit = old.limit } = search rules in
    let row : c.painted-painted.result.row ≡ old.row = search rules in
    subst (λ (r : ℕ). CountsRow old.scan old.limit r m) row (subst (λ (p : FirstIntervalsValue). CountsRow p.scan p.limit c.painted-painted.result.row m) part c.store_into-buffer.ensures.counts)
