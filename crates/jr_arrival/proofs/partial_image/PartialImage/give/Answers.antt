use Rattle.std.proofs.Common.{ℕ, List, ◌*◌, ◌/◌, ◌<◌, length, take, refl, sym, subst, ◌∙◌, arith}
use Rattle.jr_head.specs.Geometry.{IsValid, horizontal_max, mcus_across}
use Rattle.jr_paint.specs.Lines.{line_size}
use Rattle.jr_paint.proofs.Places.{in_div_ceil}
use Rattle.jr_scan.specs.PartialScan.{PartialScanValue, HasCome}
use Rattle.jr_scan.specs.ScanValue.{intervals_of}
use Rattle.jr_arrival.specs.PartialFile.{PartialImageValue}
use Rattle.jr_arrival.specs.PartialRows.{AreFinalLines}
use Rattle.jr_arrival.specs.Settled.{ReturnsSettled}
use Rattle.jr_arrival.proofs.Reaching.{HasLooked, returns_settled}
use Rattle.jr_arrival.proofs.partial_image.PartialImage.give.Goals as goal

pub returns-clause-settled : goal.returns-clause-settled
returns-clause-settled c =
    let i = c.self.inside in
    let part : PartialScanValue = i.scan in
    let h = part.scan.head in
    let n = c.give.result in
    let space = length c.args.pixels.now in
    let valid : IsValid h = subst IsValid c.head.ensures.value c.head.ensures.valid in
    let wide : 0 < 8 * horizontal_max h = let d = valid.components.across in omega (arith, d) in
    let some : 0 < mcus_across h = in_div_ceil 0 h.width (8 * horizontal_max h) wide (omega (arith, valid.wide)) in
    let looked : HasLooked part c.give.new.self i.row.lines n (space / line_size h) = record { lines = c.give.ensures.lines; few = c.give.ensures.few; all = c.give.ensures.all } in
    let inside : c.last_begun-last.result < intervals_of h = omega (arith, c.last_begun-last.ensures.inside, sym c.intervals-most.ensures.value ∙ c.intervals-most.ensures.count) in
    subst (λ (v : PartialImageValue). (bytes : List ℕ) → HasCome v.partial_scan bytes → ReturnsSettled bytes v.partial_scan.scan v.row.lines n space) c.self.view_is
    (λ bytes come. returns_settled part c.give.new.self valid c.give.ensures.partial_row i.row.lines n (space / line_size h) looked bytes come space some refl c.last_begun-last.result c.last_begun-last.ensures.last inside)

pub returns-clause-given : goal.returns-clause-given
returns-clause-given c =
    subst (λ (v : PartialImageValue). AreFinalLines v.partial_scan v.row.lines c.give.result (take (c.give.result * line_size v.partial_scan.scan.head) c.give.new.pixels)) c.self.view_is c.give.ensures.given
