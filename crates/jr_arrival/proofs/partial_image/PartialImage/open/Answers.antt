use Rattle.std.proofs.Common.{◌≡◌, ◌*◌, ◌<◌, refl, arith, rules}
use Rattle.jr_head.specs.Geometry.{IsValid, mcus_down, vertical_max}
use Rattle.jr_paint.proofs.Places.{in_div_ceil}
use Rattle.jr_scan.specs.PartialScan.{PartialScanValue, HasCome}
use Rattle.jr_scan.specs.ScanValue.{intervals_of}
use Rattle.jr_arrival.specs.PartialRows.{Begins}
use Rattle.jr_arrival.proofs.Readings.{begins_partial}
use Rattle.jr_arrival.proofs.partial_image.PartialImage.open.Goals as goal

pub invariant_of-result : goal.invariant_of-result
invariant_of-result c =
    let g : PartialScanValue = c.in_ok-scan.scan in
    let head : g.scan.head ≡ c.args.head = search rules in
    let v = c.in_ok-row.row in
    let begins : Begins g.scan.head v = search rules in
    let valid : IsValid g.scan.head = search rules in
    let some : 0 < intervals_of g.scan.head = search (rules, arith) in
    let come : HasCome g c.args.bytes.now = search rules in
    let deep : 0 < 8 * vertical_max g.scan.head = let d = valid.components.down in omega (arith, d) in
    let down : 0 < mcus_down g.scan.head = in_div_ceil 0 g.scan.head.height (8 * vertical_max g.scan.head) deep (omega (arith, valid.high)) in
    (begins_partial g v begins down some valid.high valid.components.down, c.requires.small, (c.args.bytes.now, come, refl))
