use Rattle.std.proofs.Common.{rules, arith, refl, ◌≡◌, ◌+◌, ◌-◌, ◌<◌, length}
use Rattle.jr_head.specs.Geometry.{mcus_of}
use Rattle.jr_scan.specs.ScanValue.{intervals_of}
use Rattle.jr_rows.proofs.Countings.{all_counted}
use Rattle.jr_rows.proofs.writing.counts_of.Goals as goal

pub overflow_sub-result : goal.overflow_sub-result
overflow_sub-result c =
    let t = c.args.scan.now in
    let some : 0 < mcus_of t.head = search (rules, arith) in
    let more : 0 < intervals_of t.head = search (rules, arith) in
    let count : length t.intervals ≡ intervals_of t.head = search rules in
    let counted = all_counted t c.args.limit c.args.marked some more count c.requires.few c.requires.counts in
    search (rules, arith, counted.0)

pub overflow_sub-result-2 : goal.overflow_sub-result-2
overflow_sub-result-2 c =
    let t = c.args.scan.now in
    let some : 0 < mcus_of t.head = search (rules, arith) in
    let more : 0 < intervals_of t.head = search (rules, arith) in
    let count : length t.intervals ≡ intervals_of t.head = search rules in
    let counted = all_counted t c.args.limit c.args.marked some more count c.requires.few c.requires.counts in
    search (rules, arith, counted.0)

pub returns : goal.returns
returns c =
    let t = c.args.scan.now in
    let m = c.args.marked in
    let some : 0 < mcus_of t.head = search (rules, arith) in
    let more : 0 < intervals_of t.head = search (rules, arith) in
    let count : length t.intervals ≡ intervals_of t.head = search rules in
    let all : c.intervals.result ≡ length t.intervals = search rules in
    let counted = all_counted t c.args.limit m some more count c.requires.few c.requires.counts in
    let sum : m.sound + m.damaged + (c.intervals.result - m.sound - m.damaged) ≡ length t.intervals = omega (arith, counted.0, all) in
    counted.1 _ refl refl sum
