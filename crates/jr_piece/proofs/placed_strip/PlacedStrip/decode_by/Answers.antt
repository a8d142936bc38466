use Rattle.std.proofs.Common.{◌≡◌, ℤ, List, ap, sym, subst, ◌∙◌, rules}
use Rattle.std.specs.Arc.{arc_value}
use Rattle.jr_head.specs.Geometry.{IsValid}
use Rattle.jr_scan.specs.declared.place.RunEnd.TheVariants.{AllRead}
use Rattle.jr_scan.specs.IntervalValue.{IntervalValue}
use Rattle.jr_scan.specs.Run.{RunOf, run_from, IsRun}
use Rattle.jr_scan.proofs.CursorRuns.{all_read}
use Rattle.jr_scan.proofs.ScanLaws.{one_run}
use Rattle.jr_piece.specs.Outcome.{AreSamples}
use Rattle.jr_piece.specs.Strips.{IsStrip}
use Rattle.jr_piece.proofs.placed_strip.PlacedStrip.decode_by.Goals as goal

pub of-requires : goal.of-requires
of-requires c =
    let i = arc_value c.self.inside.interval in
    let own : c.deref-coded.result.now ≡ i = search rules in
    let valid = subst IsValid (c.head-valid.ensures.value ∙ ap (λ (v : IntervalValue). v.head) own) c.head-valid.ensures.valid in
    let placed = c.self.invariant in
    let r = c.read_samples.new.reader in
    let run : r.run ≡ run_from i c.self.inside.from c.self.inside.mcus = search (rules, c.in_ok-samples.ensures.run) in
    let read = c.in_ok-samples.ensures.read in
    let its = subst (λ (o : RunOf). IsRun o placed.blocks placed.to AllRead) (sym run) placed.run in
    let same = all_read one_run r read.0 placed.blocks placed.to (subst (λ (o : RunOf). IsValid o.interval.head) (sym run) valid) its read.1 c.in_ok-samples.ensures.ended in
    let s0 = subst (λ (o : RunOf). AreSamples o.interval.head read.0 c.in_ok-samples.samples.items) run read.2 in
    let s1 = subst (λ (zs : List (List ℤ)). AreSamples i.head zs c.in_ok-samples.samples.items) same s0 in
    let strip : IsStrip (record { interval = i; first = c.self.inside.first; mcus = c.self.inside.mcus; samples = c.in_ok-samples.samples.items }) = record { blocks = placed.blocks; are = placed.are; samples = s1 } in
    let other : arc_value c.in_ok-interval.interval ≡ i = search rules in
    let there = subst (λ (v : IntervalValue). IsStrip (record { interval = v; first = c.self.inside.first; mcus = c.self.inside.mcus; samples = c.in_ok-samples.samples.items })) (sym other) strip in
    search there
