use Rattle.std.proofs.Common.{rules, arith, sym, subst, ◌≡◌, ℕ, ◌*◌, ◌≤◌, ℤ, Option, List, length}
use Rattle.jr_head.specs.Geometry.{blocks_of, mcus_across, vertical_max}
use Rattle.jr_scan.specs.FirstIntervalsValue.{FirstIntervalsValue}
use Rattle.jr_paint.specs.Lines.{line_size}
use Rattle.jr_rows.specs.Rows.{AreRead}
use Rattle.jr_rows.proofs.Lent.{all_back}
use Rattle.jr_crew.specs.RowBuffer.{HasBlockSpace, HasPixelSpace, HasSamples, IsPainted, IsRead}
use Rattle.jr_crew.proofs.row_buffer.CodedRow.paint.Goals as goal

pub invariant_of-result : goal.invariant_of-result
invariant_of-result g c =
    let t = c.args.part.now.scan in
    let old = c.self.inside.pixels in
    let new = c.paint_read.new.pixels in
    let blocks = c.self.inside.blocks.items in
    let row = c.self.inside.row in
    let marked = c.self.inside.marked in
    let same : length new ≡ length old.items = search (rules, c.paint_read.auto.pixels) in
    let long : old.len ≡ length new = search (rules, c.paint_read.auto.pixels) in
    let is = all_back old.len new old.items long in
    let space : 8 * vertical_max t.head * line_size t.head ≤ length old.items = subst (λ (k : Option FirstIntervalsValue). HasPixelSpace k old.items) c.requires c.self.invariant.1 in
    let read = subst (λ (k : Option FirstIntervalsValue). IsRead k (record { row = row; marked = marked; blocks = blocks })) c.requires c.self.invariant.2 in
    subst (λ (ps : List ℕ). HasBlockSpace g.S.OneScan.part blocks × HasPixelSpace g.S.OneScan.part ps × IsPainted g.S.OneScan.part (record { row = row; marked = marked; pixels = ps })) (sym is)
    (subst (λ (k : Option FirstIntervalsValue). HasBlockSpace g.S.OneScan.part blocks × HasPixelSpace k new × IsPainted k (record { row = row; marked = marked; pixels = new })) (sym c.requires)
    (c.self.invariant.0, omega (arith, space, same), record { row = read.row; lines = c.paint_read.ensures.lines; counts = read.counts }))

pub invariant_of-space : goal.invariant_of-space
invariant_of-space g c = subst (λ (k : Option FirstIntervalsValue). HasSamples k c.paint_read.new.work) (sym c.requires) c.paint_read.ensures.space

pub paint_read-requires-clause-row : goal.paint_read-requires-clause-row
paint_read-requires-clause-row g c =
    let read = subst (λ (k : Option FirstIntervalsValue). IsRead k (record { row = c.self.inside.row; marked = c.self.inside.marked; blocks = c.self.inside.blocks.items })) c.requires c.self.invariant.2 in
    omega (arith, read.row)

pub paint_read-requires-clause-space : goal.paint_read-requires-clause-space
paint_read-requires-clause-space g c = subst (λ (k : Option FirstIntervalsValue). HasSamples k c.space.inside.work) c.requires c.space.invariant

pub paint_read-requires-clause-long : goal.paint_read-requires-clause-long
paint_read-requires-clause-long g c =
    let space = subst (λ (k : Option FirstIntervalsValue). HasBlockSpace k c.self.inside.blocks.items) c.requires c.self.invariant.0 in
    subst (λ (bs : List (List ℤ)). length bs ≡ mcus_across c.args.part.now.scan.head * blocks_of c.args.part.now.scan.head) (sym c.deref.ensures.value) space

pub paint_read-requires-clause-read : goal.paint_read-requires-clause-read
paint_read-requires-clause-read g c =
    let read = subst (λ (k : Option FirstIntervalsValue). IsRead k (record { row = c.self.inside.row; marked = c.self.inside.marked; blocks = c.self.inside.blocks.items })) c.requires c.self.invariant.2 in
    let there = subst (λ (bs : List (List ℤ)). AreRead c.args.part.now.scan c.args.part.now.limit c.self.inside.row bs) (sym c.deref.ensures.value) read.blocks in
    search there

pub paint_read-requires-clause-pixels : goal.paint_read-requires-clause-pixels
paint_read-requires-clause-pixels g c =
    let space = subst (λ (k : Option FirstIntervalsValue). HasPixelSpace k c.self.inside.pixels.items) c.requires c.self.invariant.1 in
    subst (λ (ps : List ℕ). 8 * vertical_max c.args.part.now.scan.head * line_size c.args.part.now.scan.head ≤ length ps) (sym c.deref_mut.ensures.value) space
