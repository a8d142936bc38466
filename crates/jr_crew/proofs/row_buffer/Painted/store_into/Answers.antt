use Rattle.std.proofs.Common.{rules, arith, sym, subst, ap, ◌∙◌, ◌≡◌, ℕ, ◌-◌, ◌*◌, ◌≤◌, ◌++◌, Option, List, length, length-drop, take, drop}
use Rattle.std.proofs.lemmas.List.{length-take-le}
use Rattle.std.proofs.lemmas.Slice.{take-put_mid_below}
use borrow.Rule.Slice.PartMut.{put_mid}
use Rattle.jr_head.specs.Geometry.{vertical_max}
use Rattle.jr_scan.specs.FirstIntervalsValue.{FirstIntervalsValue}
use Rattle.jr_paint.specs.Lines.{line_size}
use Rattle.jr_rows.specs.Rows.{line_count}
use Rattle.jr_crew.specs.RowBuffer.{HasPixelSpace, IsPainted}
use Rattle.jr_crew.specs.RowValues.{PaintedValue}
use Rattle.jr_rows.proofs.Lent.{all_back, part_back}
use Rattle.jr_crew.proofs.row_buffer.Painted.store_into.Goals as goal

pub copy_to-requires-clause-space : goal.copy_to-requires-clause-space
copy_to-requires-clause-space g c =
    let from = c.args.from in
    let size = c.args.to - from in
    let old = c.deref_mut.result.now in
    let there : length old ≡ length c.args.pixels.now.items = ap length c.deref_mut.ensures.value in
    let part : length (take size (drop from old)) ≡ size = length-take-le size (drop from old) (omega (arith, length-drop from old, c.requires.within, there)) in
    omega (arith, part, c.requires.space)

pub returns-then-from-gt0-clause-kept : goal.returns-then-from-gt0-clause-kept
returns-then-from-gt0-clause-kept g c =
    let from = c.args.from in
    let size = c.args.to - from in
    let old = c.deref_mut.result.now in
    let items = c.args.pixels.now.items in
    let new = c.copy_to.new.pixels in
    let all = put_mid from size old new in
    let space : length all ≡ length old = search rules in
    let there : length old ≡ length items = ap length c.deref_mut.ensures.value in
    let long : c.args.pixels.now.len ≡ length all = search (rules, arith, space, there) in
    let is : take c.args.pixels.now.len (all ++ drop (length all) items) ≡ all = all_back c.args.pixels.now.len all items long in
    let inside : from ≤ length old = omega (arith, c.requires.space, c.requires.within, there) in
    ap (take from) is ∙ take-put_mid_below from size old new from (omega arith) inside ∙ ap (take from) c.deref_mut.ensures.value

pub returns-then-from-gt0-clause-long : goal.returns-then-from-gt0-clause-long
returns-then-from-gt0-clause-long g c =
    let from = c.args.from in
    let size = c.args.to - from in
    let old = c.deref_mut.result.now in
    let items = c.args.pixels.now.items in
    let new = c.copy_to.new.pixels in
    let all = put_mid from size old new in
    let space : length all ≡ length old = search rules in
    let there : length old ≡ length items = ap length c.deref_mut.ensures.value in
    let long : c.args.pixels.now.len ≡ length all = search (rules, arith, space, there) in
    let is : take c.args.pixels.now.len (all ++ drop (length all) items) ≡ all = all_back c.args.pixels.now.len all items long in
    let inside : from ≤ length old = omega (arith, c.requires.space, c.requires.within, there) in
    ap length is ∙ space ∙ there

pub returns-then-from-gt0-clause-lines : goal.returns-then-from-gt0-clause-lines
returns-then-from-gt0-clause-lines g c b first =
    let from = c.args.from in
    let size = c.args.to - from in
    let old = c.deref_mut.result.now in
    let items = c.args.pixels.now.items in
    let new = c.copy_to.new.pixels in
    let all = put_mid from size old new in
    let space : length all ≡ length old = search rules in
    let there : length old ≡ length items = ap length c.deref_mut.ensures.value in
    let long : c.args.pixels.now.len ≡ length all = search (rules, arith, space, there) in
    let is : take c.args.pixels.now.len (all ++ drop (length all) items) ≡ all = all_back c.args.pixels.now.len all items long in
    let inside : from ≤ length old = omega (arith, c.requires.space, c.requires.within, there) in
    let part : length (take size (drop from old)) ≡ size = length-take-le size (drop from old) (omega (arith, length-drop from old, c.requires.within, there)) in
    ap (λ (l : List ℕ). take size (drop from l)) is ∙ part_back from size old new inside (c.copy_to.auto.pixels ∙ part) ∙ c.copy_to.ensures.lines b first

pub returns-clause-lines : goal.returns-clause-lines
returns-clause-lines g c b first =
    let t = c.args.part.now.scan in
    let row = c.args.self.row in
    let n = line_count t.head row * line_size t.head in
    let from = c.args.from in
    let size = c.args.to - from in
    let ours = c.self.inside.pixels.items in
    let painted = subst (λ (k : Option FirstIntervalsValue). IsPainted k c.args.self) c.requires.part (subst (IsPainted g.S.OneScan.part) c.self.view_is c.self.invariant.2) in
    let zero_from : from ≡ 0 = omega (arith, c.if-from-gt0.false) in
    let whole : size ≡ n = omega (arith, c.requires.space) in
    let all : take size (drop from ours) ≡ take n ours = ap (λ (j : ℕ). take size (drop j ours)) zero_from ∙ ap (λ (j : ℕ). take j ours) whole in
    let shown = ap (λ (p : PaintedValue). take n p.pixels) c.self.view_is ∙ painted.lines b first in
    search (rules, all ∙ shown)

pub returns-clause-kept : goal.returns-clause-kept
returns-clause-kept g c =
    let zero_from : c.args.from ≡ 0 = omega (arith, c.if-from-gt0.false) in
    ap (λ (j : ℕ). take j c.swap.new.y.items) zero_from ∙ ap (λ (j : ℕ). take j c.args.pixels.now.items) (sym zero_from)

pub invariant_of-buffer : goal.invariant_of-buffer
invariant_of-buffer g c =
    let t = c.args.part.now.scan in
    let space : 8 * vertical_max t.head * line_size t.head ≤ length c.self.inside.pixels.items = subst (λ (k : Option FirstIntervalsValue). HasPixelSpace k c.self.inside.pixels.items) c.requires.part c.self.invariant.1 in
    let same : length c.swap.new.x.items ≡ length c.self.inside.pixels.items = search (rules, arith, c.swap.ensures.x_after, c.if-len.false) in
    (c.self.invariant.0, subst (λ (k : Option FirstIntervalsValue). HasPixelSpace k c.swap.new.x.items) (sym c.requires.part) (omega (arith, space, same)))

pub returns-clause-long : goal.returns-clause-long
returns-clause-long g c = search (rules, arith, c.swap.ensures.y_after, c.if-len.false)
