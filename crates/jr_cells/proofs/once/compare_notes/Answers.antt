use Rattle.std.proofs.Common.{rules, ap, ◌∙◌}
use Rattle.jr_cells.proofs.Noted.{same_cell, agree_on, set_back}
use Rattle.jr_cells.proofs.once.compare_notes.Goals as goal

pub compare-requires : goal.compare-requires
compare-requires g c =
    let i = c.loop-i.invariant in
    ap (λ n. n.cell) c.again-other.ensures.1 ∙ same_cell c.args.one.now.items c.args.two.now.items c.loop-i.one.items c.loop-i.two.items c.loop-i.i _ _ c.requires i.one i.two (search rules) c.index_mut-in-loop-i.ensures.value c.index_mut.ensures.value

pub loop-i-preserved : goal.loop-i-preserved
loop-i-preserved g c =
    let i = c.loop-i.invariant in
    let m = c.index_mut-in-loop-i.ensures.value in
    let n = c.index_mut.ensures.value in
    record {
      one = set_back c.loop-i.one.items c.loop-i.i c.compare.new.self _ m c.compare.ensures.0 ∙ i.one;
      two = search (rules, set_back c.loop-i.two.items c.loop-i.i c.again-other.new.self _ n c.again-other.ensures.0 ∙ i.two);
      agree = agree_on c.args.one.now.items c.args.two.now.items c.loop-i.one.items c.loop-i.two.items c.loop-i.i _ _ _ i.one i.two m n c.again-other.ensures.1 c.compare.ensures.1 i.agree;
    }
