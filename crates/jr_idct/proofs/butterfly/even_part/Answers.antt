use Rattle.std.proofs.Common.{lit<, ◌∙◌}
use Rattle.jr_idct.proofs.Butterflies.{even_entry_0, even_entry_1, even_entry_2, even_entry_3, even_in_bounds}
use Rattle.jr_idct.proofs.butterfly.even_part.Goals as goal

pub plus-entry_0-requires : goal.plus-entry_0-requires
plus-entry_0-requires g c =
    let value = g.T.Number.value in
    let e = even_entry_0 (value c.args.x0) (value c.args.x2) (value c.args.x4) (value c.args.x6) _ _ _ c.plus.ensures c.times-sum.ensures c.rotated-inner.ensures.outer in
    even_in_bounds (value c.args.x0) (value c.args.x2) (value c.args.x4) (value c.args.x6) g.T.Number.reach c.requires.x0_small c.requires.x2_small c.requires.x4_small c.requires.x6_small 0 (lit< tt) _ e

pub plus-entry_1-requires : goal.plus-entry_1-requires
plus-entry_1-requires g c =
    let value = g.T.Number.value in
    let e = even_entry_1 (value c.args.x0) (value c.args.x2) (value c.args.x4) (value c.args.x6) _ _ _ c.minus.ensures c.times-difference.ensures c.rotated-inner.ensures.inner in
    even_in_bounds (value c.args.x0) (value c.args.x2) (value c.args.x4) (value c.args.x6) g.T.Number.reach c.requires.x0_small c.requires.x2_small c.requires.x4_small c.requires.x6_small 1 (lit< tt) _ e

pub minus-entry_2-requires : goal.minus-entry_2-requires
minus-entry_2-requires g c =
    let value = g.T.Number.value in
    let e = even_entry_2 (value c.args.x0) (value c.args.x2) (value c.args.x4) (value c.args.x6) _ _ _ c.minus.ensures c.times-difference.ensures c.rotated-inner.ensures.inner in
    even_in_bounds (value c.args.x0) (value c.args.x2) (value c.args.x4) (value c.args.x6) g.T.Number.reach c.requires.x0_small c.requires.x2_small c.requires.x4_small c.requires.x6_small 2 (lit< tt) _ e

pub minus-entry_3-requires : goal.minus-entry_3-requires
minus-entry_3-requires g c =
    let value = g.T.Number.value in
    let e = even_entry_3 (value c.args.x0) (value c.args.x2) (value c.args.x4) (value c.args.x6) _ _ _ c.plus.ensures c.times-sum.ensures c.rotated-inner.ensures.outer in
    even_in_bounds (value c.args.x0) (value c.args.x2) (value c.args.x4) (value c.args.x6) g.T.Number.reach c.requires.x0_small c.requires.x2_small c.requires.x4_small c.requires.x6_small 3 (lit< tt) _ e

pub returns-clause-entry_0 : goal.returns-clause-entry_0
returns-clause-entry_0 g c =
    let value = g.T.Number.value in
    let e = even_entry_0 (value c.args.x0) (value c.args.x2) (value c.args.x4) (value c.args.x6) _ _ _ c.plus.ensures c.times-sum.ensures c.rotated-inner.ensures.outer in
    c.plus-entry_0.ensures ∙ e

pub returns-clause-entry_1 : goal.returns-clause-entry_1
returns-clause-entry_1 g c =
    let value = g.T.Number.value in
    let e = even_entry_1 (value c.args.x0) (value c.args.x2) (value c.args.x4) (value c.args.x6) _ _ _ c.minus.ensures c.times-difference.ensures c.rotated-inner.ensures.inner in
    c.plus-entry_1.ensures ∙ e

pub returns-clause-entry_2 : goal.returns-clause-entry_2
returns-clause-entry_2 g c =
    let value = g.T.Number.value in
    let e = even_entry_2 (value c.args.x0) (value c.args.x2) (value c.args.x4) (value c.args.x6) _ _ _ c.minus.ensures c.times-difference.ensures c.rotated-inner.ensures.inner in
    c.minus-entry_2.ensures ∙ e

pub returns-clause-entry_3 : goal.returns-clause-entry_3
returns-clause-entry_3 g c =
    let value = g.T.Number.value in
    let e = even_entry_3 (value c.args.x0) (value c.args.x2) (value c.args.x4) (value c.args.x6) _ _ _ c.plus.ensures c.times-sum.ensures c.rotated-inner.ensures.outer in
    c.minus-entry_3.ensures ∙ e
