use Rattle.std.proofs.Common.{◌≡◌, lit<, pos, neg_ℤ, ◌+ℤ◌, ◌∙◌, rules}
use Rattle.std.proofs.Math.IntN.{◌*ℤ◌}
use Rattle.jr_idct.proofs.Butterflies.{entry_0, entry_1, entry_2, entry_3, odd_in_bounds}
use Rattle.jr_idct.proofs.butterfly.odd_part.Goals as goal

pub plus-entry_0-requires : goal.plus-entry_0-requires
plus-entry_0-requires g c =
    let value = g.T.Number.value in
    let e = entry_0 (value c.args.x1) (value c.args.x3) (value c.args.x5) (value c.args.x7) _ _ _ _ _ c.plus.ensures c.times-z1.ensures c.times.ensures c.plus-own_1.ensures c.shared-z3.ensures.zero_two in
    odd_in_bounds (value c.args.x1) (value c.args.x3) (value c.args.x5) (value c.args.x7) g.T.Number.reach c.requires.x1_small c.requires.x3_small c.requires.x5_small c.requires.x7_small 0 (lit< tt) _ e

pub plus-entry_1-requires : goal.plus-entry_1-requires
plus-entry_1-requires g c =
    let value = g.T.Number.value in
    let e = entry_1 (value c.args.x1) (value c.args.x3) (value c.args.x5) (value c.args.x7) _ _ _ _ _ c.plus-2.ensures c.times-z2.ensures c.times-2.ensures c.plus-own_3.ensures c.shared-z3.ensures.one_three in
    odd_in_bounds (value c.args.x1) (value c.args.x3) (value c.args.x5) (value c.args.x7) g.T.Number.reach c.requires.x1_small c.requires.x3_small c.requires.x5_small c.requires.x7_small 1 (lit< tt) _ e

pub plus-entry_2-requires : goal.plus-entry_2-requires
plus-entry_2-requires g c =
    let value = g.T.Number.value in
    let e = entry_2 (value c.args.x1) (value c.args.x3) (value c.args.x5) (value c.args.x7) _ _ _ _ _ c.plus-2.ensures c.times-z2.ensures c.times-3.ensures c.plus-own_5.ensures c.shared-z3.ensures.zero_two in
    odd_in_bounds (value c.args.x1) (value c.args.x3) (value c.args.x5) (value c.args.x7) g.T.Number.reach c.requires.x1_small c.requires.x3_small c.requires.x5_small c.requires.x7_small 2 (lit< tt) _ e

pub plus-entry_3-requires : goal.plus-entry_3-requires
plus-entry_3-requires g c =
    let value = g.T.Number.value in
    let e = entry_3 (value c.args.x1) (value c.args.x3) (value c.args.x5) (value c.args.x7) _ _ _ _ _ c.plus.ensures c.times-z1.ensures c.times-4.ensures c.plus-own_7.ensures c.shared-z3.ensures.one_three in
    odd_in_bounds (value c.args.x1) (value c.args.x3) (value c.args.x5) (value c.args.x7) g.T.Number.reach c.requires.x1_small c.requires.x3_small c.requires.x5_small c.requires.x7_small 3 (lit< tt) _ e

pub returns-clause-entry_0 : goal.returns-clause-entry_0
returns-clause-entry_0 g c =
    let value = g.T.Number.value in
    let product : value c.times-z1.result ≡ neg_ℤ (pos 7373) *ℤ value c.plus.result = search (rules, c.times-z1.ensures) in
    let own : value c.times.result ≡ pos 12299 *ℤ value c.args.x1 = search (rules, c.times.ensures) in
    let sum : value c.plus-entry_0.result ≡ value c.plus-own_1.result +ℤ value c.shared-z3.result.1 = search (rules, c.plus-entry_0.ensures) in
    sum ∙ entry_0 (value c.args.x1) (value c.args.x3) (value c.args.x5) (value c.args.x7) _ _ _ _ _ c.plus.ensures product own c.plus-own_1.ensures c.shared-z3.ensures.zero_two

pub returns-clause-entry_1 : goal.returns-clause-entry_1
returns-clause-entry_1 g c =
    let value = g.T.Number.value in
    let product : value c.times-z2.result ≡ neg_ℤ (pos 20995) *ℤ value c.plus-2.result = search (rules, c.times-z2.ensures) in
    let own : value c.times-2.result ≡ pos 25172 *ℤ value c.args.x3 = search (rules, c.times-2.ensures) in
    let sum : value c.plus-entry_1.result ≡ value c.plus-own_3.result +ℤ value c.shared-z3.result.0 = search (rules, c.plus-entry_1.ensures) in
    sum ∙ entry_1 (value c.args.x1) (value c.args.x3) (value c.args.x5) (value c.args.x7) _ _ _ _ _ c.plus-2.ensures product own c.plus-own_3.ensures c.shared-z3.ensures.one_three

pub returns-clause-entry_2 : goal.returns-clause-entry_2
returns-clause-entry_2 g c =
    let value = g.T.Number.value in
    let product : value c.times-z2.result ≡ neg_ℤ (pos 20995) *ℤ value c.plus-2.result = search (rules, c.times-z2.ensures) in
    let own : value c.times-3.result ≡ pos 16819 *ℤ value c.args.x5 = search (rules, c.times-3.ensures) in
    let sum : value c.plus-entry_2.result ≡ value c.plus-own_5.result +ℤ value c.shared-z3.result.1 = search (rules, c.plus-entry_2.ensures) in
    sum ∙ entry_2 (value c.args.x1) (value c.args.x3) (value c.args.x5) (value c.args.x7) _ _ _ _ _ c.plus-2.ensures product own c.plus-own_5.ensures c.shared-z3.ensures.zero_two

pub returns-clause-entry_3 : goal.returns-clause-entry_3
returns-clause-entry_3 g c =
    let value = g.T.Number.value in
    let product : value c.times-z1.result ≡ neg_ℤ (pos 7373) *ℤ value c.plus.result = search (rules, c.times-z1.ensures) in
    let own : value c.times-4.result ≡ pos 2446 *ℤ value c.args.x7 = search (rules, c.times-4.ensures) in
    let sum : value c.plus-entry_3.result ≡ value c.plus-own_7.result +ℤ value c.shared-z3.result.0 = search (rules, c.plus-entry_3.ensures) in
    sum ∙ entry_3 (value c.args.x1) (value c.args.x3) (value c.args.x5) (value c.args.x7) _ _ _ _ _ c.plus.ensures product own c.plus-own_7.ensures c.shared-z3.ensures.one_three
