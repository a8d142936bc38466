use Rattle.std.proofs.Common.{◌≡◌, ◌+◌, ◌-◌, ◌/◌, ◌%◌, ◌<◌, ◌≤◌, ◌^◌, arith, refl, sym, subst, w16, w32}
use mir.Val.{SFits}
use Rattle.std.proofs.Math.Pow.{pow_mono}
use Rattle.std.proofs.Math.Nat.{mod-lt}
use Rattle.std.proofs.lemmas.Nat.{pow_pos}
use Rattle.std.proofs.lemmas.Int.{to_z-of_z, ints}
use Rattle.jr_code.specs.Bits.{extend}
use Rattle.jr_code.proofs.RegisterLemmas.{masked}
use Rattle.jr_code.proofs.PairLemmas.{pair_held}
use Rattle.jr_code.proofs.ValueLemmas.{Within, extended_within}
use Rattle.jr_code.proofs.words.pair.Goals as goal

pub returns : goal.returns
returns c =
    let m = c.args.symbol % 16 in
    let v = c.extend.result in
    let extra = c.args.window / 2 ^ (11 - (c.args.long + c.args.symbol % 16)) in
    let f32 : SFits w32 v = omega (arith, ints, c.extend.ensures.least, c.extend.ensures.greatest) in
    let f16 : SFits w16 v = omega (arith, ints, c.extend.ensures.least, c.extend.ensures.greatest) in
    let front = masked extra m (omega arith) in
    let is : v ≡ extend m (extra % 2 ^ m) = grind (arith, front, c.extend.ensures.value, c.from.ensures) in
    let small : m ≤ 10 = c.requires.extra in
    let few : 2 ^ m ≤ 2 ^ 10 = pow_mono small in
    let below : extra % 2 ^ m < 2 ^ m = mod-lt extra (pow_pos m) in
    let within : Within 1023 v = subst (Within 1023) (sym is) (extended_within m (extra % 2 ^ m) 1023 below (omega arith)) in
    rw (to_z-of_z w32 v f32, to_z-of_z w16 v f16) (record {
      least = omega (arith, ints, within.1);
      greatest = within.0;
      both = refl;
      pair = λ t w _. pair_held t c.args.window c.args.symbol c.args.long m v w refl c.requires.held is;
    })
