use Rattle.std.proofs.Common.{◌+◌, ◌/◌, ◌≤◌, length, arith, rules}
use Rattle.jr_damage.proofs.doubtful.first_doubtful.Goals as goal

pub returns-clause-some : goal.returns-clause-some
returns-clause-some c =
    let i = c.args.interval in
    let bits = c.in_ok-bits.bits in
    let within = c.in_ok-bits.ensures.within in
    let first : bits.from / 8 ≤ length i.bytes = omega (arith, within.0) in
    let last : (bits.to + 7) / 8 ≤ length i.bytes = omega (arith, within.1) in
    record {
      bits = bits;
      is = c.in_ok-bits.ensures.some;
      interval = search (rules, c.number-number.ensures);
      mcu = search (rules, c.mcus_of-first.ensures.first);
      start = c.offset_of.ensures i.bytes c.requires.spelled.raw first;
      end = search (rules, c.offset_of-2.ensures, c.requires.spelled.raw, last);
    }
