use Rattle.std.proofs.Common.{◌≡◌, ◌-◌, ◌*◌, ℕ, List, [], length, drop, ap, subst, ◌∙◌, rules, arith}
use Rattle.jr_code.specs.Bits.{bits}
use Rattle.jr_head.specs.Geometry.{IsValid}
use Rattle.jr_scan.specs.declared.place.RunEnd.TheVariants.{AllRead}
use Rattle.jr_scan.specs.Run.{left_at, run_from, IsRun}
use Rattle.jr_scan.proofs.McuReaders.{left_is, no_run}
use Rattle.jr_scan.proofs.mcu_reader.McuReader.at.Goals as goal

-- the bits that are left determine the position
pub invariant_of-result : goal.invariant_of-result
invariant_of-result c =
    let i = c.args.interval in
    let is : c.bits_from-bits.result ≡ left_at i c.args.from = c.bits_from-bits.ensures ∙ ap (λ (b : List ℕ). drop c.args.from.bit (bits b)) c.bytes.ensures.bytes in
    let at : c.args.from.bit ≡ 8 * length i.bytes - length c.bits_from-bits.result = omega (arith, ap length is, left_is i c.args.from, c.requires.within) in
    record {
      valid = subst IsValid c.head-head.ensures.value c.head-head.ensures.valid;
      few = omega arith;
      small = c.ranges.mcus.fits;
      bits = is ∙ ap (λ (k : ℕ). drop k (bits i.bytes)) at;
      three = search rules;
      in_range = search (rules, c.requires.in_range);
    }

pub returns-clause-read : goal.returns-clause-read
returns-clause-read c =
    let i = c.args.interval in
    let from = c.args.from in
    let is : c.bits_from-bits.result ≡ left_at i from = c.bits_from-bits.ensures ∙ ap (λ (b : List ℕ). drop from.bit (bits b)) c.bytes.ensures.bytes in
    let at : from.bit ≡ 8 * length i.bytes - length c.bits_from-bits.result = omega (arith, ap length is, left_is i from, c.requires.within) in
    let three : length from.predictions ≡ 3 = search rules in
    record {
      few = omega arith;
      run = let stated = subst (λ (k : ℕ). IsRun (run_from i from 0) [] (record { bit = k; predictions = from.predictions }) AllRead) at (no_run i from three) in search (rules, stated);
    }
