use Rattle.std.proofs.Common.{◌<◌, ◌≤◌, length, sym, arith, ap, ◌*◌, ◌+◌}
use Rattle.jr_code.specs.Code.{extent}
use Rattle.jr_code.proofs.CodeLemmas.{space-nil, space_more}
use Rattle.jr_code.proofs.ReadLemmas.{shifted}
use Rattle.jr_code.proofs.table.space_of.Goals as goal

pub loop-i-init : goal.loop-i-init
loop-i-init c = record { space_is = sym space-nil; ample = omega arith }

pub loop-i-preserved : goal.loop-i-preserved
loop-i-preserved c =
    let i = c.loop-i.i in
    let within : i < length c.args.counts.now = omega arith in
    let byte : c.from-count.result ≤ 255 = omega (arith, c.fits-counts i) in
    let sh = shifted c.from-count.result i byte (omega arith) in
    record {
      space_is = omega (arith, sh.0, space_more c.args.counts.now i within, ap (λ n. n * extent (i + 1)) c.from-count.ensures);
      ample = omega (arith, sh.0, sh.1);
    }
