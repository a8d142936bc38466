use Rattle.std.proofs.Common.{ℕ, ap, sym, subst}
use Rattle.jr_head.specs.Geometry.{IsValid}
use Rattle.jr_scan.specs.Mcus.{LongestFront}
use Rattle.jr_scan.specs.McuReader.{McuReaderValue}
use Rattle.jr_scan.proofs.McuReaders.{longest_read}
use Rattle.jr_scan.proofs.mcu_reader.McuReader.mcus.Goals as goal

pub returns-clause-front : goal.returns-clause-front
returns-clause-front c = λ i zs all.
    let valid = subst (λ (r : McuReaderValue). IsValid r.run.interval.head) c.self.view_is c.self.invariant.valid in
    subst (λ (k : ℕ). LongestFront i k zs) (ap (λ (r : McuReaderValue). r.mcu) (sym c.self.view_is)) (longest_read c.args.self.now i zs valid all)
