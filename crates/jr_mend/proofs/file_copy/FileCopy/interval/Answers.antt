use Rattle.std.proofs.Common.{◌≡◌, ◌∙◌, refl, sym, rules}
use Rattle.jr_damage.proofs.Examined.{examined}
use Rattle.jr_scan.specs.ScanValue.{mcus_in}
use Rattle.jr_mend.proofs.file_copy.FileCopy.interval.Goals as goal

pub returns : goal.returns
returns c =
    let s = c.args.self.now.scan in
    let stated = c.mcus_in.ensures.value in
    let count : c.mcus_in.result ≡ mcus_in s.head c.args.i = search (rules, stated) in
    let of = c.of.ensures in
    let is : c.of.result ≡ record { number = c.args.i; mcus = c.mcus_in.result; bytes = c.args.bytes.now; head = s.head } = search (rules, of) in
    is ∙ examined s s.head c.args.i c.mcus_in.result c.args.bytes.now refl count (sym c.requires.bytes)
