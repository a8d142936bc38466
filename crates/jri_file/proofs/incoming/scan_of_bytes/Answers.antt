use Rattle.std.proofs.Common.{sym, subst, rules}
use Rattle.jri_file.specs.Files.{IsFaultOf}
use Rattle.jri_file.proofs.Faults.{is_fault}
use Rattle.jri_file.proofs.incoming.scan_of_bytes.Goals as goal

pub returns-in-Err-clause-fault : goal.returns-in-Err-clause-fault
returns-in-Err-clause-fault c =
    let stated = subst (IsFaultOf c.args.file.items) (sym c.fault_of.ensures) (is_fault c.args.file.items c.in-Err.refusal c.in-Err.ensures.refused) in
    search (rules, stated)
