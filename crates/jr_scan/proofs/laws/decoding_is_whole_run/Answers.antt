use Rattle.jr_scan.proofs.Runs as laws
use Rattle.jr_scan.proofs.laws.decoding_is_whole_run.Goals as goal

pub returns : goal.returns
returns c = λ i zs. (laws.decoding_is_run i zs, λ r. laws.run_is_decoding i zs r.0 r.1 r.2)
