use Rattle.jr_arrival.proofs.After as after
use Rattle.jr_arrival.proofs.place_laws.run_after.Goals as goal

pub returns : goal.returns
returns c = λ i front p k zs to end run. after.run_after i front p k zs to end run
