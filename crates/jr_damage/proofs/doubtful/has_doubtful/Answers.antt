use Rattle.jr_damage.proofs.Doubts.{natural_doubt}
use Rattle.jr_damage.proofs.doubtful.has_doubtful.Goals as goal

pub returns : goal.returns
returns c =
    let both = natural_doubt c.args.unit.now c.natural.result.now c.args.quantisers.now c.factors.result.now c.natural.ensures.values c.factors.ensures.factors in
    (λ t. both.0 (c.are_doubtful.ensures.0 t), λ d. c.are_doubtful.ensures.1 (both.1 d))
