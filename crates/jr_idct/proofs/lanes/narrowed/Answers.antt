use Rattle.jr_idct.proofs.Narrowed.{all_fit, narrow_lower, narrow_upper}
use Rattle.jr_idct.proofs.lanes.narrowed.Goals as goal

pub overflow_cast-result : goal.overflow_cast-result
overflow_cast-result c = all_fit c.args.lower c.args.upper _ _ c.well_formed.0 c.well_formed.1.0 c.requires.lower c.requires.upper

pub returns-clause-lower : goal.returns-clause-lower
returns-clause-lower c = narrow_lower c.args.lower c.args.upper _ _ c.well_formed.0 c.well_formed.1.0 c.requires.lower c.requires.upper

pub returns-clause-upper : goal.returns-clause-upper
returns-clause-upper c = narrow_upper c.args.lower c.args.upper _ _ c.well_formed.0 c.well_formed.1.0 c.requires.lower c.requires.upper
