use Rattle.jr_idct.proofs.Bytes.{all_bytes, byte_at}
use Rattle.jr_idct.proofs.pair.two_columns.Goals as goal

pub overflow_cast-bytes : goal.overflow_cast-bytes
overflow_cast-bytes c = all_bytes c.args.first c.args.second _ _ c.well_formed.0 c.well_formed.1.0

pub returns : goal.returns
returns c = byte_at c.args.first c.args.second _ _ c.well_formed.0 c.well_formed.1.0
