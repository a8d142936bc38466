use Rattle.std.proofs.Common.{◌-◌, ◌*◌, List, ℕ, length, sym, ap, ◌∙◌}
use Rattle.jr_scan.proofs.McuReaders.{left_is}
use Rattle.jr_arrival.proofs.partial_source.bits_left.Goals as goal

pub returns : goal.returns
returns c = ap (λ (bytes : List ℕ). 8 * length bytes - c.args.place.bit) c.bytes.ensures.bytes ∙ sym (left_is c.args.interval c.args.place)
