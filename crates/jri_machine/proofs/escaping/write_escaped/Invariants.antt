use Rattle.std.proofs.Common.{◌-◌, length}
use Rattle.std.specs.String.{string_bytes}
use Rattle.jri_machine.proofs.Escapes.{Stores}
use Rattle.jri_machine.proofs.escaping.write_escaped.Given as goal

abbrev pub invariant-bytes : goal.invariant-bytes
invariant-bytes l = Stores (string_bytes l.fn.line) (string_bytes l.line) l.fn.name l.at

abbrev pub decreases-bytes : goal.decreases-bytes
decreases-bytes l = length l.fn.name - l.at
