-- The bits that a bit reader's register represents.
use Rattle.std.specs.Prelude.{Bool, List, ◌++◌}
use Rattle.jr_code.specs.Bits.{bits, upper_bits}
use Rattle.jr_code.specs.declared.register.Register.{Register}

-- the first count bits of the number held, and then those of the bytes
abbrev pub bits_in : Register → List Bool
bits_in r = upper_bits r.count r.held ++ bits r.rest.now
