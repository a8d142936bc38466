-- The FF bytes before the code of a marker (T.81, B.1.1.2).
use Rattle.std.specs.Prelude.{ℕ, ◌==◌, List, length, take_while}
use Rattle.jr_base.specs.declared.marker.TheConstants.{PREFIX}

-- the number of FF bytes that these bytes begin with
abbrev pub fill_count : List ℕ → ℕ
fill_count bytes = length (take_while (λ b. b == PREFIX) bytes)
