-- Restart intervals (T.81, B.2.4.4).
use Rattle.std.specs.Prelude.{ℕ, ◌==◌, not, List, [], ◌∷◌, length}
use Rattle.jr_base.specs.declared.marker.TheConstants.{DRI}
use Rattle.jr_segments.specs.declared.refusal.Refusal.TheVariants.{BadLength}
use Rattle.jr_segments.specs.Bytes.{word}
use Rattle.jr_segments.specs.Tests.{Test, ◌when◌}

-- Ri
abbrev pub restart_interval : List ℕ → ℕ
restart_interval p = word 0 p

unfoldable pub restart_tests : List ℕ → List Test
restart_tests p = (BadLength DRI when not (length p == 2)) ∷ []
