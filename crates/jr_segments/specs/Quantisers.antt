-- Quantisation tables (T.81, B.2.4.1).
use Rattle.std.specs.Prelude.{◌≡◌, slice_index_or, Option, None, ℕ, ◌+◌, ◌*◌, ◌||◌, ◌==◌, nat_lt, List, [], ◌∷◌, ◌++◌, length, map, take, if◌then◌else◌}
use Rattle.std.specs.List.{flat_map}
use Rattle.std.specs.Option.{option_map}
use Rattle.jr_base.specs.declared.marker.TheConstants.{DQT}
use Rattle.jr_segments.specs.declared.refusal.Refusal.TheVariants.{BadQuantTable, BadLength}
pub use Rattle.jr_segments.specs.declared.quantiser.Quantisation.{Quantisation}
use Rattle.jr_segments.specs.declared.quantiser.Quantiser.{Quantiser}
use Rattle.jr_segments.specs.Bytes.{high, low}
use Rattle.jr_segments.specs.Tests.{Test, ◌when◌}
use Rattle.jr_segments.specs.Tables.{tables, last_where}

-- the size of the elements in bytes
abbrev pub elements_len : ℕ → ℕ
elements_len b = if high b == 1 then 128 else 64

-- two bytes each
unfoldable pub words : List ℕ → List ℕ
words [] = []
words (a ∷ []) = []
words (a ∷ b ∷ rest) = (256 * a + b) ∷ words rest

abbrev pub quantisation : ℕ × List ℕ → Quantisation
quantisation t = record { destination = low t.0; quantiser = record { is_wide = high t.0 == 1; elements = if high t.0 == 1 then words (take 128 t.1) else take 64 t.1 } }

unfoldable pub quantisations : List ℕ → List Quantisation
quantisations payload = map quantisation (tables (λ b _. elements_len b) payload)

unfoldable pub quantisation_tests : ℕ × List ℕ → List Test
quantisation_tests t =
    (BadQuantTable when (nat_lt 1 (high t.0) || nat_lt 3 (low t.0)))
    ∷ (BadLength DQT when nat_lt (length t.1) (elements_len t.0))
    ∷ []

unfoldable pub quantisations_tests : List ℕ → List Test
quantisations_tests payload = flat_map quantisation_tests (tables (λ b _. elements_len b) payload)

-- the one in force: the last definition of the destination
unfoldable pub quantiser_for : List Quantisation → ℕ → Option Quantiser
quantiser_for all tq = option_map (λ d. d.quantiser) (last_where (λ d. d.destination == tq) all)

-- the entries hold those in force
abbrev pub AreQuantisers : List Quantisation → List (Option Quantiser) → Type 0
AreQuantisers all places = (tq : ℕ) → slice_index_or places tq None ≡ quantiser_for all tq

-- the entries hold those in force, also with what a payload defines
abbrev pub DefinesQuantisers : List ℕ → List (Option Quantiser) → List (Option Quantiser) → Type 0
DefinesQuantisers payload old new = (before : List Quantisation) → AreQuantisers before old → AreQuantisers (before ++ quantisations payload) new
