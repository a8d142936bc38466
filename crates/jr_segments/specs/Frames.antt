-- Frame headers (T.81, B.2.2).
use Rattle.std.specs.Prelude.{◌≡◌, ◌<◌, ◌≤◌, ◌⊎◌, true, ℕ, ◌+◌, ◌*◌, ◌%◌, ◌==◌, Bool, not, ◌||◌, ◌&&◌, false, nat_lt, List, [], ◌∷◌, ◌++◌, length, drop, sum_by, max}
use Rattle.std.specs.List.{list_any, list_all, fold}
use Rattle.jr_base.specs.declared.limits.TheConstants.{MAX_PIXELS}
use Rattle.jr_segments.specs.declared.refusal.Refusal.TheVariants.{BadLength, BadPrecision, BadSize, TooManyPixels, BadComponents, BadSampling}
use Rattle.jr_segments.specs.declared.frame.Frame.{Frame}
use Rattle.jr_segments.specs.declared.frame.FrameComponent.{FrameComponent}
use Rattle.jr_segments.specs.Bytes.{byte, word, high, low}
use Rattle.jr_segments.specs.Tests.{Test, ◌when◌}

-- the parameters of a frame header
abbrev pub precision : List ℕ → ℕ
precision p = byte 0 p

abbrev pub height : List ℕ → ℕ
height p = word 1 p

abbrev pub width : List ℕ → ℕ
width p = word 3 p

abbrev pub frame_component_count : List ℕ → ℕ
frame_component_count p = byte 5 p

-- three bytes each
unfoldable pub components_in : List ℕ → List FrameComponent
components_in [] = []
components_in (id ∷ []) = []
components_in (id ∷ factors ∷ []) = []
components_in (id ∷ factors ∷ quantiser ∷ rest) =
    record { id = id; horizontal = high factors; vertical = low factors; quantiser = quantiser } ∷ components_in rest

abbrev pub components : List ℕ → List FrameComponent
components p = components_in (drop 6 p)

-- whether two ids are equal
unfoldable pub has_repeats : List FrameComponent → Bool
has_repeats [] = false
has_repeats (c ∷ cs) = list_any (λ d. d.id == c.id) cs || has_repeats cs

-- 1 to 4
abbrev pub is_factor : ℕ → Bool
is_factor n = nat_lt 0 n && nat_lt n 5

abbrev pub greatest_horizontal : List FrameComponent → ℕ
greatest_horizontal cs = fold (λ n c. max n c.horizontal) 0 cs

abbrev pub greatest_vertical : List FrameComponent → ℕ
greatest_vertical cs = fold (λ n c. max n c.vertical) 0 cs

-- the blocks of an MCU
abbrev pub blocks : List FrameComponent → ℕ
blocks cs = sum_by (λ c. c.horizontal * c.vertical) cs

abbrev pub divides : ℕ → ℕ → Bool
divides d n = nat_lt 0 d && n % d == 0

-- each factor divides the greatest one of its direction
abbrev pub divide_greatest : List FrameComponent → Bool
divide_greatest cs = list_all (λ c. divides c.horizontal (greatest_horizontal cs) && divides c.vertical (greatest_vertical cs)) cs

unfoldable pub has_far_quantiser : List FrameComponent → Bool
has_far_quantiser cs = list_any (λ c. nat_lt 3 c.quantiser) cs

unfoldable pub have_factors : List FrameComponent → Bool
have_factors cs = list_all (λ c. is_factor c.horizontal && is_factor c.vertical) cs

-- with three components: a factor that does not divide the greatest, or too many blocks
unfoldable pub is_ill_sampled : List FrameComponent → Bool
is_ill_sampled cs = length cs == 3
    && (not (divide_greatest cs) || nat_lt 10 (blocks cs))

unfoldable pub size_tests : ℕ → List ℕ → List Test
size_tests code p =
    (BadLength code when nat_lt (length p) 6)
    ∷ (BadPrecision when not (precision p == 8))
    ∷ (BadSize when (width p == 0 || height p == 0))
    ∷ (TooManyPixels when nat_lt MAX_PIXELS (width p * height p))
    ∷ (BadComponents when not (frame_component_count p == 1 || frame_component_count p == 3))
    ∷ (BadLength code when not (length p == 6 + 3 * frame_component_count p))
    ∷ []

unfoldable pub component_tests : List FrameComponent → List Test
component_tests cs =
    (BadComponents when has_repeats cs)
    ∷ (BadComponents when has_far_quantiser cs)
    ∷ (BadSampling when not (have_factors cs))
    ∷ (BadSampling when is_ill_sampled cs)
    ∷ []

unfoldable pub frame_tests : ℕ → List ℕ → List Test
frame_tests code p = size_tests code p ++ component_tests (components p)

-- what the tests leave of the frame headers
pub record IsAccepted (f : Frame) : Type 0 where
  pub wide : 0 < f.width
  pub narrow : f.width < 65536
  pub high : 0 < f.height
  pub low : f.height < 65536
  pub pixels : f.width * f.height ≤ MAX_PIXELS
  pub count : (length f.components.items ≡ 1) ⊎ (length f.components.items ≡ 3)
  pub factors : have_factors f.components.items ≡ true
  pub sampled : is_ill_sampled f.components.items ≡ false
