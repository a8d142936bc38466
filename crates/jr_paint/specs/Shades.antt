-- What the three colours have over luminance, by chrominance (JFIF 1.02).
use Rattle.std.specs.Prelude.{◌≡◌, ℕ, ◌+◌, ◌-◌, ◌*◌, ◌/◌, ◌<◌, min, ℤ, pos, neg_ℤ, ◌+ℤ◌, ◌-ℤ◌}
use Rattle.std.proofs.Math.IntN.{◌*ℤ◌}
use Rattle.jr_head.specs.HeadValue.{HeadValue}
use Rattle.jr_segments.specs.declared.kind.Kind.TheVariants.{Ycc}
use Rattle.jr_head.specs.Geometry.{horizontal_of, horizontal_max, vertical_of, vertical_max}
use Rattle.jr_paint.specs.Colours.{floor_div, off}

abbrev pub red_over_of : ℕ → ℤ
red_over_of cr = floor_div (pos 91881 *ℤ off cr +ℤ pos 32768) 65536

abbrev pub green_over_of : ℕ → ℕ → ℤ
green_over_of cb cr = floor_div (neg_ℤ (pos 22554) *ℤ off cb -ℤ pos 46802 *ℤ off cr +ℤ pos 32768) 65536

abbrev pub blue_over_of : ℕ → ℤ
blue_over_of cb = floor_div (pos 116130 *ℤ off cb +ℤ pos 32768) 65536

-- v says z in a lane of sixteen bits, as 1628 more
pub record IsRaised (v : ℕ) (z : ℤ) : Type 0 where
  pub value : pos v ≡ z +ℤ pos 1628
  pub small : v < 4096

-- the nearest byte to y and what v says
abbrev pub lowered : ℕ → ℕ → ℕ
lowered y v = min (y + v - 1628) 255

-- a sample of component c serves two pixels of a line
abbrev pub IsHalved : HeadValue → ℕ → Type 0
IsHalved h c = horizontal_max h ≡ horizontal_of h c * 2

-- line y and the next have their samples of component c from one line
abbrev pub IsShared : HeadValue → ℕ → ℕ → Type 0
IsShared h c y = (y + 1) * vertical_of h c / vertical_max h ≡ y * vertical_of h c / vertical_max h

-- a sample of each chrominance serves two pixels of a line
pub record HalvesChroma (h : HeadValue) : Type 0 where
  pub kind : h.kind ≡ Ycc
  pub half_b : IsHalved h 1
  pub half_c : IsHalved h 2

-- line y has a next, and both have the same samples of both chrominances, each for two pixels of a line
pub record SharesChroma (h : HeadValue) (y : ℕ) : Type 0 where
  pub next : y + 1 < h.height
  pub halves : HalvesChroma h
  pub same_b : IsShared h 1 y
  pub same_c : IsShared h 2 y
