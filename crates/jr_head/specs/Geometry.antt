-- Components, the data units of an MCU, and the MCUs of an image (T.81, A.1.1 and A.2).
use Rattle.std.specs.Prelude.{◌≡◌, ℕ, suc, ◌*◌, ◌%◌, ◌<◌, ◌≤◌, List, [], ◌∷◌, ◌++◌, length, replicate, take, sum_by, max, slice_index_or}
use Rattle.std.specs.List.{fold, All}
use Rattle.std.specs.Int.{div_ceil}
use Rattle.jr_code.specs.Code.{Table}
use Rattle.jr_code.specs.Code as codes
use Rattle.jr_base.specs.declared.limits.TheConstants.{MAX_FILE_BYTES, MAX_PIXELS}
use Rattle.jr_head.specs.declared.component.Component.{Component}
use Rattle.jr_segments.specs.declared.kind.Kind.{Kind}
use Rattle.jr_segments.specs.declared.kind.Kind.TheVariants.{Grey, Rgb, Ycc}
use Rattle.jr_head.specs.HeadValue.{HeadValue}

-- the number of components of an image of this kind
abbrev pub component_count : Kind → ℕ
component_count Grey = 1
component_count Rgb = 3
component_count Ycc = 3

abbrev pub components_of : HeadValue → ℕ
components_of h = length h.components

-- the component of a number past the last
abbrev pub no_component : Component
no_component = record { horizontal = 0; vertical = 0; quantiser = []; dc = record { counts = []; symbols = [] }; ac = record { counts = []; symbols = [] } }

abbrev pub component_at : HeadValue → ℕ → Component
component_at h c = slice_index_or h.components c no_component

-- the sampling factors Hi and Vi, the quantisation table and the code tables of component c
abbrev pub horizontal_of : HeadValue → ℕ → ℕ
horizontal_of h c = (component_at h c).horizontal

abbrev pub vertical_of : HeadValue → ℕ → ℕ
vertical_of h c = (component_at h c).vertical

abbrev pub quantiser_of : HeadValue → ℕ → List ℕ
quantiser_of h c = (component_at h c).quantiser

abbrev pub dc_of : HeadValue → ℕ → Table
dc_of h c = (component_at h c).dc

abbrev pub ac_of : HeadValue → ℕ → Table
ac_of h c = (component_at h c).ac

-- the greatest sampling factors, Hmax and Vmax
abbrev pub greatest_across : List Component → ℕ
greatest_across components = fold (λ n c. max n c.horizontal) 0 components

abbrev pub greatest_down : List Component → ℕ
greatest_down components = fold (λ n c. max n c.vertical) 0 components

abbrev pub horizontal_max : HeadValue → ℕ
horizontal_max h = greatest_across h.components

abbrev pub vertical_max : HeadValue → ℕ
vertical_max h = greatest_down h.components

-- the number of data units of a component in an MCU
abbrev pub units_of : Component → ℕ
units_of c = c.horizontal * c.vertical

-- the data units of an MCU before those of component c, and all of them
abbrev pub blocks_before : HeadValue → ℕ → ℕ
blocks_before h c = sum_by units_of (take c h.components)

abbrev pub blocks_of : HeadValue → ℕ
blocks_of h = sum_by units_of h.components

-- the component of each data unit of an MCU in their order (A.2.3); the first component has number c
abbrev pub order_from : ℕ → List Component → List ℕ
order_from c [] = []
order_from c (k ∷ ks) = replicate (units_of k) c ++ order_from (suc c) ks

abbrev pub order_of : HeadValue → List ℕ
order_of h = order_from 0 h.components

-- MCUs of 8 Hmax by 8 Vmax pixels cover the image
abbrev pub mcus_across : HeadValue → ℕ
mcus_across h = div_ceil h.width (8 * horizontal_max h)

abbrev pub mcus_down : HeadValue → ℕ
mcus_down h = div_ceil h.height (8 * vertical_max h)

abbrev pub mcus_of : HeadValue → ℕ
mcus_of h = mcus_across h * mcus_down h

-- sampling factors from 1 to 4, and sixty-four quantiser elements
pub record IsSampled (c : Component) : Type 0 where
  pub across : 0 < c.horizontal
  pub narrow : c.horizontal ≤ 4
  pub down : 0 < c.vertical
  pub low : c.vertical ≤ 4
  pub elements : length c.quantiser ≡ 64

-- the component's factors divide the greatest ones
pub record IsSubsampled (across down : ℕ) (c : Component) : Type 0 where
  pub narrower : c.horizontal ≤ across
  pub lower : c.vertical ≤ down
  pub across_divides : across % c.horizontal ≡ 0
  pub down_divides : down % c.vertical ≡ 0

-- both code tables are valid (Annex C)
pub record IsCoded (c : Component) : Type 0 where
  pub dc : codes.IsValidTable c.dc.counts c.dc.symbols
  pub ac : codes.IsValidTable c.ac.counts c.ac.symbols

-- what holds for the components of every accepted file
pub record AreValid (kind : Kind) (components : List Component) : Type 0 where
  pub count : length components ≡ component_count kind
  pub sampled : All IsSampled components
  pub coded : All IsCoded components
  pub single : kind ≡ Grey → ((slice_index_or components 0 no_component).horizontal ≡ 1) × ((slice_index_or components 0 no_component).vertical ≡ 1)
  pub subsampled : All (IsSubsampled (greatest_across components) (greatest_down components)) components
  pub across : 0 < greatest_across components
  pub narrow : greatest_across components ≤ 4
  pub down : 0 < greatest_down components
  pub low : greatest_down components ≤ 4
  pub blocks : sum_by units_of components ≤ 10

-- what holds for the header of every accepted file
pub record IsValid (h : HeadValue) : Type 0 where
  pub components : AreValid h.kind h.components
  pub wide : 0 < h.width
  pub narrow : h.width < 65536
  pub high : 0 < h.height
  pub low : h.height < 65536
  pub pixels : h.width * h.height ≤ MAX_PIXELS
  pub after : h.scan_at ≤ MAX_FILE_BYTES
