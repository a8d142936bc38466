-- Pixels, lines and canvases laid out.
use Rattle.std.specs.Prelude.{◌≡◌, ℕ, ◌+◌, ◌*◌, ◌<◌, ◌≤◌, ◌⊎◌, List, [], ◌∷◌, length, take, drop, slice_index}
use Rattle.std.specs.List.{flat_map, range_with_len}
use Rattle.jri_canvas.specs.declared.layout.Layout.{Layout}
use Rattle.jri_canvas.specs.declared.layout.Layout.TheVariants.{Plain, Coloured}
use Rattle.jri_canvas.specs.declared.layout.Order.{Order}
use Rattle.jri_canvas.specs.declared.layout.Order.TheVariants.{Rgb, Bgr, Rgbx, Bgrx}
use Rattle.jri_canvas.specs.declared.lines.CanvasLines.{CanvasLines}
use Rattle.jri_canvas.specs.declared.layout.Pixels.{Pixels}
use Rattle.jri_canvas.specs.declared.layout.Pixels.TheVariants.{Grey, Colour}

-- the size of a pixel in bytes
abbrev pub sample_count : Pixels → ℕ
sample_count Grey = 1
sample_count Colour = 3

-- the number of bytes of a pixel in a layout
abbrev pub laid_size : Layout → Pixels → ℕ
laid_size Plain p = sample_count p
laid_size (Coloured Rgb) p = 3
laid_size (Coloured Bgr) p = 3
laid_size (Coloured Rgbx) p = 4
laid_size (Coloured Bgrx) p = 4

-- the number of a layout
abbrev pub layout_number : Layout → ℕ
layout_number Plain = 0
layout_number (Coloured Rgb) = 1
layout_number (Coloured Bgr) = 2
layout_number (Coloured Rgbx) = 3
layout_number (Coloured Bgrx) = 4

-- a pixel of this red, green and blue
abbrev pub laid : Order → (red green blue : ℕ) → List ℕ
laid Rgb r g b = r ∷ g ∷ b ∷ []
laid Bgr r g b = b ∷ g ∷ r ∷ []
laid Rgbx r g b = r ∷ g ∷ b ∷ 255 ∷ []
laid Bgrx r g b = b ∷ g ∷ r ∷ 255 ∷ []

-- pixel x of a line: a grey is its own red, green and blue
abbrev pub laid_pixel : Order → Pixels → List ℕ → ℕ → List ℕ
laid_pixel o Grey line x = laid o (slice_index line x) (slice_index line x) (slice_index line x)
laid_pixel o Colour line x = laid o (slice_index line (3 * x)) (slice_index line (3 * x + 1)) (slice_index line (3 * x + 2))

-- the first n pixels of a line as colours
abbrev pub coloured : Order → Pixels → List ℕ → ℕ → List ℕ
coloured o p line n = flat_map (laid_pixel o p line) (range_with_len 0 n)

-- a line of n pixels in a layout
abbrev pub laid_pixels : Layout → Pixels → List ℕ → ℕ → List ℕ
laid_pixels Plain p line n = line
laid_pixels (Coloured o) p line n = coloured o p line n

-- the number of bytes of a line in memory, and on a canvas
abbrev pub plain_line_size : CanvasLines → ℕ
plain_line_size c = sample_count c.pixels * c.width

abbrev pub laid_line_size : CanvasLines → ℕ
laid_line_size c = laid_size c.layout c.pixels * c.width

-- a line as a canvas has it
abbrev pub laid_line : CanvasLines → List ℕ → List ℕ
laid_line c line = laid_pixels c.layout c.pixels line c.width

-- line k of consecutive lines of `size` bytes
abbrev pub line_in : (size : ℕ) → List ℕ → ℕ → List ℕ
line_in size lines k = take size (drop (k * size) lines)

-- each line starting at `first` and before `end` fits at its stride
abbrev pub HavePlaces : CanvasLines → (first end space : ℕ) → Type 0
HavePlaces c first end space = (k : ℕ) → first ≤ k → k < end → k * c.stride + laid_line_size c ≤ space

-- each line k starting at `first` and before `end` is at k * stride, and each byte that is in none of them is unchanged
pub record LieOn (c : CanvasLines) (first end : ℕ) (line : ℕ → List ℕ) (old new : List ℕ) : Type 0 where
  pub long : length new ≡ length old
  pub lines : (k j : ℕ) → first ≤ k → k < end → j < laid_line_size c → slice_index new (k * c.stride + j) ≡ slice_index (line k) j
  pub kept : (i : ℕ) → ((k : ℕ) → first ≤ k → k < end → (i < k * c.stride) ⊎ (k * c.stride + laid_line_size c ≤ i)) → slice_index new i ≡ slice_index old i
