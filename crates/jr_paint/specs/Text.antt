-- The Netpbm text of an image.
use Rattle.std.specs.Prelude.{ℕ, ◌*◌, ◌/◌, List, [], ◌∷◌, ◌++◌, codes, decimal}
use Rattle.std.specs.List.{flat_map, range_with_len}
use Rattle.jr_head.specs.HeadValue.{HeadValue}
use Rattle.jr_segments.specs.declared.kind.Kind.{Kind}
use Rattle.jr_segments.specs.declared.kind.Kind.TheVariants.{Grey, Rgb, Ycc}
use Rattle.jr_head.specs.Geometry.{horizontal_of, vertical_of, horizontal_max, vertical_max}
use Rattle.jr_paint.specs.Colours.{colour_of}

abbrev pub magic_of : Kind → List ℕ
magic_of Grey = codes "P5\n"
magic_of Rgb = codes "P6\n"
magic_of Ycc = codes "P6\n"

abbrev pub header_of : HeadValue → List ℕ
header_of h = magic_of h.kind ++ decimal h.width ++ codes " " ++ decimal h.height ++ codes "\n255\n"

-- the sample of component c for pixel (x, y) by the sampling factors (T.81, A.1.1); f maps component, column and line to samples
abbrev pub value_at : HeadValue → (ℕ → ℕ → ℕ → ℕ) → ℕ → ℕ → ℕ → ℕ
value_at h f c x y = f c (x * horizontal_of h c / horizontal_max h) (y * vertical_of h c / vertical_max h)

-- one grey byte, or a colour
abbrev pub bytes_of : Kind → (ℕ → ℕ) → List ℕ
bytes_of Grey v = v 0 ∷ []
bytes_of Rgb v = colour_of Rgb (v 0) (v 1) (v 2)
bytes_of Ycc v = colour_of Ycc (v 0) (v 1) (v 2)

-- the size of a pixel in bytes
abbrev pub pixel_size : Kind → ℕ
pixel_size Grey = 1
pixel_size Rgb = 3
pixel_size Ycc = 3

-- pixel (x, y)
unfoldable pub pixel_of : HeadValue → (ℕ → ℕ → ℕ → ℕ) → ℕ → ℕ → List ℕ
pixel_of h f y x = bytes_of h.kind (λ c. value_at h f c x y)

-- n pixels of line y, starting at column x
unfoldable pub pixels_of : HeadValue → (ℕ → ℕ → ℕ → ℕ) → ℕ → ℕ → ℕ → List ℕ
pixels_of h f y x n = flat_map (pixel_of h f y) (range_with_len x n)

-- the first n lines
unfoldable pub lines_of : HeadValue → (ℕ → ℕ → ℕ → ℕ) → ℕ → List ℕ
lines_of h f n = flat_map (λ y. pixels_of h f y 0 h.width) (range_with_len 0 n)

unfoldable pub text_of : HeadValue → (ℕ → ℕ → ℕ → ℕ) → List ℕ
text_of h f = header_of h ++ lines_of h f h.height
