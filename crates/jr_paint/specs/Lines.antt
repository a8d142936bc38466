-- Lines of samples combined to pixels of three bytes.
use Rattle.std.specs.Prelude.{◌≡◌, ℕ, ◌+◌, ◌-◌, ◌*◌, ◌/◌, ◌%◌, ◌<◌, List, [], ◌∷◌, ◌++◌, slice_index, slice_index_or}
use Rattle.std.specs.List.{flat_map, range_with_len}
use Rattle.jr_head.specs.HeadValue.{HeadValue}
use Rattle.jr_segments.specs.declared.kind.Kind.{Kind}
use Rattle.jr_segments.specs.declared.kind.Kind.TheVariants.{Ycc}
use Rattle.jr_paint.specs.Colours.{colour_of}
use Rattle.jr_paint.specs.Shades.{lowered}
use Rattle.jr_paint.specs.Text.{value_at, pixel_size, pixels_of}

-- n pixels starting at number i, a sample of each of three lines for each
abbrev pub colours_of : Kind → List ℕ → List ℕ → List ℕ → ℕ → ℕ → List ℕ
colours_of kind first second third i n =
    flat_map (λ k. colour_of kind (slice_index first k) (slice_index second k) (slice_index third k)) (range_with_len i n)

-- n pixels starting at number i; a sample of chrominance serves two pixels
abbrev pub halved_colours_of : List ℕ → List ℕ → List ℕ → ℕ → ℕ → List ℕ
halved_colours_of luma cb cr i n =
    flat_map (λ k. colour_of Ycc (slice_index luma k) (slice_index cb (k / 2)) (slice_index cr (k / 2))) (range_with_len i n)

-- the position of pixel k of 32 in bytes whose halves contain eight pixels with even numbers, then eight with odd ones
abbrev pub packed : ℕ → ℕ
packed k = 16 * (k / 16) + 8 * (k % 2) + k % 16 / 2

-- the byte at position q of a colour whose pixel k of 16 belongs at 3 k + shift, with positions counted modulo 16
abbrev pub spread : ℕ → ℕ → ℕ
spread shift q = packed (16 * (q / 16) + 11 * (q + 16 - shift) % 16)

-- n pixels of this red, green and blue
abbrev pub interleaving_of : List ℕ → List ℕ → List ℕ → ℕ → List ℕ
interleaving_of red green blue n =
    flat_map (λ k. slice_index red (packed k) ∷ slice_index green (packed k) ∷ slice_index blue (packed k) ∷ []) (range_with_len 0 n)

-- one pixel of luminance y, from the raised differences of its colours
abbrev pub colour_over : ℕ → ℕ → ℕ → ℕ → List ℕ
colour_over y red green blue = lowered y red ∷ lowered y green ∷ lowered y blue ∷ []

-- entry k of two lists, the first of which has those with even numbers
abbrev pub turn_of : List (List ℕ) → ℕ → ℕ
turn_of two k = slice_index (slice_index_or two (k % 2) []) (k / 2)

-- n pixels starting at luminance i; what the colours add to it is interleaved
abbrev pub colours_over : List ℕ → ℕ → (red green blue : List (List ℕ)) → ℕ → List ℕ
colours_over luma i red green blue n =
    flat_map (λ k. colour_over (slice_index luma (i + k)) (turn_of red k) (turn_of green k) (turn_of blue k)) (range_with_len 0 n)

-- entry k is the sample of component c for pixel k of line y
abbrev pub IsStretched : HeadValue → (ℕ → ℕ → ℕ → ℕ) → ℕ → ℕ → List ℕ → Type 0
IsStretched h f c y entries = (k : ℕ) → k < h.width → slice_index entries k ≡ value_at h f c k y

-- the same, of an entry for two pixels
abbrev pub IsHalfStretched : HeadValue → (ℕ → ℕ → ℕ → ℕ) → ℕ → ℕ → List ℕ → Type 0
IsHalfStretched h f c y entries = (k : ℕ) → k < h.width → slice_index entries (k / 2) ≡ value_at h f c k y

-- line y
abbrev pub line_of : HeadValue → (ℕ → ℕ → ℕ → ℕ) → ℕ → List ℕ
line_of h f y = pixels_of h f y 0 h.width

-- line y and the next
abbrev pub two_lines_of : HeadValue → (ℕ → ℕ → ℕ → ℕ) → ℕ → List ℕ
two_lines_of h f y = line_of h f y ++ line_of h f (y + 1)

-- n lines starting at line y
abbrev pub next_lines_of : HeadValue → (ℕ → ℕ → ℕ → ℕ) → ℕ → ℕ → List ℕ
next_lines_of h f y n = flat_map (line_of h f) (range_with_len y n)

-- the size of a line in bytes
abbrev pub line_size : HeadValue → ℕ
line_size h = pixel_size h.kind * h.width

-- the number of bytes that painting a line, or two, needs as scratch space
abbrev pub line_space : HeadValue → ℕ
line_space h = 4 * h.width
