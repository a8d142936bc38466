-- Worked examples of the definitions that the headline cites: figures and tables of T.81 and JFIF, computed by the definitions.
use Rattle.std.proofs.Common.{◌≡◌, ℕ, ◌+◌, ◌*◌, ◌^◌, ◌<◌, ◌≤◌, Bool, true, false, List, [], ◌∷◌, ◌++◌, replicate, ℤ, pos, neg_ℤ, refl, arith, get_or, zero, suc, ap, inr, lit≤}
use Rattle.std.specs.Prelude.{◌==◌, if◌then◌else◌}
use lib.Ieee.{root_below, size}
use Rattle.jr_segments.specs.declared.kind.Kind.TheVariants.{Grey, Ycc}
use Rattle.jr_base.specs.Zigzag.{natural_indexes, zigzag_place}
use Rattle.jr_code.specs.Bits.{bits, bits_of, number, value}
use Rattle.jr_code.specs.Code.{Table, IsWord, IsValidTable, space}
use Rattle.jr_code.proofs.CodeLemmas.{one_word}
use Rattle.jr_cut.specs.declared.scan_end.ScanEnd.TheVariants.{EndOfImage, OutOfStep}
use Rattle.jr_cut.specs.Cut.{IsCut, Plain, Stuffed}
use Rattle.jr_head.specs.declared.component.Component.{Component}
use Rattle.jr_head.specs.HeadValue.{HeadValue}
use Rattle.jr_head.specs.Geometry.{order_of, mcus_across, mcus_down}
use Rattle.jr_head.specs.Intervals.{intervals_of, mcus_in}
use Rattle.jr_idct.specs.Ideal.{cosine, cosine_of_half, sine_of_half, energy, ideal, IsFaithful}
use Rattle.jr_idct.specs.Matrix.{floor_div, pass, sum_below}
use Rattle.jr_idct.specs.Transform.{samples}
use Rattle.jr_mcu.specs.Block.{BlockAt, CodedAt}
use Rattle.jr_mcu.specs.Mcus.{IsBlock, no_predictions}
use Rattle.jr_paint.specs.Colours.{colour_of, exact_red, exact_green, exact_blue}
use Rattle.jr_paint.specs.Geometry.{samples_across, spot_of}
use Rattle.jr_paint.specs.Text.{lines_of, pixels_of, pixel_of}
use Rattle.jr_scan.specs.IntervalValue.{IntervalValue}
use Rattle.jr_scan.specs.Mcus.{Decodes}
use Rattle.jr_scan.proofs.Fronts.{one_decoding}
use Rattle.std.proofs.lemmas.Int.{ints}

-- The bits of a byte come from its most significant one (T.81, F.2.2.5).

bits_of_a5 : bits (165 ∷ []) ≡ true ∷ false ∷ true ∷ false ∷ false ∷ true ∷ false ∷ true ∷ []
unfolding bits_of
bits_of_a5 = refl

-- Additional bits: the least and the greatest of both signs in category 3, and the one of category 0 (tables F.1 and F.12).

no_bits : value [] ≡ pos 0
no_bits = refl

three_bits_000 : value (false ∷ false ∷ false ∷ []) ≡ neg_ℤ (pos 7)
unfolding number
three_bits_000 = refl

three_bits_011 : value (false ∷ true ∷ true ∷ []) ≡ neg_ℤ (pos 4)
unfolding number
three_bits_011 = refl

three_bits_100 : value (true ∷ false ∷ false ∷ []) ≡ pos 4
unfolding number
three_bits_100 = refl

three_bits_111 : value (true ∷ true ∷ true ∷ []) ≡ pos 7
unfolding number
three_bits_111 = refl

-- The code table of table K.3, luminance DC coefficients: the codes of the categories 0, 6 and 11.

abbrev table_k3 : Table
table_k3 = record { counts = 0 ∷ 1 ∷ 5 ∷ 1 ∷ 1 ∷ 1 ∷ 1 ∷ 1 ∷ 1 ∷ replicate 7 0; symbols = 0 ∷ 1 ∷ 2 ∷ 3 ∷ 4 ∷ 5 ∷ 6 ∷ 7 ∷ 8 ∷ 9 ∷ 10 ∷ 11 ∷ [] }

table_k3_is_valid : IsValidTable table_k3.counts table_k3.symbols
unfolding space
table_k3_is_valid = record { sixteen = refl; each = refl; few = omega arith; ample = omega arith }

category_0 : IsWord table_k3 (false ∷ false ∷ []) 0
unfolding space number
category_0 = record { place = 0; known = refl; long = refl; short = omega arith; written = refl }

category_6 : IsWord table_k3 (true ∷ true ∷ true ∷ false ∷ []) 6
unfolding space number
category_6 = record { place = 6; known = refl; long = refl; short = omega arith; written = refl }

category_11 : IsWord table_k3 (true ∷ true ∷ true ∷ true ∷ true ∷ true ∷ true ∷ true ∷ false ∷ []) 11
unfolding space number
category_11 = record { place = 11; known = refl; long = refl; short = omega arith; written = refl }

-- The zigzag order (figure A.6): its third coefficient is the first of the second row, and it ends at the last one.

third_of_zigzag : get_or natural_indexes 2 0 ≡ 8
third_of_zigzag = refl

last_of_zigzag : get_or natural_indexes 63 0 ≡ 63
last_of_zigzag = refl

-- A block whose only coefficient is 4, quantised by 16, is 64 / 8 above the middle (A.3.1 and A.3.3).

flat_block : samples (pos 4 ∷ replicate 63 (pos 0)) (replicate 64 16) ≡ replicate 64 136
unfolding samples pass zigzag_place
flat_block = refl

-- Eight equal lines whose second coefficient is 1, and whose values are clamped, as other decoders give them.

abbrev eight_of : List ℕ → List ℕ
eight_of line = line ++ line ++ line ++ line ++ line ++ line ++ line ++ line

ramp : samples (pos 0 ∷ pos 1 ∷ replicate 62 (pos 0)) (replicate 64 16) ≡ eight_of (131 ∷ 130 ∷ 130 ∷ 129 ∷ 127 ∷ 126 ∷ 126 ∷ 125 ∷ [])
unfolding samples pass zigzag_place
ramp = refl

clamped_ramp : samples (pos 4 ∷ pos 1023 ∷ replicate 62 (pos 0)) (replicate 64 16) ≡ eight_of (255 ∷ 255 ∷ 255 ∷ 255 ∷ 0 ∷ 0 ∷ 0 ∷ 0 ∷ [])
unfolding samples pass zigzag_place
clamped_ramp = refl

-- Ideal values (A.3.3) to twelve decimal places, as the formula gives them with cosines of forty: of coefficients in the first
-- row and in the fourth, and of the DC coefficient alone. The DC coefficient has no energy.

abbrev only : ℕ → ℤ → ℕ → ℤ
only k z j = if j == k then z else pos 0

ideal_in_the_first_row : floor_div (ideal (10 ^ 20) (only 1 (pos 1000)) 0 0) (8 * 10 ^ 8) ≡ pos 173379980665268
unfolding ideal cosine cosine_of_half sine_of_half sum_below root_below size
ideal_in_the_first_row = refl

ideal_in_the_fourth_row : floor_div (ideal (10 ^ 20) (only 26 (neg_ℤ (pos 500))) 1 6) (8 * 10 ^ 8) ≡ pos 9332229256292
unfolding ideal cosine cosine_of_half sine_of_half sum_below root_below size
ideal_in_the_fourth_row = refl

ideal_of_a_flat_block : floor_div (ideal (10 ^ 20) (only 0 (pos 64)) 3 5) (8 * 10 ^ 8) ≡ pos (8 * 10 ^ 12)
unfolding ideal cosine cosine_of_half sine_of_half sum_below root_below size
ideal_of_a_flat_block = refl

energy_of_2_to_64 : energy (λ k. pos (suc k)) ≡ pos 89439
unfolding energy sum_below
energy_of_2_to_64 = refl

-- A value of a half is rounded to 0 or to 1, and to no other number.

not_faithful : IsFaithful 130 (only 0 (pos 4)) 0 0 → ⊥
unfolding ideal cosine cosine_of_half sine_of_half sum_below root_below size
not_faithful f = let above : 130 ≤ 129 = (f (10 ^ 6) (lit≤ tt)).1 in absurd (omega (arith, above))

-- Three components, the first with 2 by 2 data units in an MCU (A.2.3), 20 by 20 pixels, and a restart interval of three MCUs.

abbrev component_of : ℕ → Component
component_of n = record { horizontal = n; vertical = n; quantiser = replicate 64 1; dc = table_k3; ac = table_k3 }

abbrev head_420 : HeadValue
head_420 = record { width = 20; height = 20; kind = Ycc; components = component_of 2 ∷ component_of 1 ∷ component_of 1 ∷ []; restart = 3; scan_at = 0 }

order_of_data_units : order_of head_420 ≡ 0 ∷ 0 ∷ 0 ∷ 0 ∷ 1 ∷ 2 ∷ []
order_of_data_units = refl

two_mcus_across_and_down : mcus_across head_420 * mcus_down head_420 ≡ 4
two_mcus_across_and_down = refl

two_intervals : intervals_of head_420 ≡ 2
two_intervals = refl

last_interval_has_the_rest : mcus_in head_420 1 ≡ 1
last_interval_has_the_rest = refl

ten_columns_of_chroma : samples_across head_420 1 ≡ 10
ten_columns_of_chroma = refl

luma_of_pixel_8_0 : spot_of head_420 0 8 0 ≡ record { mcu = 0; block = 1; row = 0; col = 0 }
luma_of_pixel_8_0 = refl

luma_of_pixel_19_9 : spot_of head_420 0 19 9 ≡ record { mcu = 1; block = 2; row = 1; col = 3 }
luma_of_pixel_19_9 = refl

second_chroma_of_pixel_19_19 : spot_of head_420 2 9 9 ≡ record { mcu = 3; block = 5; row = 1; col = 1 }
second_chroma_of_pixel_19_19 = refl

-- Colours: the middle is grey, and full red of JFIF 1.02 is restored to within one unit.

middle_is_grey : colour_of Ycc 128 128 128 ≡ 128 ∷ 128 ∷ 128 ∷ []
middle_is_grey = refl

red : colour_of Ycc 76 85 255 ≡ 254 ∷ 0 ∷ 0 ∷ []
red = refl

exact_colours_of_red : exact_red 76 85 255 ∷ exact_green 76 85 255 ∷ exact_blue 76 85 255 ∷ [] ≡ 25405400 ∷ 10224 ∷ 0 ∷ []
exact_colours_of_red = refl

-- The lines of an image of two grey pixels over two others, from the top and from the left.

abbrev head_of_four_pixels : HeadValue
head_of_four_pixels = record { width = 2; height = 2; kind = Grey; components = component_of 1 ∷ []; restart = 0; scan_at = 0 }

lines_of_four_pixels : lines_of head_of_four_pixels (λ c x y. 10 * y + x) 2 ≡ 0 ∷ 1 ∷ 10 ∷ 11 ∷ []
unfolding lines_of pixels_of pixel_of
lines_of_four_pixels = refl

-- An interval of one MCU: the code 01 of category 3 with the bits 100, the end of the block, and two bits of padding.

abbrev pub dc_table : Table
dc_table = record { counts = 0 ∷ 3 ∷ replicate 14 0; symbols = 0 ∷ 3 ∷ 11 ∷ [] }

abbrev pub ac_table : Table
ac_table = record { counts = 1 ∷ replicate 15 0; symbols = 0 ∷ [] }

abbrev pub head_of_a_block : HeadValue
head_of_a_block = record { width = 8; height = 8; kind = Grey; components = record { horizontal = 1; vertical = 1; quantiser = replicate 64 16; dc = dc_table; ac = ac_table } ∷ []; restart = 0; scan_at = 140 }

abbrev pub interval : IntervalValue
interval = record { number = 0; mcus = 1; bytes = 97 ∷ []; head = head_of_a_block }

abbrev pub block_with : ℤ → List ℤ
block_with z = z ∷ replicate 63 (pos 0)

abbrev block_bits : List Bool
block_bits = false ∷ true ∷ true ∷ false ∷ false ∷ false ∷ []

word_of_3 : IsWord dc_table (false ∷ true ∷ []) 3
unfolding space number
word_of_3 = record { place = 1; known = refl; long = refl; short = omega arith; written = refl }

end_of_block : IsWord ac_table (false ∷ []) 0
unfolding space number
end_of_block = record { place = 0; known = refl; long = refl; short = omega arith; written = refl }

coded_block : CodedAt dc_table ac_table (pos 4) (replicate 63 (pos 0)) block_bits
unfolding number
coded_block = record {
  first_bits = false ∷ true ∷ true ∷ false ∷ false ∷ [];
  others_bits = false ∷ [];
  is_first = record { size = 3; word = false ∷ true ∷ []; extra = true ∷ false ∷ false ∷ []; is_word = word_of_3; small = omega arith; count = refl; spelled = refl; is = refl };
  are_others = record { items = []; tail = false ∷ []; each = tt; end = inr (omega arith, end_of_block); spelled = refl; values = refl };
  spelled = refl;
}

block : BlockAt dc_table ac_table (pos 0) (block_with (pos 4)) block_bits
block = record { difference = pos 4; others = replicate 63 (pos 0); coded = coded_block; values = refl; in_range = (omega (arith, ints), omega (arith, ints)) }

each_block : (n : ℕ) → n < 1 → IsBlock head_of_a_block no_predictions (block_with (pos 4) ∷ []) n (get_or (block_bits ∷ []) n [])
each_block zero h = block
each_block (suc n) h = absurd (omega (arith, h))

pub decodes : Decodes interval (block_with (pos 4) ∷ [])
unfolding bits_of
decodes = record { taken = block_bits; padding = false ∷ true ∷ []; mcus = (refl, record { parts = block_bits ∷ []; count = refl; spelled = refl; each = each_block }); short = omega arith; spelled = refl }

does_not_decode_to_5 : Decodes interval (block_with (pos 5) ∷ []) → ⊥
does_not_decode_to_5 d =
    let same : pos 4 ≡ pos 5 = ap (λ zs. get_or (get_or zs 0 []) 0 (pos 0)) (one_decoding one_word interval (block_with (pos 4) ∷ []) (block_with (pos 5) ∷ []) decodes d) in
    omega (arith, ints, same)

-- The same code has no other symbol.

category_0_alone : IsWord table_k3 (false ∷ false ∷ []) 1 → ⊥
category_0_alone w =
    let same : 0 ≡ 1 = (one_word table_k3 (false ∷ false ∷ []) (false ∷ false ∷ []) [] [] 0 1 category_0 w refl).1 in
    omega (arith, same)

-- A scan of two intervals at offset 20: the byte FF, spelled FF 00, the marker RST0, the byte 61, and EOI (B.1.1.5 and E.1.4).

abbrev scan_bytes : List ℕ
scan_bytes = 255 ∷ 0 ∷ 255 ∷ 208 ∷ 97 ∷ 255 ∷ 217 ∷ []

two_segments : IsCut 2 20 scan_bytes ((255 ∷ []) ∷ (97 ∷ []) ∷ []) EndOfImage
two_segments = record {
  raw = 255 ∷ 0 ∷ [];
  first = 255 ∷ [];
  segments = record { more = 0; raw = 97 ∷ []; bytes = 97 ∷ [] } ∷ [];
  tail = 255 ∷ 217 ∷ [];
  is_raw = record { parts = Stuffed 0 ∷ []; each = (tt, tt); spelled = refl; means = refl };
  each = (record { parts = Plain 97 ∷ []; each = ((λ e. omega (arith, e)), tt); spelled = refl; means = refl }, tt);
  few = omega arith;
  spelled = refl;
  means = refl;
  ends = (0, [], refl);
}

-- The marker is due with its own number: RST1 after the first interval ends the scan there.

out_of_step : IsCut 2 20 (97 ∷ 255 ∷ 209 ∷ 97 ∷ []) ((97 ∷ []) ∷ []) (OutOfStep 1 0 21)
out_of_step = record {
  raw = 97 ∷ [];
  first = 97 ∷ [];
  segments = [];
  tail = 255 ∷ 209 ∷ 97 ∷ [];
  is_raw = record { parts = Plain 97 ∷ []; each = ((λ e. omega (arith, e)), tt); spelled = refl; means = refl };
  each = tt;
  few = omega arith;
  spelled = refl;
  means = refl;
  ends = (omega arith, (0, 97 ∷ [], refl), omega arith, refl, (λ e. omega (arith, e)), refl);
}
