-- A worked example of a whole file: its header, its scan and its image by the definitions, and near misses that are none.
use Rattle.std.proofs.Common.{◌≡◌, ◌⊎◌, ℕ, ◌<◌, List, [], ◌∷◌, ◌++◌, replicate, pos, refl, rules, arith, zero, suc, true, false, get_or, inl, inr}
use Rattle.std.specs.Prelude.{nat_lt}
use Rattle.std.specs.List.{All, list_all}
use Rattle.std.proofs.lemmas.Bool.{cases_lt}
use Rattle.std.proofs.lemmas.List.Folds.{list_all_at}
use Rattle.jr_base.specs.Zigzag.{zigzag_place}
use Rattle.jr_code.specs.Code.{space}
use Rattle.jr_cut.specs.declared.scan_end.ScanEnd.TheVariants.{EndOfImage}
use Rattle.jr_cut.specs.Cut.{Plain}
use Rattle.jr_head.specs.HeadValue.{HeadValue}
use Rattle.jr_head.specs.Heads.{HeadOf, HasOneFault, HasOneHead, IsChain, Passes, RefusalOf, payload_tests}
use Rattle.jr_head.specs.Scans.{has_wide, header_tests, is_ill_selected, scan_tests, selectors_in, table_tests}
use Rattle.jr_head.proofs.OneHeadLaws.{one_head_or_one_fault}
use Rattle.jr_idct.specs.Matrix.{pass}
use Rattle.jr_idct.specs.Transform.{samples}
use Rattle.jr_picture.specs.declared.mark.Mark.TheVariants.{Damaged, Sound}
use Rattle.jr_picture.specs.Headline.{IsPicture, Shows, decoded_sample, mark_in}
use Rattle.jr_scan.specs.ScanValue.{IsScanOf, ScanValue, interval_of}
use Rattle.jr_segments.specs.declared.refusal.Refusal.{Refusal}
use Rattle.jr_segments.specs.declared.refusal.Refusal.TheVariants.{BadPrecision}
use Rattle.jr_segments.specs.Frames.{component_tests, components_in, frame_tests, has_far_quantiser, has_repeats, have_factors, is_ill_sampled, size_tests}
use Rattle.jr_segments.specs.HuffmanTables.{huffman_table_for, huffman_table_tests, huffman_tables, huffman_tables_tests}
use Rattle.jr_segments.specs.Marks.{transform_in}
use Rattle.jr_segments.specs.Quantisers.{quantisation_tests, quantisations, quantisations_tests, quantiser_for}
use Rattle.jr_segments.specs.Segments.{Segment, code_tests, framing_tests, length_tests, marker_tests, segment_bytes}
use Rattle.jr_segments.specs.Tables.{last_where, tables}
use Rattle.jr_tests.proofs.Examples.{block_with, decodes, head_of_a_block}

-- The segments of a file of one grey data unit (T.81, B.2): a quantisation table of 64 times 16, a frame header of 8 by 8 pixels, a
-- table for DC coefficients, one for AC coefficients, and the scan header.

abbrev segment : ℕ → List ℕ → Segment
segment code payload = record { fill = 0; code = code; payload = payload }

abbrev quantisers_16 : Segment
quantisers_16 = segment 219 (0 ∷ replicate 64 16)

abbrev frame_of : ℕ → Segment
frame_of precision = segment 192 (precision ∷ 0 ∷ 8 ∷ 0 ∷ 8 ∷ 1 ∷ 1 ∷ 17 ∷ 0 ∷ [])

abbrev dc_segment : Segment
dc_segment = segment 196 (0 ∷ 0 ∷ 3 ∷ (replicate 14 0 ++ 0 ∷ 3 ∷ 11 ∷ []))

abbrev ac_segment : Segment
ac_segment = segment 196 (16 ∷ 1 ∷ (replicate 15 0 ++ 0 ∷ []))

abbrev scan_segment : Segment
scan_segment = segment 218 (1 ∷ 1 ∷ 0 ∷ 0 ∷ 63 ∷ 0 ∷ [])

abbrev segments : List Segment
segments = quantisers_16 ∷ frame_of 8 ∷ dc_segment ∷ ac_segment ∷ []

-- Its bytes, with a frame header of a given precision: the data of the scan are the byte 97, after which EOI ends it.

abbrev file_of : ℕ → List ℕ
file_of precision = 255 ∷ 216
    ∷ 255 ∷ 219 ∷ 0 ∷ 67 ∷ 0 ∷ (replicate 64 16
    ++ 255 ∷ 192 ∷ 0 ∷ 11 ∷ precision ∷ 0 ∷ 8 ∷ 0 ∷ 8 ∷ 1 ∷ 1 ∷ 17 ∷ 0
    ∷ 255 ∷ 196 ∷ 0 ∷ 22 ∷ 0 ∷ 0 ∷ 3 ∷ (replicate 14 0 ++ 0 ∷ 3 ∷ 11
    ∷ 255 ∷ 196 ∷ 0 ∷ 20 ∷ 16 ∷ 1 ∷ (replicate 15 0 ++ 0
    ∷ 255 ∷ 218 ∷ 0 ∷ 8 ∷ 1 ∷ 1 ∷ 0 ∷ 0 ∷ 63 ∷ 0
    ∷ 97 ∷ 255 ∷ 217 ∷ [])))

quantisers_pass : Passes [] quantisers_16
unfolding code_tests payload_tests quantisations_tests quantisation_tests tables
quantisers_pass = record { code = refl; short = omega arith; payload = refl }

frame_passes : Passes (quantisers_16 ∷ []) (frame_of 8)
unfolding code_tests payload_tests frame_tests size_tests component_tests components_in has_repeats has_far_quantiser have_factors is_ill_sampled last_where
frame_passes = record { code = refl; short = omega arith; payload = refl }

dc_passes : Passes (quantisers_16 ∷ frame_of 8 ∷ []) dc_segment
unfolding code_tests payload_tests huffman_tables_tests huffman_table_tests tables last_where space
dc_passes = record { code = refl; short = omega arith; payload = refl }

ac_passes : Passes (quantisers_16 ∷ frame_of 8 ∷ dc_segment ∷ []) ac_segment
unfolding code_tests payload_tests huffman_tables_tests huffman_table_tests tables last_where space
ac_passes = record { code = refl; short = omega arith; payload = refl }

scan_passes : Passes segments scan_segment
unfolding code_tests payload_tests scan_tests header_tests table_tests is_ill_selected has_wide selectors_in components_in quantisations huffman_tables quantiser_for huffman_table_for tables last_where
scan_passes = record { code = refl; short = omega arith; payload = refl }

chain : IsChain [] segments
chain = (quantisers_pass, (λ e. omega (arith, e)), (frame_passes, (λ e. omega (arith, e)), (dc_passes, (λ e. omega (arith, e)), (ac_passes, (λ e. omega (arith, e)), tt))))

-- Its header.

its_head : HeadOf (file_of 8) head_of_a_block
unfolding segment_bytes components_in selectors_in quantisations huffman_tables quantiser_for huffman_table_for tables last_where transform_in
its_head = record {
  segments = segments;
  scan = scan_segment;
  rest = 97 ∷ 255 ∷ 217 ∷ [];
  small = omega arith;
  is = refl;
  chain = chain;
  is_scan = refl;
  passes = scan_passes;
  defines = record {
    width = refl;
    height = refl;
    kind = refl;
    components = (record { horizontal = refl; vertical = refl; quantiser = refl; dc = refl; ac = refl }, tt);
    restart = refl;
  };
  scan_at = refl;
}

-- With a precision of 12 bits it is refused for that, and has no header.

refused : RefusalOf (file_of 12) BadPrecision
unfolding segment_bytes framing_tests marker_tests code_tests length_tests payload_tests frame_tests size_tests component_tests components_in last_where
refused = inr (record {
  segments = quantisers_16 ∷ [];
  rest = 255 ∷ 192 ∷ 0 ∷ 11 ∷ 12 ∷ 0 ∷ 8 ∷ 0 ∷ 8 ∷ 1 ∷ 1 ∷ 17 ∷ 0
      ∷ 255 ∷ 196 ∷ 0 ∷ 22 ∷ 0 ∷ 0 ∷ 3 ∷ (replicate 14 0 ++ 0 ∷ 3 ∷ 11
      ∷ 255 ∷ 196 ∷ 0 ∷ 20 ∷ 16 ∷ 1 ∷ (replicate 15 0 ++ 0
      ∷ 255 ∷ 218 ∷ 0 ∷ 8 ∷ 1 ∷ 1 ∷ 0 ∷ 0 ∷ 63 ∷ 0
      ∷ 97 ∷ 255 ∷ 217 ∷ []));
  starts = refl;
  is = refl;
  chain = (quantisers_pass, (λ e. omega (arith, e)), tt);
  fails = refl;
})

no_header : (file : List ℕ) (f : Refusal) → RefusalOf file f → HasOneHead file ⊎ HasOneFault file → (h : HeadValue) → HeadOf file h → ⊥
no_header file f r (inl one) h is = one.no_fault f r
no_header file f r (inr none) h is = none.no_head h is

are_bytes : (xs : List ℕ) → list_all (λ b. nat_lt b 256) xs ≡ true → All (λ b. b < 256) xs
are_bytes xs e i d lt = elim (cases_lt (get_or xs i d) 256) [
  | inl l ↦ l
  | inr r ↦
      let f : list_all (λ b. nat_lt b 256) xs ≡ false = list_all_at (λ b. nat_lt b 256) xs i d lt (search (rules, arith, r)) in
      absurd (search (rules, e, f))
]

twelve_bits_have_no_header : (h : HeadValue) → HeadOf (file_of 12) h → ⊥
twelve_bits_have_no_header = no_header (file_of 12) BadPrecision refused (one_head_or_one_fault (file_of 12) (are_bytes (file_of 12) refl))

-- Its scan: one interval, whose data are the byte 97.

abbrev its_scan : ScanValue
its_scan = record { head = head_of_a_block; intervals = (97 ∷ []) ∷ []; ended = EndOfImage }

is_its_scan : IsScanOf (file_of 8) its_scan
is_its_scan = record {
  segments = (97 ∷ []) ∷ [];
  cut = record {
    raw = 97 ∷ [];
    first = 97 ∷ [];
    segments = [];
    tail = 255 ∷ 217 ∷ [];
    is_raw = record { parts = Plain 97 ∷ []; each = ((λ e. omega (arith, e)), tt); spelled = refl; means = refl };
    each = tt;
    few = omega arith;
    spelled = refl;
    means = refl;
    ends = (0, [], refl);
  };
  intervals = refl;
}

-- Its image: the interval is sound, and its samples are those of the block that it codes. The first one is 136.

abbrev its_samples : ℕ → ℕ → ℕ → ℕ
its_samples = decoded_sample (interval_of its_scan 0) (block_with (pos 4) ∷ [])

first_sample : its_samples 0 0 0 ≡ 136
unfolding samples pass zigzag_place
first_sample = refl

shows : (i : ℕ) → Shows (mark_in (Sound ∷ []) i) (interval_of its_scan i) its_samples
shows zero = record { blocks = block_with (pos 4) ∷ []; decodes = decodes; samples = λ c x y held. refl }
shows (suc i) = λ c x y held. absurd (omega (arith, held.interval))

its_image : IsPicture its_scan (Sound ∷ []) its_samples
its_image = record { count = refl; each = shows }

-- No image has it damaged.

not_damaged : (f : ℕ → ℕ → ℕ → ℕ) → IsPicture its_scan (Damaged ∷ []) f → ⊥
not_damaged f p = (p.each 0).undecodable (block_with (pos 4) ∷ []) decodes
