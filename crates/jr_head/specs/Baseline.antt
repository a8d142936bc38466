-- A reader of baseline frames alone: SOF0, quantiser elements of one byte, code tables of destinations 0 and 1.
use Rattle.std.specs.Prelude.{◌≡◌, ◌≢◌, ◌<◌, ◌≤◌, ℕ, ◌+◌, ◌*◌, ◌==◌, Bool, not, ◌||◌, ◌&&◌, nat_lt, List, [], ◌∷◌, ◌++◌, length, sum, take, None, if◌then◌else◌}
use Rattle.std.specs.List.{flat_map, list_any}
use Rattle.jr_code.specs.Code.{space, lengths}
use Rattle.jr_base.specs.declared.limits.TheConstants.{MAX_FILE_BYTES}
use Rattle.jr_base.specs.declared.marker.TheConstants.{DHT, DQT, DRI, SOF0, SOF1, SOS}
use Rattle.jr_segments.specs.declared.frame.FrameComponent.{FrameComponent}
use Rattle.jr_segments.specs.declared.refusal.Refusal.TheVariants.{BadLength, BadQuantTable, BadCodeTable, BadScanHeader, MissingTable, NotBaseline, SecondFrame, NoFrame, UnexpectedMarker}
use Rattle.jr_head.specs.declared.scan.Selector.{Selector}
use Rattle.jr_segments.specs.Bytes.{byte, high, low}
use Rattle.jr_segments.specs.HuffmanTables.{huffman_table_len}
use Rattle.jr_segments.specs.declared.huffman_table.HuffmanTable.{HuffmanTable}
use Rattle.jr_segments.specs.Frames.{frame_tests, components}
use Rattle.jr_head.specs.HeadValue.{HeadValue}
use Rattle.jr_head.specs.Heads.{Defines, start_of_image}
use Rattle.jr_segments.specs.Segments.{Segment, segment_bytes, is_not_baseline, is_other, has_frame}
use Rattle.jr_segments.specs.Restart.{restart_tests}
use Rattle.jr_segments.specs.declared.quantiser.Quantisation.{Quantisation}
use Rattle.jr_head.specs.Scans.{all_quantisations, all_huffman_tables, frame_segment, scan_components, is_missing, has_all_coefficients}
use Rattle.jr_segments.specs.Tables.{tables}
use Rattle.jr_segments.specs.Tests.{Test, ◌when◌, first_fault}

-- SOF1 is not a frame of this reader
unfoldable pub baseline_code_tests : Bool → ℕ → List Test
baseline_code_tests framed code =
    (NotBaseline code when (is_not_baseline code || code == SOF1))
    ∷ (SecondFrame when (code == SOF0 && framed))
    ∷ (NoFrame when (code == SOS && not framed))
    ∷ (UnexpectedMarker code when not (code == DQT || code == DHT || code == DRI || code == SOF0 || code == SOS || is_other code))
    ∷ []

-- elements have one byte each
unfoldable pub baseline_quantisation_tests : ℕ × List ℕ → List Test
baseline_quantisation_tests t =
    (BadQuantTable when (nat_lt 0 (high t.0) || nat_lt 3 (low t.0)))
    ∷ (BadLength DQT when nat_lt (length t.1) 64)
    ∷ []

-- destinations 0 and 1
unfoldable pub baseline_huffman_table_tests : ℕ × List ℕ → List Test
baseline_huffman_table_tests t =
    (BadCodeTable when (nat_lt 1 (high t.0) || nat_lt 1 (low t.0)))
    ∷ (BadLength DHT when nat_lt (length t.1) 16)
    ∷ (BadCodeTable when nat_lt 256 (sum (take 16 t.1)))
    ∷ (BadLength DHT when nat_lt (length t.1) (huffman_table_len t.1))
    ∷ (BadCodeTable when nat_lt 65536 (space (lengths (take 16 t.1))))
    ∷ []

abbrev pub is_ill_selected_baseline : List (FrameComponent × Selector) → Bool
is_ill_selected_baseline us = list_any (λ u. not (u.0.id == u.1.id) || nat_lt 1 u.1.dc || nat_lt 1 u.1.ac) us

unfoldable pub baseline_scan_tests : List FrameComponent → List Quantisation → List HuffmanTable → List ℕ → List Test
baseline_scan_tests cs qs ds p =
    (BadLength SOS when (length p == 0))
    ∷ (BadScanHeader when not (byte 0 p == length cs))
    ∷ (BadLength SOS when not (length p == 4 + 2 * byte 0 p))
    ∷ (BadScanHeader when is_ill_selected_baseline (scan_components cs p))
    ∷ (BadScanHeader when not (has_all_coefficients p))
    ∷ (MissingTable when list_any (is_missing qs ds) (scan_components cs p))
    ∷ []

unfoldable pub baseline_payload_tests : List Segment → ℕ → List ℕ → List Test
baseline_payload_tests before code p =
    if code == DQT then flat_map baseline_quantisation_tests (tables (λ _ _. 64) p)
    else (if code == DHT then flat_map baseline_huffman_table_tests (tables (λ _ q. huffman_table_len q) p)
    else (if code == DRI then restart_tests p
    else (if code == SOF0 then frame_tests code p
    else (if code == SOS then baseline_scan_tests (components (frame_segment before).payload) (all_quantisations before) (all_huffman_tables before) p
    else []))))

-- segments that pass these tests, each given those before it
pub record PassesBaseline (before : List Segment) (i : Segment) : Type 0 where
  pub code : first_fault (baseline_code_tests (has_frame before) i.code) ≡ None
  pub short : length i.payload + 2 < 65536
  pub payload : first_fault (baseline_payload_tests before i.code i.payload) ≡ None

abbrev pub IsBaselineChain : List Segment → List Segment → Type 0
IsBaselineChain before [] = Unit {0}
IsBaselineChain before (i ∷ is) = PassesBaseline before i × (i.code ≢ SOS) × IsBaselineChain (before ++ i ∷ []) is

-- the header that such a reader accepts
pub record BaselineHeadOf (file : List ℕ) (h : HeadValue) : Type 0 where
  pub segments : List Segment
  pub scan : Segment
  pub rest : List ℕ
  pub small : length file ≤ MAX_FILE_BYTES
  pub is : file ≡ start_of_image ++ (flat_map segment_bytes segments ++ (segment_bytes scan ++ rest))
  pub chain : IsBaselineChain [] segments
  pub is_scan : scan.code ≡ SOS
  pub passes : PassesBaseline segments scan
  pub defines : Defines segments scan.payload h
  pub scan_at : h.scan_at + length rest ≡ length file
