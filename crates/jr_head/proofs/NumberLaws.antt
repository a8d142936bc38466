-- No test of a file reports that memory ran out: its fault has a number from 1 to 18.
use Rattle.std.proofs.Common.{◌≡◌, inl, inr, ℕ, ◌-◌, ◌<◌, Bool, true, false, List, [], ◌∷◌, ◌++◌, length, drop, refl, sym, subst, arith}
use Rattle.std.specs.Prelude.{Some, ◌==◌, if◌then◌else◌}
use Rattle.std.specs.List.{flat_map}
use Rattle.std.proofs.lemmas.List.Concat.{flat_map-cons}
use Rattle.jr_base.specs.declared.marker.TheConstants.{DHT, DQT, DRI, SOS}
use Rattle.jr_segments.specs.Restart.{restart_tests}
use Rattle.jr_segments.specs.declared.frame.FrameComponent.{FrameComponent}
use Rattle.jr_segments.specs.declared.refusal.Refusal.{Refusal}
use Rattle.jr_segments.specs.Bytes.{byte}
use Rattle.jr_segments.specs.HuffmanTables.{huffman_table_len, huffman_table_tests, huffman_tables_tests}
use Rattle.jr_segments.specs.declared.huffman_table.HuffmanTable.{HuffmanTable}
use Rattle.jr_segments.specs.Frames.{components, size_tests, component_tests, frame_tests}
use Rattle.jr_head.specs.Heads.{segment_tests, payload_tests, start_tests, RefusalOf}
use Rattle.jr_segments.specs.Segments.{Segment, at_code, has_frame, is_frame, segment_at, marker_tests, code_tests, length_tests, framing_tests}
use Rattle.jr_segments.specs.Quantisers.{elements_len, quantisation_tests, quantisations_tests}
use Rattle.jr_segments.specs.declared.quantiser.Quantisation.{Quantisation}
use Rattle.jr_segments.specs.Refusal.{number_of}
use Rattle.jr_head.specs.Scans.{all_quantisations, all_huffman_tables, frame_segment, header_tests, table_tests, scan_tests}
use Rattle.jr_segments.specs.Tables.{tables}
use Rattle.jr_segments.specs.Tests.{Test, first_fault}

abbrev AreOfFiles : List Test → Type 0
AreOfFiles [] = Unit {0}
AreOfFiles (t ∷ ts) = (number_of t.refusal < 19) × AreOfFiles ts

append_of : (xs ys : List Test) → AreOfFiles xs → AreOfFiles ys → AreOfFiles (xs ++ ys)
append_of [] ys h k = k
append_of (x ∷ xs) ys h k = (h.0, append_of xs ys h.1 k)

flat_of : {X : Type 0} (f : X → List Test) (xs : List X) → ((x : X) → AreOfFiles (f x)) → AreOfFiles (flat_map f xs)
flat_of f [] h = tt
flat_of f (x ∷ xs) h = subst AreOfFiles (sym (flat_map-cons f x xs)) (append_of (f x) (flat_map f xs) (h x) (flat_of f xs h))

choice_of : (b : Bool) (xs ys : List Test) → AreOfFiles xs → AreOfFiles ys → AreOfFiles (if b then xs else ys)
choice_of true xs ys h k = h
choice_of false xs ys h k = k

fault_case : (t : Test) (ts : List Test) (r : Refusal) (b : Bool) → t.fails ≡ b → number_of t.refusal < 19 → first_fault (t ∷ ts) ≡ Some r → (first_fault ts ≡ Some r → number_of r < 19) → number_of r < 19
fault_case t ts r true e n h go = let same : t.refusal ≡ r = (let k = rw e at h in cc) in rw (← same) n
fault_case t ts r false e n h go = go (rw e at h)

fault_of : (ts : List Test) (r : Refusal) → AreOfFiles ts → first_fault ts ≡ Some r → number_of r < 19
fault_of [] r a h = absurd cc
fault_of (t ∷ ts) r a h = fault_case t ts r t.fails refl a.0 h (fault_of ts r a.1)

of_marker : (at : ℕ) (bytes : List ℕ) → AreOfFiles (marker_tests at bytes)
unfolding marker_tests
of_marker at bytes = (omega arith, (omega arith, (omega arith, (omega arith, tt))))

of_code : (framed : Bool) (code : ℕ) → AreOfFiles (code_tests framed code)
unfolding code_tests
of_code framed code = (omega arith, (omega arith, (omega arith, (omega arith, tt))))

of_length : (code : ℕ) (body : List ℕ) → AreOfFiles (length_tests code body)
unfolding length_tests
of_length code body = (omega arith, (omega arith, (omega arith, tt)))

of_framing : (framed : Bool) (at : ℕ) (bytes : List ℕ) → AreOfFiles (framing_tests framed at bytes)
unfolding framing_tests
of_framing framed at bytes =
    append_of (marker_tests at bytes) (code_tests framed (byte 0 (at_code bytes)) ++ length_tests (byte 0 (at_code bytes)) (drop 1 (at_code bytes))) (of_marker at bytes)
    (append_of (code_tests framed (byte 0 (at_code bytes))) (length_tests (byte 0 (at_code bytes)) (drop 1 (at_code bytes))) (of_code framed (byte 0 (at_code bytes))) (of_length (byte 0 (at_code bytes)) (drop 1 (at_code bytes))))

of_quantisation : (t : ℕ × List ℕ) → AreOfFiles (quantisation_tests t)
unfolding quantisation_tests
of_quantisation t = (omega arith, (omega arith, tt))

of_huffman_table : (t : ℕ × List ℕ) → AreOfFiles (huffman_table_tests t)
unfolding huffman_table_tests
of_huffman_table t = (omega arith, (omega arith, (omega arith, (omega arith, (omega arith, tt)))))

of_sizes : (code : ℕ) (p : List ℕ) → AreOfFiles (size_tests code p)
unfolding size_tests
of_sizes code p = (omega arith, (omega arith, (omega arith, (omega arith, (omega arith, (omega arith, tt))))))

of_components : (cs : List FrameComponent) → AreOfFiles (component_tests cs)
unfolding component_tests
of_components cs = (omega arith, (omega arith, (omega arith, (omega arith, tt))))

of_frame : (code : ℕ) (p : List ℕ) → AreOfFiles (frame_tests code p)
unfolding frame_tests
of_frame code p = append_of (size_tests code p) (component_tests (components p)) (of_sizes code p) (of_components (components p))

of_scan : (code : ℕ) (cs : List FrameComponent) (qs : List Quantisation) (ds : List HuffmanTable) (p : List ℕ) → AreOfFiles (scan_tests code cs qs ds p)
unfolding scan_tests header_tests table_tests
of_scan code cs qs ds p = (omega arith, (omega arith, (omega arith, (omega arith, (omega arith, (omega arith, (omega arith, tt)))))))

of_payload : (before : List Segment) (code : ℕ) (p : List ℕ) → AreOfFiles (payload_tests before code p)
unfolding payload_tests quantisations_tests huffman_tables_tests restart_tests
of_payload before code p =
    choice_of (code == DQT) (quantisations_tests p) _ (flat_of quantisation_tests (tables (λ b _. elements_len b) p) of_quantisation)
    (choice_of (code == DHT) (huffman_tables_tests p) _ (flat_of huffman_table_tests (tables (λ _ q. huffman_table_len q) p) of_huffman_table)
    (choice_of (code == DRI) _ _ (omega arith, tt)
    (choice_of (is_frame code) (frame_tests code p) _ (of_frame code p)
    (choice_of (code == SOS) _ [] (of_scan (frame_segment before).code (components (frame_segment before).payload) (all_quantisations before) (all_huffman_tables before) p) tt))))

of_segment : (before : List Segment) (at : ℕ) (bytes : List ℕ) → AreOfFiles (segment_tests before at bytes)
of_segment before at bytes =
    append_of (framing_tests (has_frame before) at bytes) (payload_tests before (segment_at bytes).code (segment_at bytes).payload)
    (of_framing (has_frame before) at bytes) (of_payload before (segment_at bytes).code (segment_at bytes).payload)

of_start : (file : List ℕ) → AreOfFiles (start_tests file)
of_start file = (omega arith, (omega arith, tt))

pub fault_number : (file : List ℕ) (f : Refusal) → RefusalOf file f → number_of f < 19
fault_number file f (inl h) = fault_of (start_tests file) f (of_start file) h
fault_number file f (inr e) = fault_of (segment_tests e.segments (length file - length e.rest) e.rest) f (of_segment e.segments (length file - length e.rest) e.rest) e.fails
