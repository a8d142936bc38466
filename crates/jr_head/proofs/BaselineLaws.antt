-- A header that a reader of baseline frames alone accepts is accepted, and equal.
use Rattle.std.proofs.Common.{◌≡◌, ℕ, zero, suc, ◌+◌, ◌*◌, ◌≤◌, Bool, true, false, List, [], ◌∷◌, ◌++◌, length, refl, sym, ap, subst, ◌∙◌, append_assoc, arith}
use Rattle.std.specs.Prelude.{Option, Some, None, is_some, unwrap_or, map, sum, take, not, ◌||◌, ◌&&◌, ◌==◌, nat_lt, if◌then◌else◌}
use Rattle.std.specs.List.{flat_map, list_any}
use Rattle.std.specs.Option.{option_map, option_map_or}
use Rattle.std.proofs.lemmas.Bool.{eqb-true, ltb-false, le-ltb}
use Rattle.std.proofs.lemmas.List.{append-nil}
use Rattle.std.proofs.lemmas.List.Concat.{flat_map-cons}
use Rattle.std.proofs.lemmas.Grind.{flat_map-append}
use Rattle.std.proofs.lemmas.List.Folds.{list_any-append}
use Rattle.jr_code.specs.Code.{space, lengths}
use Rattle.jr_base.specs.declared.marker.TheConstants.{DHT, DQT, DRI, SOF0, SOF1, SOS}
use Rattle.jr_segments.specs.Restart.{restart_tests}
use Rattle.jr_segments.specs.declared.frame.FrameComponent.{FrameComponent}
use Rattle.jr_segments.specs.declared.quantiser.Quantiser.{Quantiser}
use Rattle.jr_segments.specs.declared.refusal.Refusal.{Refusal}
use Rattle.jr_segments.specs.declared.refusal.Refusal.TheVariants.{BadLength, BadQuantTable, BadCodeTable, BadScanHeader, MissingTable, NotBaseline, SecondFrame, NoFrame, UnexpectedMarker}
use Rattle.jr_head.specs.declared.scan.Selector.{Selector}
use Rattle.jr_head.specs.Baseline.{baseline_code_tests, baseline_quantisation_tests, baseline_huffman_table_tests, baseline_scan_tests, baseline_payload_tests, is_ill_selected_baseline, PassesBaseline, IsBaselineChain, BaselineHeadOf}
use Rattle.jr_segments.specs.Bytes.{byte, high, low}
use Rattle.jr_segments.specs.HuffmanTables.{huffman_table_len, huffman_table_tests, huffman_tables_tests}
use Rattle.jr_segments.specs.declared.huffman_table.HuffmanTable.{HuffmanTable}
use Rattle.jr_segments.specs.Frames.{frame_tests, components}
use Rattle.jr_head.specs.HeadValue.{HeadValue}
use Rattle.jr_head.specs.Heads.{Passes, IsChain, HeadOf, payload_tests}
use Rattle.jr_segments.specs.Segments.{Segment, code_tests, frame_in, has_frame, is_frame, is_known, is_other, is_not_baseline}
use Rattle.jr_segments.specs.Quantisers.{quantisation, quantisations, quantisation_tests, quantisations_tests, quantiser_for, elements_len}
use Rattle.jr_segments.specs.declared.quantiser.Quantisation.{Quantisation}
use Rattle.jr_head.specs.Scans.{all_quantisations, all_huffman_tables, frame_segment, scan_components, is_missing, has_all_coefficients, has_wide, is_ill_selected, header_tests, table_tests, scan_tests}
use Rattle.jr_segments.specs.Tables.{tables, tables_after, last_where}
use Rattle.jr_segments.specs.Tests.{Test, ◌when◌, first_fault}
use Rattle.jr_segments.proofs.TableLaws.{last_push}
use Rattle.jr_segments.proofs.TestLaws.{passes_parts, passes_first, none_both}

no_one : (b c : Bool) → (b || c) ≡ false → (b ≡ false) × (c ≡ false)
no_one true c h = absurd cc
no_one false c h = (refl, h)

passes_on : (t : Test) (ts : List Test) → t.fails ≡ false → first_fault ts ≡ None → first_fault (t ∷ ts) ≡ None
passes_on t ts e h = rw e h

-- ---- quantisers

one_quantiser : (t : ℕ × List ℕ) → first_fault (baseline_quantisation_tests t) ≡ None → (first_fault (quantisation_tests t) ≡ None) × (elements_len t.0 ≡ 64) × ((high t.0 == 1) ≡ false)
unfolding baseline_quantisation_tests quantisation_tests
one_quantiser t h =
    let first = passes_first (BadQuantTable when (nat_lt 0 (high t.0) || nat_lt 3 (low t.0))) ((BadLength DQT when nat_lt (length t.1) 64) ∷ []) h in
    let second = passes_first (BadLength DQT when nat_lt (length t.1) 64) [] first.1 in
    let both = no_one (nat_lt 0 (high t.0)) (nat_lt 3 (low t.0)) first.0 in
    let none : high t.0 ≤ 0 = ltb-false 0 (high t.0) both.0 in
    let precise : high t.0 ≡ 0 = omega (arith, none) in
    let short : elements_len t.0 ≡ 64 = rw precise refl in
    let far : (nat_lt 1 (high t.0) || nat_lt 3 (low t.0)) ≡ false = rw (precise, both.1) refl in (
      passes_on (BadQuantTable when (nat_lt 1 (high t.0) || nat_lt 3 (low t.0))) ((BadLength DQT when nat_lt (length t.1) (elements_len t.0)) ∷ []) far
          (passes_on (BadLength DQT when nat_lt (length t.1) (elements_len t.0)) [] (rw short second.0) refl),
      short,
      rw precise refl,
    )

abbrev size_one : ℕ → List ℕ → ℕ
size_one b _ = 64

abbrev size_any : ℕ → List ℕ → ℕ
size_any b _ = elements_len b

abbrev is_wide_definition : Quantisation → Bool
is_wide_definition d = d.quantiser.is_wide

quantisers_pass : (skip : ℕ) (bs : List ℕ) → first_fault (flat_map baseline_quantisation_tests (tables_after size_one skip bs)) ≡ None
    → (first_fault (flat_map quantisation_tests (tables_after size_any skip bs)) ≡ None) × (list_any is_wide_definition (map quantisation (tables_after size_any skip bs)) ≡ false)
quantisers_pass zero [] h = (refl, refl)
quantisers_pass (suc skip) [] h = (refl, refl)
quantisers_pass (suc skip) (b ∷ bs) h = quantisers_pass skip bs h
quantisers_pass zero (b ∷ bs) h =
    let both = passes_parts (baseline_quantisation_tests (b, bs)) (flat_map baseline_quantisation_tests (tables_after size_one 64 bs)) (rw (flat_map-cons baseline_quantisation_tests (b, bs) (tables_after size_one 64 bs)) at h) in
    let one = one_quantiser (b, bs) both.0 in
    let more = quantisers_pass 64 bs both.1 in
    let here : first_fault (flat_map quantisation_tests ((b, bs) ∷ tables_after size_any 64 bs)) ≡ None =
    ap first_fault (flat_map-cons quantisation_tests (b, bs) (tables_after size_any 64 bs)) ∙ none_both (quantisation_tests (b, bs)) (flat_map quantisation_tests (tables_after size_any 64 bs)) one.0 more.0 in
    let narrow : list_any is_wide_definition (map quantisation ((b, bs) ∷ tables_after size_any 64 bs)) ≡ false = rw (one.2, more.1) refl in (
      subst (λ (n : ℕ). first_fault (flat_map quantisation_tests ((b, bs) ∷ tables_after size_any n bs)) ≡ None) (sym one.1) here,
      subst (λ (n : ℕ). list_any is_wide_definition (map quantisation ((b, bs) ∷ tables_after size_any n bs)) ≡ false) (sym one.1) narrow,
    )

-- ---- code tables

one_huffman_table : (t : ℕ × List ℕ) → first_fault (baseline_huffman_table_tests t) ≡ None → first_fault (huffman_table_tests t) ≡ None
unfolding baseline_huffman_table_tests huffman_table_tests
one_huffman_table t h =
    let more =
    (BadLength DHT when nat_lt (length t.1) 16)
    ∷ (BadCodeTable when nat_lt 256 (sum (take 16 t.1)))
    ∷ (BadLength DHT when nat_lt (length t.1) (huffman_table_len t.1))
    ∷ (BadCodeTable when nat_lt 65536 (space (lengths (take 16 t.1))))
    ∷ [] in
    let first = passes_first (BadCodeTable when (nat_lt 1 (high t.0) || nat_lt 1 (low t.0))) more h in
    let both = no_one (nat_lt 1 (high t.0)) (nat_lt 1 (low t.0)) first.0 in
    let near : low t.0 ≤ 1 = ltb-false 1 (low t.0) both.1 in
    let low_fits : nat_lt 3 (low t.0) ≡ false = le-ltb 3 (low t.0) (omega (arith, near)) in
    passes_on (BadCodeTable when (nat_lt 1 (high t.0) || nat_lt 3 (low t.0))) more (rw (both.0, low_fits) refl) first.1

huffman_tables_pass : (l : List (ℕ × List ℕ)) → first_fault (flat_map baseline_huffman_table_tests l) ≡ None → first_fault (flat_map huffman_table_tests l) ≡ None
huffman_tables_pass [] h = refl
huffman_tables_pass (t ∷ l) h =
    let both = passes_parts (baseline_huffman_table_tests t) (flat_map baseline_huffman_table_tests l) (rw (flat_map-cons baseline_huffman_table_tests t l) at h) in
    ap first_fault (flat_map-cons huffman_table_tests t l) ∙ none_both (huffman_table_tests t) (flat_map huffman_table_tests l) (one_huffman_table t both.0) (huffman_tables_pass l both.1)

-- ---- codes

frame_more : (b c f : Bool) → c ≡ false → (b && f) ≡ false → ((b || c) && f) ≡ false
frame_more true c f e h = h
frame_more false c f e h = rw e refl

known_more : (a b c d e f g : Bool) → not (a || b || c || d || e || f) ≡ false → not (a || b || c || (d || g) || e || f) ≡ false
known_more true b c d e f g h = refl
known_more false true c d e f g h = refl
known_more false false true d e f g h = refl
known_more false false false true e f g h = refl
known_more false false false false true f true h = refl
known_more false false false false true f false h = refl
known_more false false false false false true true h = refl
known_more false false false false false true false h = refl
known_more false false false false false false g h = absurd cc

four_pass : (a b c d : Bool) (r s t u : Refusal) → first_fault ((r when a) ∷ (s when b) ∷ (t when c) ∷ (u when d) ∷ []) ≡ None → (a ≡ false) × (b ≡ false) × (c ≡ false) × (d ≡ false)
four_pass true b c d r s t u h = absurd cc
four_pass false true c d r s t u h = absurd cc
four_pass false false true d r s t u h = absurd cc
four_pass false false false true r s t u h = absurd cc
four_pass false false false false r s t u h = (refl, refl, refl, refl)

code_pass : (framed : Bool) (code : ℕ) → first_fault (baseline_code_tests framed code) ≡ None → (first_fault (code_tests framed code) ≡ None) × ((code == SOF1) ≡ false)
unfolding baseline_code_tests code_tests
code_pass framed code h =
    let four = four_pass (is_not_baseline code || code == SOF1) (code == SOF0 && framed) (code == SOS && not framed) (not (code == DQT || code == DHT || code == DRI || code == SOF0 || code == SOS || is_other code))
    (NotBaseline code) SecondFrame NoFrame (UnexpectedMarker code) h in
    let both = no_one (is_not_baseline code) (code == SOF1) four.0 in
    let frame : (is_frame code && framed) ≡ false = frame_more (code == SOF0) (code == SOF1) framed both.1 four.1 in
    let known : not (is_known code) ≡ false = known_more (code == DQT) (code == DHT) (code == DRI) (code == SOF0) (code == SOS) (is_other code) (code == SOF1) four.3 in
    (rw (both.0, frame, four.2, known) refl, both.1)

-- ---- the scan header

wide_one : (x : Option Quantisation) (p : Bool) (d : Quantisation) → option_map_or (λ (q : Quantiser). q.is_wide) (option_map (λ (e : Quantisation). e.quantiser) x) false ≡ false → d.quantiser.is_wide ≡ false
    → option_map_or (λ (q : Quantiser). q.is_wide) (option_map (λ (e : Quantisation). e.quantiser) (if is_some x then x else (if p then Some d else None))) false ≡ false
wide_one (Some e) p d h n = h
wide_one None true d h n = n
wide_one None false d h n = refl

last_narrow : (p : Quantisation → Bool) (qs : List Quantisation) → list_any is_wide_definition qs ≡ false
    → option_map_or (λ (q : Quantiser). q.is_wide) (option_map (λ (e : Quantisation). e.quantiser) (last_where p qs)) false ≡ false
unfolding last_where
last_narrow p [] h = refl
last_narrow p (d ∷ qs) h =
    let both = no_one d.quantiser.is_wide (list_any is_wide_definition qs) h in
    wide_one (last_where p qs) (p d) d (last_narrow p qs both.1) both.0

none_wide : (qs : List Quantisation) (us : List (FrameComponent × Selector)) → list_any is_wide_definition qs ≡ false → has_wide qs us ≡ false
unfolding has_wide quantiser_for
none_wide qs [] h = refl
none_wide qs (u ∷ us) h = rw (last_narrow (λ d. d.destination == u.0.quantiser) qs h, none_wide qs us h) refl

scan_pass : (code : ℕ) (cs : List FrameComponent) (qs : List Quantisation) (ds : List HuffmanTable) (p : List ℕ) → code ≡ SOF0 → list_any is_wide_definition qs ≡ false
    → first_fault (baseline_scan_tests cs qs ds p) ≡ None → first_fault (scan_tests code cs qs ds p) ≡ None
unfolding baseline_scan_tests scan_tests header_tests table_tests is_ill_selected
scan_pass code cs qs ds p c narrow h =
    let us = scan_components cs p in
    let header =
    (BadLength SOS when (length p == 0))
    ∷ (BadScanHeader when not (byte 0 p == length cs))
    ∷ (BadLength SOS when not (length p == 4 + 2 * byte 0 p))
    ∷ (BadScanHeader when is_ill_selected_baseline us)
    ∷ (BadScanHeader when not (has_all_coefficients p))
    ∷ [] in
    let both = passes_parts header ((MissingTable when list_any (is_missing qs ds) us) ∷ []) h in
    let missing = passes_first (MissingTable when list_any (is_missing qs ds) us) [] both.1 in
    let wide : has_wide qs us ≡ false = none_wide qs us narrow in
    rw c (none_both header ((MissingTable when list_any (is_missing qs ds) us) ∷ (BadQuantTable when has_wide qs us) ∷ []) both.0
    (passes_on (MissingTable when list_any (is_missing qs ds) us) ((BadQuantTable when has_wide qs us) ∷ []) missing.0 (passes_on (BadQuantTable when has_wide qs us) [] wide refl)))

-- ---- all payloads

-- what the segments of a baseline file have
record IsNarrow (segments : List Segment) : Type 0 where
  frame : (frame_segment segments).code ≡ SOF0
  quantisers : list_any is_wide_definition (all_quantisations segments) ≡ false

by_code : (a b c d e g : Bool) (q x k y r f s z : List Test) → g ≡ false → (first_fault q ≡ None → first_fault x ≡ None) → (first_fault k ≡ None → first_fault y ≡ None) → (first_fault s ≡ None → first_fault z ≡ None)
    → first_fault (if a then q else (if b then k else (if c then r else (if d then f else (if e then s else []))))) ≡ None
    → first_fault (if a then x else (if b then y else (if c then r else (if (d || g) then f else (if e then z else []))))) ≡ None
by_code true b c d e g q x k y r f s z n on_q on_k on_s h = on_q h
by_code false true c d e g q x k y r f s z n on_q on_k on_s h = on_k h
by_code false false true d e g q x k y r f s z n on_q on_k on_s h = h
by_code false false false true e g q x k y r f s z n on_q on_k on_s h = h
by_code false false false false true true q x k y r f s z n on_q on_k on_s h = absurd cc
by_code false false false false true false q x k y r f s z n on_q on_k on_s h = on_s h
by_code false false false false false true q x k y r f s z n on_q on_k on_s h = absurd cc
by_code false false false false false false q x k y r f s z n on_q on_k on_s h = refl

payload_pass : (before : List Segment) (code : ℕ) (p : List ℕ) → IsNarrow before → (code == SOF1) ≡ false → first_fault (baseline_payload_tests before code p) ≡ None → first_fault (payload_tests before code p) ≡ None
unfolding baseline_payload_tests payload_tests quantisations_tests huffman_tables_tests tables
payload_pass before code p n other h =
    by_code (code == DQT) (code == DHT) (code == DRI) (code == SOF0) (code == SOS) (code == SOF1)
    (flat_map baseline_quantisation_tests (tables_after size_one 0 p)) (flat_map quantisation_tests (tables_after size_any 0 p))
    (flat_map baseline_huffman_table_tests (tables_after (λ _ q. huffman_table_len q) 0 p)) (flat_map huffman_table_tests (tables_after (λ _ q. huffman_table_len q) 0 p))
    (restart_tests p) (frame_tests code p)
    (baseline_scan_tests (components (frame_segment before).payload) (all_quantisations before) (all_huffman_tables before) p)
    (scan_tests (frame_segment before).code (components (frame_segment before).payload) (all_quantisations before) (all_huffman_tables before) p)
    other
    (λ e. (quantisers_pass 0 p e).0) (huffman_tables_pass (tables_after (λ _ q. huffman_table_len q) 0 p))
    (scan_pass (frame_segment before).code (components (frame_segment before).payload) (all_quantisations before) (all_huffman_tables before) p n.frame n.quantisers)
    h

narrow_payload : (a : Bool) (p : List ℕ) (others : List Test) → first_fault (if a then flat_map baseline_quantisation_tests (tables (λ _ _. 64) p) else others) ≡ None
    → list_any is_wide_definition (if a then quantisations p else []) ≡ false
unfolding quantisations tables
narrow_payload true p others h = (quantisers_pass 0 p h).1
narrow_payload false p others h = refl

passes : (before : List Segment) (i : Segment) → IsNarrow before → PassesBaseline before i → Passes before i
passes before i n ok =
    let c = code_pass (has_frame before) i.code ok.code in
    record { code = c.0; short = ok.short; payload = payload_pass before i.code i.payload n c.1 ok.payload }

-- ---- the chain

frame_code : (b c : Bool) (i : Segment) (o : Option Segment) → (i.code == SOF0) ≡ b → (i.code == SOF1) ≡ c → c ≡ false → (unwrap_or o (record { fill = 0; code = SOF0; payload = [] })).code ≡ SOF0
    → (unwrap_or (if (b || c) then Some i else o) (record { fill = 0; code = SOF0; payload = [] })).code ≡ SOF0
frame_code true c i o e f n h = eqb-true i.code SOF0 e
frame_code false true i o e f n h = absurd cc
frame_code false false i o e f n h = h

narrow_push : (before : List Segment) (i : Segment) → IsNarrow before → PassesBaseline before i → IsNarrow (before ++ i ∷ [])
unfolding baseline_payload_tests
narrow_push before i n ok =
    let c = code_pass (has_frame before) i.code ok.code in
    let mine : Segment → List Quantisation = λ (x : Segment). if x.code == DQT then quantisations x.payload else [] in
    let split : all_quantisations (before ++ i ∷ []) ≡ all_quantisations before ++ mine i = flat_map-append mine before (i ∷ []) ∙ ap (λ (t : List Quantisation). all_quantisations before ++ t) (flat_map-cons mine i [] ∙ append-nil (mine i)) in
    let narrow : list_any is_wide_definition (mine i) ≡ false = narrow_payload (i.code == DQT) i.payload _ ok.payload in
    record {
      frame = rw (last_push (λ (x : Segment). is_frame x.code) before i) (frame_code (i.code == SOF0) (i.code == SOF1) i (frame_in before) refl refl c.1 n.frame);
      quantisers = ap (list_any is_wide_definition) split ∙ list_any-append is_wide_definition (all_quantisations before) (mine i) ∙ rw (n.quantisers, narrow) refl;
    }

chain_pass : (before segments : List Segment) → IsNarrow before → IsBaselineChain before segments → IsChain before segments × IsNarrow (before ++ segments)
chain_pass before [] n c = (tt, subst IsNarrow (sym (append-nil before)) n)
chain_pass before (i ∷ segments) n c =
    let more = chain_pass (before ++ i ∷ []) segments (narrow_push before i n c.0) c.2 in
    ((passes before i n c.0, c.1, more.0), subst IsNarrow (append_assoc before (i ∷ []) segments) more.1)

nothing_narrow : IsNarrow []
unfolding last_where
nothing_narrow = record { frame = refl; quantisers = refl }

pub baseline_is_accepted : (file : List ℕ) (h : HeadValue) → BaselineHeadOf file h → HeadOf file h
baseline_is_accepted file h b =
    let c = chain_pass [] b.segments nothing_narrow b.chain in
    record {
      segments = b.segments;
      scan = b.scan;
      rest = b.rest;
      small = b.small;
      is = b.is;
      chain = c.0;
      is_scan = b.is_scan;
      passes = passes b.segments b.scan c.1 b.passes;
      defines = b.defines;
      scan_at = b.scan_at;
    }
