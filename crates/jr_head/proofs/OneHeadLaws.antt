-- A file has one header and no fault, or no header and one fault.
use Rattle.std.proofs.Common.{◌≡◌, ◌≢◌, ◌⊎◌, inl, inr, ℕ, zero, suc, ◌+◌, ◌-◌, ◌<◌, ◌≤◌, Bool, true, false, eqb, List, [], ◌∷◌, ◌++◌, length, get_or, drop, refl, sym, ap, subst, ◌∙◌, append_assoc, arith}
use Rattle.std.specs.Prelude.{All, Option, Some, None, Result, Ok, Err, is_none, not, ◌||◌, ◌&&◌, ◌==◌, if◌then◌else◌, nat_lt}
use Rattle.std.specs.List.{AllZip, flat_map, list_any}
use Rattle.std.specs.Option.{option_map}
use Rattle.std.proofs.lemmas.Bool.{and_parts, eqb-true, eqb-false, ltb-false, le-ltb, cases_lt}
use Rattle.std.proofs.lemmas.List.{append-nil, length-drop, get_or_past}
use Rattle.std.proofs.lemmas.List.Concat.{flat_map-cons}
use Rattle.jr_code.specs.Code.{Table}
use Rattle.jr_base.specs.declared.limits.TheConstants.{MAX_FILE_BYTES}
use Rattle.jr_base.specs.declared.marker.TheConstants.{PREFIX, SOF0, SOI, SOS}
use Rattle.jr_head.specs.declared.component.Component.{Component}
use Rattle.jr_segments.specs.declared.frame.FrameComponent.{FrameComponent}
use Rattle.jr_segments.specs.declared.kind.Kind.{Kind}
use Rattle.jr_segments.specs.declared.quantiser.Quantiser.{Quantiser}
use Rattle.jr_segments.specs.declared.refusal.Refusal.{Refusal}
use Rattle.jr_segments.specs.declared.refusal.Refusal.TheVariants.{TooLong, NotJpeg, MissingTable, BadQuantTable}
use Rattle.jr_head.specs.declared.scan.Selector.{Selector}
use Rattle.jr_segments.specs.Bytes.{byte}
use Rattle.jr_segments.specs.HuffmanTables.{huffman_table_for}
use Rattle.jr_segments.specs.declared.huffman_table.HuffmanTable.{HuffmanTable}
use Rattle.jr_head.specs.Definitions.{IsComponent, restart_of}
use Rattle.jr_segments.specs.Frames.{components, width, height}
use Rattle.jr_head.specs.HeadValue.{HeadValue}
use Rattle.jr_head.specs.Heads.{Passes, IsChain, Defines, HeadOf, EndsWith, RefusalOf, segment_tests, payload_tests, start_of_image, start_tests, is_single, HasOneHead, HasOneFault}
use Rattle.jr_segments.specs.Segments.{Segment, segment_bytes, segment_at, after_segment, has_frame, framing_tests}
use Rattle.jr_segments.specs.Marks.{kind_of}
use Rattle.jr_segments.specs.Quantisers.{quantiser_for}
use Rattle.jr_segments.specs.declared.quantiser.Quantisation.{Quantisation}
use Rattle.jr_head.specs.Scans.{all_quantisations, all_huffman_tables, frame_segment, scan_components, is_missing, has_wide, header_tests, table_tests, scan_tests}
use Rattle.jr_segments.specs.Tests.{◌when◌, first_fault}
use Rattle.jr_segments.proofs.SegmentLaws.{IsBytes, IsBytes-drop, framed_is}
use Rattle.jr_head.proofs.NumberLaws.{fault_number}
use Rattle.jr_head.proofs.ReadLaws.{rest_bytes}
use Rattle.jr_head.proofs.StepLaws.{next_is}
use Rattle.jr_segments.proofs.TestLaws.{passes_parts, passes_first}

-- ---- the segments define one header

same_some : {T : Type 0} (a b : T) → Some a ≡ Some b → a ≡ b
same_some a b e = cc

component_by : ℕ → ℕ → List ℕ → Table → Table → Component
component_by h v q d a = record { horizontal = h; vertical = v; quantiser = q; dc = d; ac = a }

same_parts : (x y : Component) → x.horizontal ≡ y.horizontal → x.vertical ≡ y.vertical → x.quantiser ≡ y.quantiser → x.dc ≡ y.dc → x.ac ≡ y.ac → x ≡ y
unfolding component_by
same_parts x y h v q d a =
    ap (λ n. component_by n x.vertical x.quantiser x.dc x.ac) h
    ∙ ap (λ n. component_by y.horizontal n x.quantiser x.dc x.ac) v
    ∙ ap (λ (n : List ℕ). component_by y.horizontal y.vertical n x.dc x.ac) q
    ∙ ap (λ (n : Table). component_by y.horizontal y.vertical y.quantiser n x.ac) d
    ∙ ap (λ (n : Table). component_by y.horizontal y.vertical y.quantiser y.dc n) a

same_component : (qs : List Quantisation) (cs : List HuffmanTable) (single : Bool) (u : FrameComponent × Selector) (x y : Component) → IsComponent qs cs single x u → IsComponent qs cs single y u → x ≡ y
same_component qs cs single u x y h k =
    same_parts x y (h.horizontal ∙ sym k.horizontal) (h.vertical ∙ sym k.vertical)
    (same_some x.quantiser y.quantiser (sym h.quantiser ∙ k.quantiser)) (same_some x.dc y.dc (sym h.dc ∙ k.dc)) (same_some x.ac y.ac (sym h.ac ∙ k.ac))

same_components : (qs : List Quantisation) (cs : List HuffmanTable) (single : Bool) (us : List (FrameComponent × Selector)) (xs ys : List Component)
    → AllZip (IsComponent qs cs single) xs us → AllZip (IsComponent qs cs single) ys us → xs ≡ ys
same_components qs cs single [] [] [] h k = refl
same_components qs cs single [] (x ∷ xs) ys h k = absurd h
same_components qs cs single [] [] (y ∷ ys) h k = absurd k
same_components qs cs single (u ∷ us) [] ys h k = absurd h
same_components qs cs single (u ∷ us) (x ∷ xs) [] h k = absurd k
same_components qs cs single (u ∷ us) (x ∷ xs) (y ∷ ys) h k =
    ap (λ (c : Component). c ∷ xs) (same_component qs cs single u x y h.0 k.0) ∙ ap (λ (l : List Component). y ∷ l) (same_components qs cs single us xs ys h.1 k.1)

head_by : ℕ → ℕ → Kind → List Component → ℕ → ℕ → HeadValue
head_by w h k c r s = record { width = w; height = h; kind = k; components = c; restart = r; scan_at = s }

same_head : (segments : List Segment) (scan : List ℕ) (x y : HeadValue) → Defines segments scan x → Defines segments scan y → x.scan_at ≡ y.scan_at → x ≡ y
unfolding head_by
same_head segments scan x y h k at =
    ap (λ n. head_by n x.height x.kind x.components x.restart x.scan_at) (h.width ∙ sym k.width)
    ∙ ap (λ n. head_by y.width n x.kind x.components x.restart x.scan_at) (h.height ∙ sym k.height)
    ∙ ap (λ (n : Kind). head_by y.width y.height n x.components x.restart x.scan_at) (h.kind ∙ sym k.kind)
    ∙ ap (λ (n : List Component). head_by y.width y.height y.kind n x.restart x.scan_at)
    (same_components (all_quantisations segments) (all_huffman_tables segments) (is_single segments) (scan_components (components (frame_segment segments).payload) scan) x.components y.components h.components k.components)
    ∙ ap (λ n. head_by y.width y.height y.kind y.components n x.scan_at) (h.restart ∙ sym k.restart)
    ∙ ap (λ n. head_by y.width y.height y.kind y.components y.restart n) at

-- ---- if no table is missing, there is a header

no_one : (b c : Bool) → (b || c) ≡ false → (b ≡ false) × (c ≡ false)
no_one true c h = absurd cc
no_one false c h = (refl, h)

there : {T : Type 0} (o : Option T) → is_none o ≡ false → (x : T) × (o ≡ Some x)
there None h = absurd cc
there (Some x) h = (x, refl)

made_one : (qs : List Quantisation) (cs : List HuffmanTable) (single : Bool) (u : FrameComponent × Selector) → is_missing qs cs u ≡ false → (c : Component) × IsComponent qs cs single c u
made_one qs cs single u h =
    let first = no_one (is_none (quantiser_for qs u.0.quantiser) || is_none (huffman_table_for cs 0 u.1.dc)) (is_none (huffman_table_for cs 1 u.1.ac)) h in
    let both = no_one (is_none (quantiser_for qs u.0.quantiser)) (is_none (huffman_table_for cs 0 u.1.dc)) first.0 in
    let q = there (quantiser_for qs u.0.quantiser) both.0 in
    let d = there (huffman_table_for cs 0 u.1.dc) both.1 in
    let a = there (huffman_table_for cs 1 u.1.ac) first.1 in (
      record { horizontal = (if single then 1 else u.0.horizontal); vertical = (if single then 1 else u.0.vertical); quantiser = q.0.elements; dc = d.0; ac = a.0 },
      record { horizontal = refl; vertical = refl; quantiser = ap (option_map (λ (x : Quantiser). x.elements)) q.1; dc = d.1; ac = a.1 },
    )

made_all : (qs : List Quantisation) (cs : List HuffmanTable) (single : Bool) (us : List (FrameComponent × Selector)) → list_any (is_missing qs cs) us ≡ false → (l : List Component) × AllZip (IsComponent qs cs single) l us
made_all qs cs single [] h = ([], tt)
made_all qs cs single (u ∷ us) h =
    let both = no_one (is_missing qs cs u) (list_any (is_missing qs cs) us) h in
    let c = made_one qs cs single u both.0 in
    let l = made_all qs cs single us both.1 in
    (c.0 ∷ l.0, (c.1, l.1))

none_missing : (segments : List Segment) (p : List ℕ) → first_fault (payload_tests segments SOS p) ≡ None
    → list_any (is_missing (all_quantisations segments) (all_huffman_tables segments)) (scan_components (components (frame_segment segments).payload) p) ≡ false
unfolding payload_tests scan_tests table_tests
none_missing segments p h =
    let us = scan_components (components (frame_segment segments).payload) p in
    let qs = all_quantisations segments in
    let code = (frame_segment segments).code in
    let both = passes_parts (header_tests code (components (frame_segment segments).payload) p) ((MissingTable when list_any (is_missing qs (all_huffman_tables segments)) us) ∷ (BadQuantTable when (code == SOF0 && has_wide qs us)) ∷ []) h in
    (passes_first (MissingTable when list_any (is_missing qs (all_huffman_tables segments)) us) ((BadQuantTable when (code == SOF0 && has_wide qs us)) ∷ []) both.1).0

made_head : (segments : List Segment) (p : List ℕ) (at : ℕ) → first_fault (payload_tests segments SOS p) ≡ None → (h : HeadValue) × Defines segments p h × (h.scan_at ≡ at)
made_head segments p at h =
    let cs = made_all (all_quantisations segments) (all_huffman_tables segments) (is_single segments) (scan_components (components (frame_segment segments).payload) p) (none_missing segments p h) in (
      record { width = width (frame_segment segments).payload; height = height (frame_segment segments).payload; kind = kind_of segments (is_single segments); components = cs.0; restart = restart_of segments; scan_at = at },
      record { width = refl; height = refl; kind = refl; components = cs.1; restart = refl },
      refl,
    )

-- ---- the result of a chain, if size is the file's length

record IsScanned (size : ℕ) (before : List Segment) (bytes : List ℕ) (h : HeadValue) : Type 0 where
  scan : Segment
  rest : List ℕ
  is : bytes ≡ segment_bytes scan ++ rest
  is_scan : scan.code ≡ SOS
  passes : Passes before scan
  defines : Defines before scan.payload h
  scan_at : h.scan_at + length rest ≡ size

abbrev Comes : ℕ → List Segment → List ℕ → Result HeadValue Refusal → Type 0
Comes size before bytes (Ok h) = IsScanned size before bytes h
Comes size before bytes (Err f) = first_fault (segment_tests before (size - length bytes) bytes) ≡ Some f

record Walk (size : ℕ) (before : List Segment) (bytes : List ℕ) (r : Result HeadValue Refusal) : Type 0 where
  segments : List Segment
  rest : List ℕ
  is : bytes ≡ flat_map segment_bytes segments ++ rest
  chain : IsChain before segments
  comes : Comes size (before ++ segments) rest r

-- ---- it has at most one result

none_some : (o : Option Refusal) (f : Refusal) → o ≡ None → o ≡ Some f → ⊥
none_some o f e h = absurd (let k = sym e ∙ h in cc)

same_ends : (a b : ℕ) (u v : List ℕ) (size : ℕ) → u ≡ v → a + length u ≡ size → b + length v ≡ size → a ≡ b
same_ends a b u v size e h k = omega (arith, ap length e, h, k)

two_heads : (size : ℕ) (before : List Segment) (bytes : List ℕ) (x y : HeadValue) → IsScanned size before bytes x → IsScanned size before bytes y → x ≡ y
two_heads size before bytes x y h k =
    let m = next_is before h.scan bytes h.rest h.passes h.is in
    let n = next_is before k.scan bytes k.rest k.passes k.is in
    let segment : h.scan ≡ k.scan = sym m.segment ∙ n.segment in
    let rest : h.rest ≡ k.rest = sym m.after ∙ n.after in
    same_head before k.scan.payload x y (subst (λ (i : Segment). Defines before i.payload x) segment h.defines) k.defines (same_ends x.scan_at y.scan_at h.rest k.rest size rest h.scan_at k.scan_at)

one_end : (size : ℕ) (before : List Segment) (bytes : List ℕ) (r s : Result HeadValue Refusal) → Comes size before bytes r → Comes size before bytes s → r ≡ s
one_end size before bytes (Ok x) (Ok y) h k = ap Ok (two_heads size before bytes x y h k)
one_end size before bytes (Ok x) (Err g) h k =
    absurd (none_some (first_fault (segment_tests before (size - length bytes) bytes)) g ((next_is before h.scan bytes h.rest h.passes h.is).passes (size - length bytes)) k)
one_end size before bytes (Err f) (Ok y) h k =
    absurd (none_some (first_fault (segment_tests before (size - length bytes) bytes)) f ((next_is before k.scan bytes k.rest k.passes k.is).passes (size - length bytes)) h)
one_end size before bytes (Err f) (Err g) h k = ap Err (same_some f g (sym h ∙ k))

-- a chain does not end before a segment that passes and is not a scan header
goes_on : (size : ℕ) (before : List Segment) (bytes rest : List ℕ) (i : Segment) (r : Result HeadValue Refusal) → Passes before i → i.code ≢ SOS → bytes ≡ segment_bytes i ++ rest → Comes size before bytes r → ⊥
goes_on size before bytes rest i (Ok h) ok other e c =
    let m = next_is before i bytes rest ok e in
    let n = next_is before c.scan bytes c.rest c.passes c.is in
    let same : i ≡ c.scan = sym m.segment ∙ n.segment in
    other (ap (λ (x : Segment). x.code) same ∙ c.is_scan)
goes_on size before bytes rest i (Err f) ok other e c =
    none_some (first_fault (segment_tests before (size - length bytes) bytes)) f ((next_is before i bytes rest ok e).passes (size - length bytes)) c

first_spelled : (i : Segment) (is : List Segment) (bytes rest : List ℕ) → bytes ≡ flat_map segment_bytes (i ∷ is) ++ rest → bytes ≡ segment_bytes i ++ (flat_map segment_bytes is ++ rest)
first_spelled i is bytes rest e = e ∙ ap (λ (t : List ℕ). t ++ rest) (flat_map-cons segment_bytes i is) ∙ append_assoc (segment_bytes i) (flat_map segment_bytes is) rest

nothing_spelled : (size : ℕ) (before : List Segment) (bytes rest : List ℕ) (r : Result HeadValue Refusal) → bytes ≡ rest → Comes size (before ++ []) rest r → Comes size before bytes r
nothing_spelled size before bytes rest r e c =
    subst (λ (l : List Segment). Comes size l bytes r) (append-nil before) (subst (λ (t : List ℕ). Comes size (before ++ []) t r) (sym e) c)

one_outcome : (size : ℕ) (before : List Segment) (bytes : List ℕ) (xs ys : List Segment) (u v : List ℕ) (r s : Result HeadValue Refusal)
    → bytes ≡ flat_map segment_bytes xs ++ u → bytes ≡ flat_map segment_bytes ys ++ v → IsChain before xs → IsChain before ys → Comes size (before ++ xs) u r → Comes size (before ++ ys) v s → r ≡ s
one_outcome size before bytes [] [] u v r s d e p q h k = one_end size before bytes r s (nothing_spelled size before bytes u r d h) (nothing_spelled size before bytes v s e k)
one_outcome size before bytes [] (j ∷ ys) u v r s d e p q h k =
    absurd (goes_on size before bytes (flat_map segment_bytes ys ++ v) j r q.0 q.1 (first_spelled j ys bytes v e) (nothing_spelled size before bytes u r d h))
one_outcome size before bytes (i ∷ xs) [] u v r s d e p q h k =
    absurd (goes_on size before bytes (flat_map segment_bytes xs ++ u) i s p.0 p.1 (first_spelled i xs bytes u d) (nothing_spelled size before bytes v s e k))
one_outcome size before bytes (i ∷ xs) (j ∷ ys) u v r s d e p q h k =
    let m = next_is before i bytes (flat_map segment_bytes xs ++ u) p.0 (first_spelled i xs bytes u d) in
    let n = next_is before j bytes (flat_map segment_bytes ys ++ v) q.0 (first_spelled j ys bytes v e) in
    let segment : j ≡ i = sym n.segment ∙ m.segment in
    let left : after_segment bytes ≡ flat_map segment_bytes xs ++ u = m.after in
    let right : after_segment bytes ≡ flat_map segment_bytes ys ++ v = n.after in
    one_outcome size (before ++ i ∷ []) (after_segment bytes) xs ys u v r s left right p.2
    (subst (λ (x : Segment). IsChain (before ++ x ∷ []) ys) segment q.2)
    (subst (λ (l : List Segment). Comes size l u r) (sym (append_assoc before (i ∷ []) xs)) h)
    (subst (λ (x : Segment). Comes size ((before ++ x ∷ []) ++ ys) v s) segment (subst (λ (l : List Segment). Comes size l v s) (sym (append_assoc before (j ∷ []) ys)) k))

one_walk : (size : ℕ) (before : List Segment) (bytes : List ℕ) (r s : Result HeadValue Refusal) → Walk size before bytes r → Walk size before bytes s → r ≡ s
one_walk size before bytes r s h k = one_outcome size before bytes h.segments k.segments h.rest k.rest r s h.is k.is h.chain k.chain h.comes k.comes

-- ---- it has a result

abbrev SomeWalk : ℕ → List Segment → List ℕ → Type 0
SomeWalk size before bytes = (r : Result HeadValue Refusal) × Walk size before bytes r

ends_here : (size : ℕ) (before : List Segment) (bytes : List ℕ) (r : Result HeadValue Refusal) → Comes size before bytes r → SomeWalk size before bytes
ends_here size before bytes r c = (r, record { segments = []; rest = bytes; is = refl; chain = tt; comes = subst (λ (l : List Segment). Comes size l bytes r) (sym (append-nil before)) c })

goes_further : (size : ℕ) (before : List Segment) (bytes : List ℕ) (i : Segment) (after : List ℕ) → bytes ≡ segment_bytes i ++ after → Passes before i → i.code ≢ SOS → SomeWalk size (before ++ i ∷ []) after → SomeWalk size before bytes
goes_further size before bytes i after e ok other w = (
  w.0,
  record {
    segments = i ∷ w.1.segments;
    rest = w.1.rest;
    is = e ∙ ap (λ (t : List ℕ). segment_bytes i ++ t) w.1.is ∙ sym (append_assoc (segment_bytes i) (flat_map segment_bytes w.1.segments) w.1.rest) ∙ ap (λ (t : List ℕ). t ++ w.1.rest) (sym (flat_map-cons segment_bytes i w.1.segments));
    chain = (ok, other, w.1.chain);
    comes = subst (λ (l : List Segment). Comes size l w.1.rest w.0) (append_assoc before (i ∷ []) w.1.segments) w.1.comes;
  },
)

scanned : (size : ℕ) (before : List Segment) (bytes : List ℕ) (i : Segment) (after : List ℕ) → bytes ≡ segment_bytes i ++ after → Passes before i → i.code ≡ SOS → length after ≤ size → SomeWalk size before bytes
scanned size before bytes i after e ok is_scan small =
    let made = made_head before i.payload (size - length after) (subst (λ (c : ℕ). first_fault (payload_tests before c i.payload) ≡ None) is_scan ok.payload) in
    let at : made.0.scan_at + length after ≡ size = omega (arith, made.2, small) in
    ends_here size before bytes (Ok made.0) (record { scan = i; rest = after; is = e; is_scan = is_scan; passes = ok; defines = made.1; scan_at = at })

walk_step : (size : ℕ) (before : List Segment) (bytes : List ℕ) (is_scan : Bool) (o : Option Refusal) → IsBytes bytes → length bytes ≤ size → eqb (segment_at bytes).code SOS ≡ is_scan
    → first_fault (segment_tests before (size - length bytes) bytes) ≡ o
    → ((i : Segment) → length (after_segment bytes) < length bytes → SomeWalk size (before ++ i ∷ []) (after_segment bytes)) → SomeWalk size before bytes
walk_step size before bytes is_scan (Some f) fits small which e go = ends_here size before bytes (Err f) e
walk_step size before bytes true None fits small which e go =
    let both = passes_parts (framing_tests (has_frame before) (size - length bytes) bytes) (payload_tests before (segment_at bytes).code (segment_at bytes).payload) e in
    let f = framed_is (has_frame before) (size - length bytes) bytes fits both.0 in
    scanned size before bytes (segment_at bytes) (after_segment bytes) f.is (record { code = f.code; short = f.short; payload = both.1 }) (eqb-true (segment_at bytes).code SOS which) (omega (arith, f.shorter, small))
walk_step size before bytes false None fits small which e go =
    let both = passes_parts (framing_tests (has_frame before) (size - length bytes) bytes) (payload_tests before (segment_at bytes).code (segment_at bytes).payload) e in
    let f = framed_is (has_frame before) (size - length bytes) bytes fits both.0 in
    goes_further size before bytes (segment_at bytes) (after_segment bytes) f.is (record { code = f.code; short = f.short; payload = both.1 }) (eqb-false (segment_at bytes).code SOS which) (go (segment_at bytes) f.shorter)

some_walk : (n size : ℕ) (before : List Segment) (bytes : List ℕ) → length bytes < n → IsBytes bytes → length bytes ≤ size → SomeWalk size before bytes
some_walk zero size before bytes few fits small = absurd (omega (arith, few))
some_walk (suc n) size before bytes few fits small =
    walk_step size before bytes (eqb (segment_at bytes).code SOS) (first_fault (segment_tests before (size - length bytes) bytes)) fits small refl refl
    (λ i shorter. some_walk n size (before ++ i ∷ []) (after_segment bytes) (omega (arith, few, shorter)) (rest_bytes bytes fits) (omega (arith, shorter, small)))

-- ---- the whole file

starts_so : (file rest : List ℕ) → length file ≤ MAX_FILE_BYTES → file ≡ start_of_image ++ rest → first_fault (start_tests file) ≡ None
starts_so file rest small e =
    let short : nat_lt MAX_FILE_BYTES (length file) ≡ false = le-ltb MAX_FILE_BYTES (length file) small in
    let begins : (byte 0 file == PREFIX && byte 1 file == SOI) ≡ true = rw e refl in
    rw (short, begins) refl

two_tests : (a b : Bool) → first_fault ((TooLong when a) ∷ (NotJpeg when not b) ∷ []) ≡ None → (a ≡ false) × (b ≡ true)
two_tests true b h = absurd cc
two_tests false false h = absurd cc
two_tests false true h = (refl, refl)

begins_so : (file : List ℕ) → (byte 0 file == PREFIX && byte 1 file == SOI) ≡ true → file ≡ start_of_image ++ drop 2 file
begins_so [] h = absurd cc
begins_so (a ∷ []) h = absurd (let k = (and_parts (a == PREFIX) (byte 1 (a ∷ []) == SOI) h).1 in cc)
begins_so (a ∷ b ∷ rest) h =
    let both = and_parts (a == PREFIX) (b == SOI) h in
    let first : a ≡ PREFIX = eqb-true a PREFIX both.0 in
    let second : b ≡ SOI = eqb-true b SOI both.1 in
    rw (first, second) refl

-- headers and faults are walks that start after SOI
head_walk : (file : List ℕ) (h : HeadValue) → HeadOf file h → Walk (length file) [] (drop 2 file) (Ok h)
head_walk file h k = record {
  segments = k.segments;
  rest = segment_bytes k.scan ++ k.rest;
  is = ap (drop 2) k.is;
  chain = k.chain;
  comes = record { scan = k.scan; rest = k.rest; is = refl; is_scan = k.is_scan; passes = k.passes; defines = k.defines; scan_at = k.scan_at };
}

fault_walk : (file : List ℕ) (f : Refusal) → EndsWith file f → Walk (length file) [] (drop 2 file) (Err f)
fault_walk file f k = record { segments = k.segments; rest = k.rest; is = ap (drop 2) k.is; chain = k.chain; comes = k.fails }

walk_head : (file : List ℕ) (h : HeadValue) → length file ≤ MAX_FILE_BYTES → file ≡ start_of_image ++ drop 2 file → Walk (length file) [] (drop 2 file) (Ok h) → HeadOf file h
walk_head file h small e w = record {
  segments = w.segments;
  scan = w.comes.scan;
  rest = w.comes.rest;
  small = small;
  is = e ∙ ap (λ (t : List ℕ). start_of_image ++ t) (w.is ∙ ap (λ (t : List ℕ). flat_map segment_bytes w.segments ++ t) w.comes.is);
  chain = w.chain;
  is_scan = w.comes.is_scan;
  passes = w.comes.passes;
  defines = w.comes.defines;
  scan_at = w.comes.scan_at;
}

walk_fault : (file : List ℕ) (f : Refusal) → first_fault (start_tests file) ≡ None → file ≡ start_of_image ++ drop 2 file → Walk (length file) [] (drop 2 file) (Err f) → EndsWith file f
walk_fault file f starts e w = record { segments = w.segments; rest = w.rest; starts = starts; is = e ∙ ap (λ (t : List ℕ). start_of_image ++ t) w.is; chain = w.chain; fails = w.comes }

abbrev OneOf : List ℕ → Type 0
OneOf file = HasOneHead file ⊎ HasOneFault file

same_ok : (x y : HeadValue) → (let r : Result HeadValue Refusal = Ok x in r) ≡ Ok y → x ≡ y
same_ok x y e = cc

same_err : (x y : Refusal) → (let r : Result HeadValue Refusal = Err x in r) ≡ Err y → x ≡ y
same_err x y e = cc

ok_err : (x : HeadValue) (y : Refusal) → (let r : Result HeadValue Refusal = Ok x in r) ≡ Err y → ⊥
ok_err x y e = absurd cc

only_start : (file : List ℕ) (f other : Refusal) → first_fault (start_tests file) ≡ Some f → RefusalOf file other → other ≡ f
only_start file f other e (inl g) = same_some other f (sym g ∙ e)
only_start file f other e (inr k) = absurd (none_some (first_fault (start_tests file)) f k.starts e)

only_walk : (file : List ℕ) (f other : Refusal) → first_fault (start_tests file) ≡ None → Walk (length file) [] (drop 2 file) (Err f) → RefusalOf file other → other ≡ f
only_walk file f other starts w (inl g) = absurd (none_some (first_fault (start_tests file)) other starts g)
only_walk file f other starts w (inr k) = same_err other f (one_walk (length file) [] (drop 2 file) (Err other) (Err f) (fault_walk file other k) w)

no_fault_beside : (file : List ℕ) (f : Refusal) (h : HeadValue) → first_fault (start_tests file) ≡ None → Walk (length file) [] (drop 2 file) (Ok h) → RefusalOf file f → ⊥
no_fault_beside file f h starts w (inl g) = none_some (first_fault (start_tests file)) f starts g
no_fault_beside file f h starts w (inr k) = ok_err h f (one_walk (length file) [] (drop 2 file) (Ok h) (Err f) w (fault_walk file f k))

-- the file does not begin as required
at_start : (file : List ℕ) (f : Refusal) → first_fault (start_tests file) ≡ Some f → OneOf file
at_start file f e = inr record {
  fault = f;
  is_fault = inl e;
  number = fault_number file f (inl e);
  only = λ other g. only_start file f other e g;
  no_head = λ h k. none_some (first_fault (start_tests file)) f (starts_so file (flat_map segment_bytes k.segments ++ (segment_bytes k.scan ++ k.rest)) k.small k.is) e;
}

by_walk : (file : List ℕ) (r : Result HeadValue Refusal) → first_fault (start_tests file) ≡ None → length file ≤ MAX_FILE_BYTES → file ≡ start_of_image ++ drop 2 file → Walk (length file) [] (drop 2 file) r → OneOf file
by_walk file (Ok h) starts small e w = inl record {
  head = h;
  is_head = walk_head file h small e w;
  only = λ other k. same_ok other h (one_walk (length file) [] (drop 2 file) (Ok other) (Ok h) (head_walk file other k) w);
  no_fault = λ f k. no_fault_beside file f h starts w k;
}
by_walk file (Err f) starts small e w = inr record {
  fault = f;
  is_fault = inr (walk_fault file f starts e w);
  number = fault_number file f (inr (walk_fault file f starts e w));
  only = λ other k. only_walk file f other starts w k;
  no_head = λ h k. ok_err h f (one_walk (length file) [] (drop 2 file) (Ok h) (Err f) (head_walk file h k) w);
}

-- a file that passes the tests of its beginning
pub begins : (file : List ℕ) → first_fault (start_tests file) ≡ None → (length file ≤ MAX_FILE_BYTES) × (file ≡ start_of_image ++ drop 2 file)
begins file starts =
    let t = two_tests (nat_lt MAX_FILE_BYTES (length file)) (byte 0 file == PREFIX && byte 1 file == SOI) starts in
    (ltb-false MAX_FILE_BYTES (length file) t.0, begins_so file t.1)

after_start : (file : List ℕ) → IsBytes file → first_fault (start_tests file) ≡ None → OneOf file
after_start file fits starts =
    let b = begins file starts in
    let short : length (drop 2 file) ≤ length file = omega (arith, length-drop 2 file) in
    let w = some_walk (suc (length (drop 2 file))) (length file) [] (drop 2 file) (omega arith) (IsBytes-drop 2 file fits) short in
    by_walk file w.0 starts b.0 b.1 w.1

by_start : (file : List ℕ) (o : Option Refusal) → IsBytes file → first_fault (start_tests file) ≡ o → OneOf file
by_start file (Some f) fits e = at_start file f e
by_start file None fits e = after_start file fits e

byte_at : (file : List ℕ) (i : ℕ) → All (λ b. b < 256) file → (i < length file) ⊎ (length file ≤ i) → get_or file i 0 < 256
byte_at file i a (inl lt) = a i 0 lt
byte_at file i a (inr le) = rw (get_or_past file i 0 le) (omega arith)

by_bytes : (file : List ℕ) → IsBytes file → HasOneHead file ⊎ HasOneFault file
by_bytes file fits = by_start file (first_fault (start_tests file)) fits refl

pub one_head_or_one_fault : (file : List ℕ) → All (λ b. b < 256) file → HasOneHead file ⊎ HasOneFault file
one_head_or_one_fault file a = by_bytes file (λ i. byte_at file i a (cases_lt i (length file)))
