use Rattle.std.proofs.Common.{rules, arith, ◌<◌, ◌≤◌, ◌-◌, ℕ, List, length, inr}
use Rattle.jr_segments.specs.Marker.{code_of}
use Rattle.jr_segments.proofs.SegmentLaws.{Framed, IsBytes, IsBytes-drop, framed_is}
use Rattle.jr_head.specs.declared.definitions.Definitions.{Definitions}
use Rattle.jr_head.specs.HeadReader.{ReadsHead}
use Rattle.jr_head.proofs.HeadReaderLaws.{reached}
use Rattle.jr_head.proofs.MarkerLaws.{no_scan, scan_code}
use Rattle.jr_head.proofs.OneHeadLaws.{begins}
use Rattle.jr_head.proofs.ReadLaws.{Reached, steps_on, refused_framing, refused_payload, has_frame_before, no_frame_before, rest_bytes, if_ok_head, if_err_refusal}
use Rattle.jr_head.proofs.read.read_segments.Goals as goal

pub segments-init : goal.segments-init
segments-init c =
    let bytes = c.args.bytes.now in
    let at = reached bytes c.args.reader c.requires.starts c.requires.read in
    let back = c.split_at.ensures.back in
    let fits : IsBytes bytes = λ i. search (rules, arith, c.type_inv.bytes i) in
    record {
      starts = c.requires.starts;
      small = (begins bytes c.requires.starts).0;
      within = search (rules, arith, at.0, back);
      are_bytes = rw back (IsBytes-drop c.args.reader.at bytes fits);
      chain = rw back at.1;
    }

pub returns-in-Err-clause-refusal : goal.returns-in-Err-clause-refusal
returns-in-Err-clause-refusal c =
    let fault = rw c.is_some.ensures at c.in-Err.ensures.obeys in
    refused_framing c.args.bytes.now c.segments.rest.now c.segments.definitions c.in-Err.refusal c.segments.invariant.starts c.segments.invariant.chain fault

pub returns-in-Err-read-clause-refusal : goal.returns-in-Err-read-clause-refusal
returns-in-Err-read-clause-refusal c =
    let ok = c.in-Ok.ensures in
    let framing = rw c.is_some.ensures at ok.obeys in
    refused_payload c.args.bytes.now c.segments.rest.now c.segments.definitions c.in-Err-read.refusal (code_of c.in-Ok.segment.marker) c.in-Ok.segment.payload.now c.segments.invariant.starts c.segments.invariant.chain
    framing ok.code ok.payload (λ segments k. c.in-Err-read.ensures.obeys segments)

pub segments-preserved : goal.segments-preserved
segments-preserved c =
    let ok = c.in-Ok.ensures in
    let inv = c.segments.invariant in
    let f : Framed c.is_some.result c.segments.rest.now = framed_is c.is_some.result _ c.segments.rest.now c.segments.invariant.are_bytes ok.obeys in
    let framing = rw c.is_some.ensures at ok.obeys in
    let within : length c.in-Ok.segment.rest.now ≤ length c.args.bytes.now = rw ok.rest (omega (arith, f.shorter, inv.within)) in
    record {
      starts = inv.starts;
      small = inv.small;
      within = within;
      are_bytes = rw ok.rest (rest_bytes c.segments.rest.now inv.are_bytes);
      chain = steps_on c.args.bytes.now c.segments.rest.now c.in-Ok.segment.rest.now c.segments.definitions c.read.new.self _ (code_of c.in-Ok.segment.marker) c.in-Ok.segment.payload.now inv.are_bytes inv.chain
          framing ok.code ok.payload ok.rest (no_scan c.in-Ok.segment.marker (search (rules, c.eq.ensures, c.if-eq.false))) c.in_default.ensures.obeys c.in_default.ensures.in_force;
    }

pub of-head-requires-clause-frame : goal.of-head-requires-clause-frame
of-head-requires-clause-frame c =
    let ok = c.in-Ok.ensures in
    let framing = rw c.is_some.ensures at ok.obeys in
    has_frame_before c.args.bytes.now c.segments.rest.now c.segments.definitions _ (code_of c.in-Ok.segment.marker) c.segments.invariant.are_bytes c.segments.invariant.chain framing ok.code (scan_code c.in-Ok.segment.marker (search (rules, c.eq.ensures, c.if-eq.true)))

pub read-requires-clause-unframed : goal.read-requires-clause-unframed
read-requires-clause-unframed c =
    let ok = c.in-Ok.ensures in
    let framing = rw c.is_some.ensures at ok.obeys in
    no_frame_before c.segments.rest.now c.segments.definitions _ (code_of c.in-Ok.segment.marker) c.segments.invariant.are_bytes framing ok.code

pub returns-then-eq-clause-head : goal.returns-then-eq-clause-head
returns-then-eq-clause-head c =
    let ok = c.in-Ok.ensures in
    let inv = c.segments.invariant in
    let framing = rw c.is_some.ensures at ok.obeys in
    if_ok_head c.of-head.result c.args.bytes.now c.segments.rest.now c.in-Ok.segment.rest.now c.segments.definitions (code_of c.in-Ok.segment.marker) c.in-Ok.segment.payload.now inv.small inv.are_bytes inv.chain
    framing ok.code ok.payload ok.rest (scan_code c.in-Ok.segment.marker (search (rules, c.eq.ensures, c.if-eq.true))) c.of-head.ensures.obeys c.of-head.ensures.defines (search (rules, c.of-head.ensures.at))

pub returns-then-eq-clause-refusal : goal.returns-then-eq-clause-refusal
returns-then-eq-clause-refusal c =
    let ok = c.in-Ok.ensures in
    let inv = c.segments.invariant in
    let framing = rw c.is_some.ensures at ok.obeys in
    if_err_refusal c.of-head.result c.args.bytes.now c.segments.rest.now c.segments.definitions (code_of c.in-Ok.segment.marker) c.in-Ok.segment.payload.now inv.starts inv.chain
    framing ok.code ok.payload (scan_code c.in-Ok.segment.marker (search (rules, c.eq.ensures, c.if-eq.true))) c.of-head.ensures.obeys

-- a reader before the bytes that are left has read those before them
reads_to : (bytes rest : List ℕ) (d : Definitions) → length rest ≤ length bytes → Reached bytes rest d → ReadsHead bytes (record { at = length bytes - length rest; definitions = d })
reads_to bytes rest d within r = inr record { segments = r.0; rest = rest; is = r.1; offset = omega (arith, within); chain = r.2; in_force = r.3 }

pub split_at-requires : goal.split_at-requires
split_at-requires c = (reached c.args.bytes.now c.args.reader c.requires.starts c.requires.read).0

pub overflow_sub-at : goal.overflow_sub-at
overflow_sub-at c = c.segments.invariant.within

pub read_segment-requires : goal.read_segment-requires
read_segment-requires c = omega (arith, c.segments.invariant.within, c.segments.invariant.small)

pub returns-in-Err-clause-on : goal.returns-in-Err-clause-on
returns-in-Err-clause-on c =
    let on = reads_to c.args.bytes.now c.segments.rest.now c.segments.definitions c.segments.invariant.within c.segments.invariant.chain in
    search (rules, on)

pub returns-then-eq-clause-on : goal.returns-then-eq-clause-on
returns-then-eq-clause-on c =
    let on = reads_to c.args.bytes.now c.segments.rest.now c.segments.definitions c.segments.invariant.within c.segments.invariant.chain in
    search (rules, on)

pub returns-in-Err-read-clause-on : goal.returns-in-Err-read-clause-on
returns-in-Err-read-clause-on c = c.new.ensures c.args.bytes.now

pub overflow_sub-scan_at : goal.overflow_sub-scan_at
overflow_sub-scan_at c =
    let ok = c.in-Ok.ensures in
    let inv = c.segments.invariant in
    let f : Framed c.is_some.result c.segments.rest.now = framed_is c.is_some.result _ c.segments.rest.now inv.are_bytes ok.obeys in
    rw ok.rest (omega (arith, f.shorter, inv.within))

pub of-head-requires-clause-after : goal.of-head-requires-clause-after
of-head-requires-clause-after c = omega (arith, c.segments.invariant.small)

pub segments-smaller : goal.segments-smaller
segments-smaller c =
    let ok = c.in-Ok.ensures in
    let f : Framed c.is_some.result c.segments.rest.now = framed_is c.is_some.result _ c.segments.rest.now c.segments.invariant.are_bytes ok.obeys in
    let less : length c.in-Ok.segment.rest.now < length c.segments.rest.now = rw ok.rest (omega (arith, f.shorter)) in
    less
