use Rattle.std.proofs.Common.{rules, sym, ◌∙◌, ◌≡◌, false}
use Rattle.jr_segments.specs.Segments.{segment_at}
use Rattle.jri_memory.specs.Frames.{HasOther, is_any_frame}
use Rattle.jri_memory.proofs.Sizes.{no_other_scan, no_other_unknown, no_size, none_in, other_is, read_more, some_in}
use Rattle.jri_memory.proofs.frame_size.frame_size.Goals as goal
use Rattle.jri_memory.proofs.frame_size.frame_size.Goals.{then-segment-via-then-segment, then-segment-via-else-segment+then-not-is_known}

pub returns-then-is_any_frame-clause-some : goal.returns-then-is_any_frame-clause-some
returns-then-is_any_frame-clause-some c =
    let size = c.size_in.ensures in
    some_in c.args.file.now c.segments.rest.now c.size_in.result c.segments.invariant c.in-Some.ensures.there _ _ c.in-Some.ensures.code c.in-Some.ensures.payload (search rules) size.long size.width size.height size.components

pub returns-then-is_any_frame-clause-none : goal.returns-then-is_any_frame-clause-none
returns-then-is_any_frame-clause-none c =
    none_in c.args.file.now c.segments.rest.now c.size_in.result c.segments.invariant _ _ c.in-Some.ensures.code c.in-Some.ensures.payload (search rules) c.size_in.ensures.none

pub returns-then-segment-clause-none : goal.returns-then-segment-clause-none
returns-then-segment-clause-none c =
    let unframed : is_any_frame (segment_at c.segments.rest.now).code ≡ false = search (rules, c.in-Some.ensures.code) in
    no_size c.args.file.now c.segments.rest.now c.segments.invariant
    (elim c.then-segment.branch [
      | then-segment-via-then-segment w ↦ no_other_scan c.segments.rest.now _ c.in-Some.ensures.code (search rules)
      | then-segment-via-else-segment+then-not-is_known w ↦ no_other_unknown c.segments.rest.now _ c.in-Some.ensures.code (search rules)
    ])
    (λ w h n frame. absurd (let e = sym frame.is_frame ∙ unframed in cc))

pub segments-preserved : goal.segments-preserved
segments-preserved c =
    let other : HasOther c.segments.rest.now = other_is c.segments.rest.now _ c.in-Some.ensures.there c.in-Some.ensures.code (search rules) (search rules) (search rules) in
    read_more c.args.file.now c.segments.rest.now c.in-Some.segment.rest.now c.segments.invariant other c.in-Some.ensures.rest
