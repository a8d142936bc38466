use Rattle.std.proofs.Common.{◌++◌, ap, append_assoc, ◌∙◌}
use Rattle.jr_mend.specs.Splice.{marker_before}
use Rattle.jr_mend.proofs.Splices.{written_more}
use Rattle.jr_mend.proofs.splice.write_interval.Goals as goal

pub returns-clause-joined_intervals : goal.returns-clause-joined_intervals
returns-clause-joined_intervals c = λ front raws count e.
    let old = c.args.bytes.now.items in
    let raw = c.args.raw.now in
    let is = c.in_ok-extend_from_slice.ensures.items ∙ ap (λ x. x ++ raw) c.in_ok-write_marker_before.ensures ∙ append_assoc old (marker_before c.args.k) raw in
    written_more c.args.k old c.extend_from_slice.new.self.items raw front raws is count e
