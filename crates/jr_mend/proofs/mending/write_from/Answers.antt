use Rattle.std.proofs.Common.{◌++◌, ◌∙◌, List, ℕ, slice_range, ap}
use Rattle.jr_mend.specs.Splice.{marker_before}
use Rattle.jr_mend.proofs.mending.write_from.Goals as goal

pub returns : goal.returns
returns c =
    let span = c.args.span in
    c.in_ok-write_interval.ensures.appended ∙ ap (λ (f : List ℕ). c.args.bytes.now.items ++ (marker_before c.args.i ++ slice_range f span.start span.end)) c.file.ensures
