use Rattle.std.proofs.Common.{ℕ, ◌-◌, ◌≤◌, List, [], ◌++◌, length, take, drop, sym, ap, subst, ◌∙◌}
use Rattle.jr_base.specs.declared.limits.TheConstants.{MAX_FILE_BYTES}
use Rattle.jr_head.specs.Heads.{HeadOf}
use Rattle.jr_head.proofs.HeadStays.{header_stays, scan_within}
use Rattle.jr_mend.proofs.headers.under_header.Goals as goal

pub returns-clause-head : goal.returns-clause-head
returns-clause-head c = λ small.
    let h = c.args.head.now in
    let file = c.args.file.now in
    let start = c.min-start.result in
    let rest = take (length file - start) (drop start file) in
    let is = c.in_ok-extend_from_slice.ensures.items ∙ ap (λ (x : List ℕ). x ++ rest) c.in_ok-bytes.ensures.header in
    subst (λ (x : List ℕ). HeadOf x h) (sym is) (header_stays c.args.other.now rest h c.requires (subst (λ (x : List ℕ). length x ≤ MAX_FILE_BYTES) is small))

pub write_header-requires : goal.write_header-requires
write_header-requires c = scan_within c.args.other.now [] c.args.head.now c.requires
