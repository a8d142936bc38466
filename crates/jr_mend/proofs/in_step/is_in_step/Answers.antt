use Rattle.std.proofs.Common.{◌≡◌, List, ℕ, length, drop, subst}
use Rattle.jr_cut.specs.declared.scan_end.ScanEnd.TheVariants.{EndOfImage}
use Rattle.jr_cut.specs.Cut.{IsCut}
use Rattle.jr_cut.proofs.Cuts.{rest_is}
use Rattle.jr_mend.proofs.in_step.is_in_step.Goals as goal

pub returns : goal.returns
returns c = λ yes.
    let file = c.args.file.now in
    let at = c.args.head.now.scan_at in
    let start = c.scan_at-start.result in
    let n = c.intervals.result in
    let Cuts : ℕ → List ℕ → Type 0 = λ m bytes. (datas : List (List ℕ)) × IsCut m at bytes datas EndOfImage × (length datas ≡ m) in
    let cut = subst (λ (x : List ℕ). Cuts n x) (rest_is file start) (c.ends_with_image.ensures yes at) in
    let moved = subst (λ (a : ℕ). Cuts n (drop a file)) c.scan_at-start.ensures.value cut in
    subst (λ (m : ℕ). Cuts m (drop at file)) c.intervals.ensures.value moved
