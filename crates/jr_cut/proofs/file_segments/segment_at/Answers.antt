use Rattle.std.proofs.Common.{ℕ, ◌+◌, ◌≤◌, ◌⊎◌, List, length, take, drop, sym, ap, subst, length-drop, arith}
use Rattle.std.proofs.lemmas.List.{drop-drop}
use Rattle.jr_cut.specs.Cut.{IsRaw, IsStop}
use Rattle.jr_cut.proofs.Cuts.{rest_is}
use Rattle.jr_cut.specs.Coded.{EndsAfter, GoesOnAfter}
use Rattle.jr_cut.proofs.NextSegments.{is_segment, next_is}
use Rattle.jr_cut.proofs.file_segments.segment_at.Goals as goal

pub returns-clause-bytes : goal.returns-clause-bytes
returns-clause-bytes c n datas ended e begins =
    let file = c.args.file.now in
    let at = c.args.at in
    let len = c.segment_length.result in
    let stated = c.segment_length.ensures in
    let rest = rest_is file at in
    let fits : at + len ≤ length file = omega (arith, stated.within, ap length rest, length-drop at file, c.requires.there) in
    let raw = subst (λ (l : List ℕ). IsRaw (take len l) stated.data.0) rest stated.data.1 in
    let stop = subst IsStop (drop-drop len at file) (subst (λ (l : List ℕ). IsStop (drop len l)) rest stated.stop) in
    is_segment file n datas ended c.args.k at len stated.data.0 fits raw stop begins

pub returns-clause-next : goal.returns-clause-next
returns-clause-next c n datas ended e begins =
    let file = c.args.file.now in
    let at = c.args.at in
    let k = c.args.k in
    let len = c.segment_length.result in
    let stated = c.segment_length.ensures in
    let rest = rest_is file at in
    let fits : at + len ≤ length file = omega (arith, stated.within, ap length rest, length-drop at file, c.requires.there) in
    let raw = subst (λ (l : List ℕ). IsRaw (take len l) stated.data.0) rest stated.data.1 in
    let stop = subst IsStop (drop-drop len at file) (subst (λ (l : List ℕ). IsStop (drop len l)) rest stated.stop) in
    let next = c.next_at.result in
    let starts = subst (λ (m : ℕ). GoesOnAfter file m k (at + len) next ⊎ EndsAfter file m k (at + len) next) (sym e) c.next_at.ensures.next in
    next_is file n datas ended k at len stated.data.0 fits raw stop next starts begins
