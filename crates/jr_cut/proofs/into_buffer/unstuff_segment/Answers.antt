use Rattle.std.proofs.Common.{rules, arith, ◌≡◌, ℕ, ◌≤◌, List, ◌++◌, length, take, drop, sym, ap, subst, ◌∙◌, length-take-le}
use Rattle.std.proofs.Math.Seq.{take-append_seam}
use Rattle.jr_cut.specs.Cut.{IsRaw}
use Rattle.jr_cut.proofs.Spellings.{all_read, found_few}
use Rattle.jr_cut.proofs.into_buffer.unstuff_segment.Goals as goal

pub returns-clause-few : goal.returns-clause-few
returns-clause-few c =
    let u = c.unstuff_into in
    let raw = c.args.raw.now in
    let fits : u.result.found ≤ length u.new.buffer = search (rules, arith, u.ensures.fits, u.ensures.long) in
    omega (arith, found_few (take u.result.read raw) (take u.result.found u.new.buffer) u.ensures.spells, length-take-le u.result.found u.new.buffer fits, length-take-le u.result.read raw u.ensures.within, u.ensures.within)

pub returns-clause-data : goal.returns-clause-data
returns-clause-data c =
    let u = c.unstuff_into in
    let raw = c.args.raw.now in
    let few = returns-clause-few c in
    let stop = u.ensures.stop (search (rules, arith, few, c.lengthen.ensures.long)) in
    let new = u.new.buffer in
    let spare = drop (length new) c.lengthen.new.buffer.items in
    let long : c.lengthen.new.buffer.len ≡ length new = search (rules, arith, u.ensures.long, c.deref_mut.ensures.len) in
    let same : take c.lengthen.new.buffer.len (new ++ spare) ≡ new = ap (λ (k : ℕ). take k (new ++ spare)) long ∙ take-append_seam new spare in
    let stated = all_read raw c.requires.spells.0 (take u.result.found new) u.result.read c.requires.spells.1 u.ensures.spells stop in
    subst (λ (l : List ℕ). IsRaw raw (take u.result.found l)) (sym same) stated
