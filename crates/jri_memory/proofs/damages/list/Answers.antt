use Rattle.std.proofs.Common.{arith, rules, sym, subst, ap, ◌∙◌, ℕ, length, min}
use Rattle.jr_damage.specs.Coded.{IsNextAt}
use Rattle.jr_scan.specs.ScanValue.{intervals_of}
use Rattle.jri_memory.specs.Damages.{AreDamages}
use Rattle.jri_memory.proofs.Listing.{damages_begin, drop_on}
use Rattle.jri_memory.proofs.damages.list.Goals as goal

pub intervals-init : goal.intervals-init
intervals-init c =
    let next = c.args.from.next in
    let list = c.args.damages.now in (
      λ whole s is e begins. subst (λ (n : ℕ). AreDamages whole s next next n list) (sym c.requires.none) (damages_begin whole s next list),
      λ whole s is e begins. begins,
      search (rules, arith, c.requires.none),
      search rules,
      search (rules, arith, c.requires.none),
      search rules,
      search rules,
      search rules,
      search rules,
      search rules,
    )

pub intervals-preserved : goal.intervals-preserved
intervals-preserved c =
    let inv = c.intervals.invariant in
    let p = c.intervals.progress in
    let r = c.list_one-progress.result in
    let new = c.list_one-progress.new.damages in
    let call = c.list_one-progress.ensures in
    let found = c.in-Some.ensures in (
      λ whole s is e begins.
          subst (λ (n : ℕ). AreDamages whole s c.args.from.next n r.count new) (sym call.next)
          (call.listed whole s c.args.from.next e (found.is whole s is (c.intervals-all.ensures.value ∙ ap intervals_of (sym e)) (inv.1 whole s is e begins)) (inv.0 whole s is e begins)),
      λ whole s is e begins.
          let next = (found.is whole s is (c.intervals-all.ensures.value ∙ ap intervals_of (sym e)) (inv.1 whole s is e begins)).next in
          subst (λ (o : ℕ). IsNextAt whole s r.next (min o (length whole))) (sym call.at) (subst (λ (n : ℕ). IsNextAt whole s n (min c.in-Some.segment.next (length whole))) (sym call.next) next),
      search (rules, arith, call.one, call.next, inv.2),
      search (rules, arith, call.next),
      search (rules, arith, call.one, call.long, c.if-progress-damages.true),
      call.long ∙ inv.5,
      drop_on c.args.damages.now c.intervals.damages new p.count r.count call.more inv.6 call.after,
      (let later = found.order inv.8 in search (rules, arith, call.at, inv.7, later)),
      (let within = found.within in search (rules, arith, call.at, within)),
      search (rules, arith, call.capacity, inv.9),
    )
