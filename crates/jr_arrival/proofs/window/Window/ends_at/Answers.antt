use Rattle.std.proofs.Common.{◌≡◌, inl, inr, ℕ, List, replicate, take, drop, length-drop, sym, subst, ◌∙◌, arith, rules}
use Rattle.std.proofs.lemmas.List.{take_all}
use Rattle.jr_base.specs.declared.marker.TheConstants.{PREFIX}
use Rattle.jr_cut.proofs.Cuts.{rest_is}
use Rattle.jr_cut.proofs.Stops.{stop_whole}
use Rattle.jr_arrival.proofs.window.Window.ends_at.Goals as goal

pub returns-then-end-fill-clause-ends : goal.returns-then-end-fill-clause-ends
returns-then-end-fill-clause-ends c stated more all =
    stop_whole c.args.self.now.file.bytes.now more c.args.end c.fill_count-fill.result c.requires.within c.requires.stop c.fill_count-fill.ensures.next (inr (search (rules, arith)))

pub returns-clause-ends : goal.returns-clause-ends
returns-clause-ends c stated more all =
    stop_whole c.args.self.now.file.bytes.now more c.args.end c.fill_count-fill.result c.requires.within c.requires.stop c.fill_count-fill.ensures.next (inl (all (search (rules, stated))))

pub returns-clause-fill : goal.returns-clause-fill
returns-clause-fill c stated =
    let bytes = c.args.self.now.file.bytes.now in
    let end = c.args.end in
    let fill = c.fill_count-fill.result in
    let full : take fill (drop end bytes) ≡ replicate fill PREFIX = subst (λ (x : List ℕ). take fill x ≡ replicate fill PREFIX) (rest_is bytes end) c.fill_count-fill.ensures.full in
    (fill, sym (take_all fill (drop end bytes) (omega (arith, length-drop end bytes, c.if-end-fill.false))) ∙ full)
