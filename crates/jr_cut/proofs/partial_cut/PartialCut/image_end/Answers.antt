use Rattle.std.proofs.Common.{rules, ◌≡◌, ◌≢◌, ℕ, ◌+◌, ◌<◌, List, length, take, replicate, get_or, ap, subst, sym, ◌∙◌}
use Rattle.jr_base.specs.declared.marker.TheConstants.{PREFIX}
use Rattle.jr_cut.specs.declared.scan_end.ScanEnd.TheVariants.{EndOfImage}
use Rattle.jr_cut.specs.PartialCut.{PartialCutValue}
use Rattle.jr_cut.specs.ImageEnd.{IsImageEnd}
use Rattle.jr_cut.proofs.ImageEnds.{after_fill}
use Rattle.jr_cut.proofs.partial_cut.PartialCut.image_end.Goals as goal

pub returns : goal.returns
returns c = λ start bytes h.
    let v = c.args.self.now in
    let n = c.fill_count-fill.result in
    let ended : v.ended ≡ EndOfImage = search (rules, c.if-ne.false, c.ne.ensures) in
    let rest : c.rest-rest.result.now ≡ v.rest = c.rest-rest.ensures ∙ ap (λ (x : PartialCutValue). x.rest) c.self.view_is in
    let full : take n v.rest ≡ replicate n PREFIX = subst (λ (x : List ℕ). take n x ≡ replicate n PREFIX) rest c.fill_count-fill.ensures.full in
    let next : n < length v.rest → get_or v.rest n 0 ≢ PREFIX = subst (λ (x : List ℕ). n < length x → get_or x n 0 ≢ PREFIX) rest c.fill_count-fill.ensures.next in
    let at : v.at ≡ c.self.inside.segments.at = ap (λ (x : PartialCutValue). x.at) (sym c.self.view_is) in
    let is = subst (λ (k : ℕ). IsImageEnd v.intervals start bytes (k + n + 1)) at (after_fill start bytes v n h ended full next).is in
    search (rules, is)
