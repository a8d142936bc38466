use Rattle.std.proofs.Common.{◌≡◌, ℕ, None, sym, ap, subst, ◌∙◌}
use Rattle.jr_arrival.specs.PartialFile.{PartialFileValue, HoldsBytes, IsPartialFile, given_of}
use Rattle.jr_arrival.specs.Settled.{ReturnsNext, WantsMore}
use Rattle.jr_arrival.proofs.Arrivals.{look_given}
use Rattle.jr_arrival.proofs.partial_file.PartialFile.next_lines.Goals as goal

pub returns-in-Ok-clause-given : goal.returns-in-Ok-clause-given
returns-in-Ok-clause-given c bytes a =
    let i = c.self.inside in
    let after : IsPartialFile c.begin.new.self bytes = c.begin.ensures.partial_file bytes a in
    let b : IsPartialFile (record { bytes = i.head; partial_image = i.partial_image; count = i.count }) bytes = subst (λ (v : PartialFileValue). IsPartialFile v bytes) (sym c.self.view_is) after in
    let held : HoldsBytes i.head i.partial_image bytes = b.holds (c.in-Ok.ensures.small bytes a) in
    let lines : given_of i.partial_image ≡ given_of c.args.self.now.partial_image = ap (λ (v : PartialFileValue). given_of v.partial_image) c.self.view_is ∙ c.begin.ensures.lines in
    let wants : i.partial_image ≡ None → WantsMore bytes = λ e. c.in-Ok.ensures.wanted (sym (ap (λ (v : PartialFileValue). v.partial_image) c.self.view_is) ∙ e) bytes a in
    subst (λ (k : ℕ). ReturnsNext bytes k c.give.result c.give.new.pixels) lines (look_given i.head bytes i.partial_image c.give.result c.give.new.pixels held c.give.ensures.none wants c.give.ensures.given)
