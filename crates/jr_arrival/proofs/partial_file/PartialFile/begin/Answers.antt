use Rattle.std.proofs.Common.{◌≡◌, false, sym, ap, subst, ◌∙◌, rules}
use Rattle.std.specs.Option.{is_some}
use Rattle.jr_arrival.specs.PartialFile.{PartialFileValue, HasBegun, IsPartialFile, given_of}
use Rattle.jr_arrival.proofs.Arrivals.{none_given, none_kept}
use Rattle.jr_arrival.proofs.partial_file.PartialFile.begin.Goals as goal

pub returns-clause-partial_file : goal.returns-clause-partial_file
returns-clause-partial_file c bytes a =
    let begun : HasBegun c.in-Some.partial_image c.self.inside.head × (c.in-Some.partial_image.row.lines ≡ 0) = search rules in
    let b : IsPartialFile (record { bytes = c.self.inside.head; partial_image = c.self.inside.partial_image; count = c.self.inside.count }) bytes = subst (λ (v : PartialFileValue). IsPartialFile v bytes) (sym c.self.view_is) a in
    let none : is_some c.self.inside.partial_image ≡ false = sym c.is_some.ensures ∙ c.if-is_some.false in
    record {
      count = b.count;
      holds = λ small. subst (HasBegun c.in-Some.partial_image) (none_kept c.self.inside.head c.self.inside.partial_image bytes none (b.holds small)) begun.0;
    }

pub returns-clause-lines : goal.returns-clause-lines
returns-clause-lines c =
    let begun : HasBegun c.in-Some.partial_image c.self.inside.head × (c.in-Some.partial_image.row.lines ≡ 0) = search rules in
    let none : is_some c.self.inside.partial_image ≡ false = sym c.is_some.ensures ∙ c.if-is_some.false in
    begun.1 ∙ sym (none_given c.self.inside.partial_image none) ∙ ap (λ (v : PartialFileValue). given_of v.partial_image) c.self.view_is
