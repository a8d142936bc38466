use Rattle.std.proofs.Common.{◌<◌, ◌++◌, length, sym, subst, rules}
use Rattle.std.specs.Prelude.{All}
use Rattle.jr_arrival.specs.PartialFile.{IsPartialFile}
use Rattle.jr_view.specs.PartialViews.{PartialViewValue, IsSeen}
use Rattle.jr_view.proofs.PartialViews.{all_bytes, seen_more}
use Rattle.jr_view.proofs.partial_view.PartialView.push.Goals as goal

pub invariant_of-self-2 : goal.invariant_of-self-2
invariant_of-self-2 c =
    let i = c.self.inside in
    let more = c.args.more.now in
    let each : All (λ b. b < 256) more = all_bytes more (λ k. (c.type_inv.more k).fits) in
    let was = c.self.invariant in
    let come : IsPartialFile c.push.new.self (was.0 ++ more) = search (rules, c.in_ok-push.ensures.pushed was.0 was.1.partial_file) in
    (was.0 ++ more, seen_more i.partial_file c.push.new.self i.pixels.items (length i.row.items) was.0 more each c.push.ensures.lines come was.1)

pub returns-clause-seen : goal.returns-clause-seen
returns-clause-seen c bytes seen =
    let i = c.self.inside in
    let more = c.args.more.now in
    let each : All (λ b. b < 256) more = all_bytes more (λ k. (c.type_inv.more k).fits) in
    let before = subst (λ (v : PartialViewValue). IsSeen v bytes) (sym c.self.view_is) seen in
    let come : IsPartialFile c.push.new.self (bytes ++ more) = search (rules, c.in_ok-push.ensures.pushed bytes before.partial_file) in
    seen_more i.partial_file c.push.new.self i.pixels.items (length i.row.items) bytes more each c.push.ensures.lines come before
