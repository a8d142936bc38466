use Rattle.std.proofs.Common.{◌≡◌, All, length, ap, sym, ◌∙◌, subst, refl, rules}
use Rattle.std.proofs.lemmas.List.Elements.{All-map}
use Rattle.std.proofs.lemmas.List.FromFn.{length-map-range_with_len}
use Rattle.jr_cells.specs.Values.{SeatValue, DeskValue, desk_of, fresh}
use Rattle.jr_cells.proofs.claims.Desk.open.Goals as goal

pub returns-clause-each : goal.returns-clause-each
returns-clause-each c =
    let d : DeskValue = desk_of c.in_ok-table.table.shared.table_id c.args.limit c.args.seats in
    let e = c.in_ok-list.ensures in
    (ap length e ∙ length-map-range_with_len (fresh d) 0 c.args.seats, subst (All (λ (s : SeatValue). s.desk ≡ d)) (sym e) (All-map (λ (s : SeatValue). s.desk ≡ d) (fresh d) _ (λ k x h. refl)))

pub deal-requires-clause-rest : goal.deal-requires-clause-rest
deal-requires-clause-rest c = search rules
