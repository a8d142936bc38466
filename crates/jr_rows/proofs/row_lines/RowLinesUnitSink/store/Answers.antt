use Rattle.std.proofs.Common.{◌≡◌, ◌+◌, ◌*◌, ◌<◌, ◌∙◌, List, ℕ, length, set, refl, ap, subst, sym, arith, rules}
use Rattle.jr_head.specs.Geometry.{blocks_of, mcus_across}
use Rattle.jr_rows.specs.RowLinesValue.{RowLinesValue}
use Rattle.jr_rows.specs.Groups.{unit_in, units_in}
use Rattle.jr_rows.specs.RowLines.{HasLines}
use Rattle.jr_rows.proofs.GroupLists.{mcu_inside, one_stored, units_long, written_back}
use Rattle.jr_rows.proofs.row_lines.RowLinesUnitSink.store.Goals as goal

pub store_unit-requires-clause-mcu : goal.store_unit-requires-clause-mcu
store_unit-requires-clause-mcu c = mcu_inside c.args.head.now c.args.self.now.groups c.args.mcu c.args.j c.requires.unit c.requires.inside

pub returns-clause-store : goal.returns-clause-store
returns-clause-store c =
    let h = c.args.head.now in
    let at = c.args.mcu * blocks_of h + c.args.j in
    let new = c.store_unit.new.groups in
    let old = c.self.inside.groups.items in
    let back = written_back c.self.inside.groups.len new old (search (rules, c.store_unit.auto.groups)) in
    let was : c.deref_mut.result.now ≡ old = c.deref_mut.ensures.value in
    let before : old ≡ c.args.self.now.groups = ap (λ (v : RowLinesValue). v.groups) c.self.view_is in
    let inside : at < mcus_across h * blocks_of h = omega (arith, c.requires.inside, units_long h c.args.self.now.groups) in
    let here : unit_in h new c.args.mcu c.args.j ≡ c.args.samples.now = search (rules, c.store_unit.ensures.here) in
    ap (units_in h) back
    ∙ one_stored h c.args.mcu c.args.j new old c.args.samples.now inside c.requires.unit here (λ n i ln li apart. c.store_unit.ensures.others n i ln li apart ∙ ap (λ g. unit_in h g n i) was)
    ∙ ap (λ g. set (units_in h g) at c.args.samples.now) before

pub returns-clause-space : goal.returns-clause-space
returns-clause-space c =
    let had = subst (HasLines c.args.head.now) (sym c.self.view_is) c.requires.space in
    let back = written_back c.self.inside.groups.len c.store_unit.new.groups c.self.inside.groups.items (search (rules, c.store_unit.auto.groups)) in
    record {
      space = record { across_is = refl; long = search (rules, ap (λ (g : List (List ℕ)). length g) back, had.space.long) };
      starts = had.starts;
      across = had.across;
    }
