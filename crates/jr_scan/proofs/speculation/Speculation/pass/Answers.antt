use Rattle.std.proofs.Common.{rules, ◌≡◌, ◌<◌, ℤ, List, length, sym, subst, arith}
use Rattle.std.specs.List.{All}
use Rattle.jr_head.specs.Geometry.{IsValid}
use Rattle.jr_scan.specs.declared.place.Place.{Place}
use Rattle.jr_scan.specs.declared.place.RunEnd.TheVariants.{AllRead}
use Rattle.jr_scan.specs.Run.{IsRun, run_from}
use Rattle.jr_mcu.specs.Shift.{AreShifted, IsSmall}
use Rattle.jr_scan.specs.Speculation.{SpeculationValue, IsMcuOf, IsSpeculationOf, KeepsBlocks, blocks_at}
use Rattle.jr_scan.proofs.KeptMcus.{speculation_of, after_in_range, shifted_are, some_first, taken_over}
use Rattle.jr_scan.proofs.speculation.Speculation.pass.Goals as goal

pub sums-requires-clause-a : goal.sums-requires-clause-a
sums-requires-clause-a c =
    let i = c.args.interval.now in
    let g = speculation_of c.self.inside.number c.self.inside.mcus.items c.self.inside.blocks.items in
    let of = subst (IsSpeculationOf i) (sym c.self.view_is) c.requires.of in
    let mcu = c.index-mcu.result.now in
    let lt : c.args.k < length g.mcus = search (rules, arith) in
    let e = subst (IsMcuOf i g c.args.k) (sym c.index-mcu.ensures) (of.each c.args.k mcu lt) in
    let within = after_in_range i mcu e.zs e.is in
    search (rules, within)

pub returns-clause-run : goal.returns-clause-run
returns-clause-run c =
    let i = c.args.interval.now in
    let g = speculation_of c.self.inside.number c.self.inside.mcus.items c.self.inside.blocks.items in
    let of = subst (IsSpeculationOf i) (sym c.self.view_is) c.requires.of in
    let k = c.args.k in
    let p = c.args.place.now in
    let mcu = c.index-mcu.result.now in
    let to : Place = record { bit = mcu.to.bit; predictions = c.sums.result } in
    let lt : k < length g.mcus = search (rules, arith) in
    let e = subst (IsMcuOf i g k) (sym c.index-mcu.ensures) (of.each k mcu lt) in
    let from : mcu.from ≡ p.bit = search rules in
    let three : length p.predictions ≡ 3 = search rules in
    let small : All IsSmall p.predictions = search (rules, c.if-not-all_small.ensures) in
    let three' : length c.sums.result ≡ 3 = search rules in
    let s = shifted_are i.head p.predictions e.zs (some_first i mcu e.zs e.is) in
    (s.0, taken_over i mcu p to e.zs s.0 (subst IsValid c.head-head.ensures.value c.head-head.ensures.valid) e.is from three small (search rules) three' (search (rules, c.sums.ensures.sums)) s.1)

pub returns-clause-shifted : goal.returns-clause-shifted
returns-clause-shifted c =
    let i = c.args.interval.now in
    let g = speculation_of c.self.inside.number c.self.inside.mcus.items c.self.inside.blocks.items in
    let of = subst (IsSpeculationOf i) (sym c.self.view_is) c.requires.of in
    let k = c.args.k in
    let p = c.args.place.now in
    let mcu = c.index-mcu.result.now in
    let to : Place = record { bit = mcu.to.bit; predictions = c.sums.result } in
    let lt : k < length g.mcus = search (rules, arith) in
    let e = subst (IsMcuOf i g k) (sym c.index-mcu.ensures) (of.each k mcu lt) in
    let from : mcu.from ≡ p.bit = search rules in
    let three : length p.predictions ≡ 3 = search rules in
    let small : All IsSmall p.predictions = search (rules, c.if-not-all_small.ensures) in
    let three' : length c.sums.result ≡ 3 = search rules in
    let here : KeepsBlocks g → (zs : List (List ℤ)) → AreShifted i.head p.predictions (blocks_at i g k) zs → IsRun (run_from i p 1) zs to AllRead
    = λ keeps zs s. taken_over i mcu p to e.zs zs (subst IsValid c.head-head.ensures.value c.head-head.ensures.valid) e.is from three small (search rules) three' (search (rules, c.sums.ensures.sums)) (subst (λ (bs : List (List ℤ)). AreShifted i.head p.predictions bs zs) (e.kept keeps) s) in
    subst (λ (v : SpeculationValue). KeepsBlocks v → (zs : List (List ℤ)) → AreShifted i.head p.predictions (blocks_at i v k) zs → IsRun (run_from i p 1) zs to AllRead) c.self.view_is here
