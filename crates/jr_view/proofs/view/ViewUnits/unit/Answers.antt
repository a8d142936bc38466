use Rattle.std.proofs.Common.{rules, ◌≡◌, ℕ, ◌+◌, ◌*◌, ◌<◌, List, length, slice_index, slice_index_or, ap, sym, subst, ◌∙◌, arith}
use Rattle.std.specs.Arc.{arc_value}
use Rattle.std.proofs.lemmas.List.{get_or_read}
use Rattle.std.proofs.lemmas.Nat.{mul-add-lt}
use Rattle.jr_head.specs.HeadValue.{HeadValue}
use Rattle.jr_head.specs.Geometry.{blocks_of, mcus_of}
use Rattle.jr_scan.specs.ScanValue.{ScanValue}
use Rattle.jr_piece.specs.Units.{grey_unit}
use Rattle.jr_view.specs.ViewValue.{ViewValue}
use Rattle.jr_view.specs.Views.{unit_at}
use Rattle.jr_view.proofs.view.ViewUnits.unit.Goals as goal

pub index-requires : goal.index-requires
index-requires c =
    let h = c.head.result.now in
    let n = length c.order.result.now in
    let head : h ≡ c.args.self.now.scan.head = search rules in
    let per : n ≡ blocks_of h = c.order.ensures.count in
    let space : length c.self.inside.units.items ≡ mcus_of h * blocks_of h = search (rules, head) in
    let all : mcus_of h * blocks_of h ≡ n * mcus_of h = omega (arith, ap (λ k. mcus_of h * k) per) in
    let place : c.args.mcu * n + c.args.block < n * mcus_of h = mul-add-lt c.args.mcu n c.args.block (mcus_of h) (search (rules, head)) (search (rules, head, per)) in
    search (rules, arith, place, space, all)

pub returns : goal.returns
returns c = λ at.
    let h = c.head.result.now in
    let n = length c.order.result.now in
    let own : h ≡ (arc_value c.self.inside.scan).head = c.head.ensures.value ∙ ap (λ (s : ScanValue). s.head) c.deref.ensures in
    let head : h ≡ c.args.self.now.scan.head = own ∙ ap (λ (v : ViewValue). v.scan.head) c.self.view_is in
    let per : n ≡ blocks_of h = c.order.ensures.count in
    let space : length c.self.inside.units.items ≡ mcus_of h * blocks_of h = search (rules, own) in
    let all : mcus_of h * blocks_of h ≡ n * mcus_of h = omega (arith, ap (λ k. mcus_of h * k) per) in
    let mcu = subst (λ (g : HeadValue). c.args.mcu < mcus_of g) (sym head) c.requires.mcu in
    let block = subst (λ (g : HeadValue). c.args.block < blocks_of g) (sym head) c.requires.block in
    let place : c.args.mcu * n + c.args.block < n * mcus_of h = mul-add-lt c.args.mcu n c.args.block (mcus_of h) mcu (omega (arith, block, per)) in
    let there : c.index.result.now ≡ slice_index_or c.self.inside.units.items (c.args.mcu * n + c.args.block) c.index.result.now = search rules in
    let read = get_or_read c.self.inside.units.items (c.args.mcu * n + c.args.block) c.index.result.now (omega (arith, place, space, all)) there grey_unit in
    ap (λ (u : List ℕ). slice_index u at) (read ∙ ap (λ (k : ℕ). slice_index_or c.self.inside.units.items (c.args.mcu * k + c.args.block) grey_unit) (per ∙ ap blocks_of own) ∙ ap (λ (v : ViewValue). unit_at v c.args.mcu c.args.block) c.self.view_is)
