use Rattle.std.proofs.Common.{arith, min, ap, ◌∙◌, ◌≡◌, ℕ, ◌+◌, ◌-◌, ◌*◌, ◌<◌, ◌≤◌, ◌^◌}
use Rattle.std.proofs.Math.Nat.{add-mul}
use mir.Syntax.{w32}
use mir.Val.{Fits}
use Rattle.jr_head.specs.HeadValue.{HeadValue}
use Rattle.jr_head.specs.Geometry.{mcus_across, mcus_of}
use Rattle.jr_rows.specs.Rows.{coded_before, mcus_before}
use Rattle.jr_rows.proofs.PictureRows.{row_inside}
use Rattle.jr_rows.proofs.shape.coded_of_row.Goals as goal

-- the MCUs of a row, and those before it
row_fits : (row across own all most : ℕ) → row * own + own ≤ all → across ≡ own → most ≡ all → most < 2 ^ 32 → Fits w32 (row * across + across)
row_fits row across own all most inside e is fits = let times = ap (λ (n : ℕ). row * n) e in omega (arith, inside, e, times, is, fits)

start_fits : (row across own all most : ℕ) → row * own + own ≤ all → across ≡ own → most ≡ all → most < 2 ^ 32 → Fits w32 (row * across)
start_fits row across own all most inside e is fits = let times = ap (λ (n : ℕ). row * n) e in omega (arith, inside, times, is, fits)

-- the number of MCUs of a row that are decoded
module _ (row across own all before : ℕ) (e : across ≡ own) (is : all ≡ before) where
  pub start_of : min (row * across) all ≡ min (row * own) before
  start_of = ap (λ (n : ℕ). min (row * n) all) e ∙ ap (λ (n : ℕ). min (row * own) n) is

  pub end_of : min (row * across + across) all ≡ min ((row + 1) * own) before
  end_of =
      let times = ap (λ (n : ℕ). row * n) e in
      let next = add-mul row 1 own in
      omega (arith, times, e, next, is)

part_of : (start end low high : ℕ) → start ≡ low → end ≡ high → low ≤ high → low + (end - start) ≡ high
part_of start end low high at to le = omega (arith, at, to, le)

rises : (row own before : ℕ) → min (row * own) before ≤ min ((row + 1) * own) before
rises row own before = let next = add-mul row 1 own in omega (arith, next)

few_of : (row own before start end : ℕ) → start ≡ min (row * own) before → end ≡ min ((row + 1) * own) before → end - start ≤ own
few_of row own before start end at to = let next = add-mul row 1 own in omega (arith, at, to, next)

pub overflow_mul-start : goal.overflow_mul-start
overflow_mul-start c =
    let h = c.args.scan.now.head in
    let across = c.shape_of-across.ensures.across ∙ ap (λ (x : HeadValue). mcus_across x) c.head-2.ensures.value in
    let most = c.mcus-most.ensures.value ∙ ap (λ (x : HeadValue). mcus_of x) c.head.ensures.value in
    start_fits c.args.row _ _ _ _ (row_inside h c.args.row c.requires) across most c.mcus-most.type_inv

pub overflow_add-start : goal.overflow_add-start
overflow_add-start c =
    let h = c.args.scan.now.head in
    let across = c.shape_of-across.ensures.across ∙ ap (λ (x : HeadValue). mcus_across x) c.head-2.ensures.value in
    let most = c.mcus-most.ensures.value ∙ ap (λ (x : HeadValue). mcus_of x) c.head.ensures.value in
    row_fits c.args.row _ _ _ _ (row_inside h c.args.row c.requires) across most c.mcus-most.type_inv

pub returns-clause-value : goal.returns-clause-value
returns-clause-value c =
    let h = c.args.scan.now.head in
    let across = c.shape_of-across.ensures.across ∙ ap (λ (x : HeadValue). mcus_across x) c.head-2.ensures.value in
    let end = c.min.ensures ∙ end_of c.args.row c.shape_of-across.result.across (mcus_across h) c.mcus_of_first-all.result (mcus_before h c.args.n) across c.mcus_of_first-all.ensures.value in
    let start = c.min-2.ensures ∙ start_of c.args.row c.shape_of-across.result.across (mcus_across h) c.mcus_of_first-all.result (mcus_before h c.args.n) across c.mcus_of_first-all.ensures.value in
    ap (λ (n : ℕ). n - c.min-2.result) end ∙ ap (λ (n : ℕ). coded_before h c.args.n (c.args.row + 1) - n) start

pub returns-clause-moved : goal.returns-clause-moved
returns-clause-moved c =
    let h = c.args.scan.now.head in
    let across = c.shape_of-across.ensures.across ∙ ap (λ (x : HeadValue). mcus_across x) c.head-2.ensures.value in
    let end = c.min.ensures ∙ end_of c.args.row c.shape_of-across.result.across (mcus_across h) c.mcus_of_first-all.result (mcus_before h c.args.n) across c.mcus_of_first-all.ensures.value in
    let start = c.min-2.ensures ∙ start_of c.args.row c.shape_of-across.result.across (mcus_across h) c.mcus_of_first-all.result (mcus_before h c.args.n) across c.mcus_of_first-all.ensures.value in
    part_of c.min-2.result c.min.result _ _ start end (rises c.args.row (mcus_across h) (mcus_before h c.args.n))

pub returns-clause-few : goal.returns-clause-few
returns-clause-few c =
    let h = c.args.scan.now.head in
    let across = c.shape_of-across.ensures.across ∙ ap (λ (x : HeadValue). mcus_across x) c.head-2.ensures.value in
    let end = c.min.ensures ∙ end_of c.args.row c.shape_of-across.result.across (mcus_across h) c.mcus_of_first-all.result (mcus_before h c.args.n) across c.mcus_of_first-all.ensures.value in
    let start = c.min-2.ensures ∙ start_of c.args.row c.shape_of-across.result.across (mcus_across h) c.mcus_of_first-all.result (mcus_before h c.args.n) across c.mcus_of_first-all.ensures.value in
    few_of c.args.row (mcus_across h) (mcus_before h c.args.n) c.min-2.result c.min.result start end
