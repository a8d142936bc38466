use Rattle.std.proofs.Common.{arith, ap, ◌∙◌, ◌≡◌, ℕ, ◌*◌}
use Rattle.jr_head.specs.HeadValue.{HeadValue}
use Rattle.jr_head.specs.Geometry.{mcus_across, mcus_of}
use Rattle.jr_rows.proofs.PictureRows.{row_inside}
use Rattle.jr_rows.proofs.announcing.announce.Goals as goal

pub overflow_mul-row : goal.overflow_mul-row
overflow_mul-row g c =
    let inside = row_inside c.args.scan.now.head c.args.row c.requires in
    let head = c.head-head.ensures.value in
    let across : c.shape_of-across.result.across ≡ mcus_across c.args.scan.now.head = c.shape_of-across.ensures.across ∙ ap (λ (h : HeadValue). mcus_across h) head in
    let most : c.mcus-all.result ≡ mcus_of c.args.scan.now.head = c.mcus-all.ensures.value ∙ ap (λ (h : HeadValue). mcus_of h) head in
    let times = ap (λ (n : ℕ). c.args.row * n) across in
    omega (arith, inside, times, most, c.mcus-all.ensures.few)

pub overflow_mul-row-2 : goal.overflow_mul-row-2
overflow_mul-row-2 g c =
    let inside = row_inside c.args.scan.now.head c.args.row c.requires in
    let head = c.head-head.ensures.value in
    let across : c.shape_of-across.result.across ≡ mcus_across c.args.scan.now.head = c.shape_of-across.ensures.across ∙ ap (λ (h : HeadValue). mcus_across h) head in
    let most : c.mcus-all.result ≡ mcus_of c.args.scan.now.head = c.mcus-all.ensures.value ∙ ap (λ (h : HeadValue). mcus_of h) head in
    let times = ap (λ (n : ℕ). c.args.row * n) across in
    omega (arith, inside, times, most, c.mcus-all.ensures.few)

pub overflow_add-row : goal.overflow_add-row
overflow_add-row g c =
    let inside = row_inside c.args.scan.now.head c.args.row c.requires in
    let head = c.head-head.ensures.value in
    let across : c.shape_of-across.result.across ≡ mcus_across c.args.scan.now.head = c.shape_of-across.ensures.across ∙ ap (λ (h : HeadValue). mcus_across h) head in
    let most : c.mcus-all.result ≡ mcus_of c.args.scan.now.head = c.mcus-all.ensures.value ∙ ap (λ (h : HeadValue). mcus_of h) head in
    let times = ap (λ (n : ℕ). c.args.row * n) across in
    omega (arith, inside, times, across, most, c.mcus-all.ensures.few)
