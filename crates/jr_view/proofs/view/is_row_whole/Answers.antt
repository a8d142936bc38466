use Rattle.std.proofs.Common.{◌+◌, ◌*◌, ◌/◌, ◌<◌, ◌≤◌, length, sym, subst, arith}
use Rattle.jr_head.specs.Geometry.{mcus_across}
use Rattle.jr_view.proofs.Rows.{row_within}
use Rattle.jr_view.proofs.view.is_row_whole.Goals as goal

pub slice_bounds-iter-end : goal.slice_bounds-iter-end
slice_bounds-iter-end c =
    let h = c.args.head.now in
    let m = c.args.mcu in
    let columns = c.mcus_across-columns.ensures.value in
    let wide : 0 < mcus_across h = omega (arith, columns, c.mcus_across-columns.ensures.some) in
    let within : (m / mcus_across h + 1) * mcus_across h ≤ length c.args.seen.now = omega (arith, row_within h m wide c.requires.mcu, c.requires.seen) in
    subst (λ k. (m / k + 1) * k ≤ length c.args.seen.now) (sym columns) within
