use Rattle.std.proofs.Common.{rules, slice_index}
use Rattle.jr_paint.proofs.Raised.{doubles, double_at, length-doubles}
use Rattle.jr_paint.proofs.Green.{green_lanes}
use Rattle.jr_paint.proofs.lanes.raised_green.Goals as goal

pub returns : goal.returns
returns c =
    let b = c.args.cb in
    let r = c.args.cr in
    green_lanes (doubles b) (doubles r) c.green_of_pairs-lower.result c.green_of_pairs-upper.result (slice_index b) (slice_index r) (length-doubles b c.fits-cb.0 c.requires.second) c.green_of_pairs-lower.type_inv.1.0.1 c.requires.second c.requires.third
    (double_at b c.fits-cb.0 c.requires.second) (double_at r c.fits-cr.0 c.requires.third)
    (search (rules, c.green_of_pairs-lower.ensures)) (search (rules, c.green_of_pairs-upper.ensures))
