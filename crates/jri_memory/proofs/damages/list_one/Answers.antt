use Rattle.jri_memory.proofs.Listing.{damage_by}
use Rattle.jri_memory.proofs.damages.list_one.Goals as goal

pub returns-clause-listed : goal.returns-clause-listed
returns-clause-listed c whole s first e final a =
    let i = c.args.before.next in
    let stated = c.examine-damaged.ensures in
    let damaged = damage_by s i c.args.segment.bytes final.span c.examine-damaged.result final.same (stated.damaged s e final.spelled) in
    c.store.ensures.listed whole s final.span first i (stated.sound s e final.spelled) damaged final.segment a
