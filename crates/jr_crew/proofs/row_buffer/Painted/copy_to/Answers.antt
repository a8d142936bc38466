use Rattle.std.proofs.Common.{sym, subst, ◌≡◌, ℕ, List, length, take}
use Rattle.jr_crew.proofs.RowBuffers.{first_bytes}
use Rattle.jr_crew.proofs.row_buffer.Painted.copy_to.Goals as goal

pub slice_bounds-copy_from_slice-end : goal.slice_bounds-copy_from_slice-end
slice_bounds-copy_from_slice-end g c =
    subst (λ (ps : List ℕ). length c.args.pixels.now ≡ length (take (length c.args.pixels.now) ps)) (sym c.deref.ensures.value)
    (first_bytes g.S.OneScan.part c.args.part.now c.args.self.now.row (length c.args.pixels.now) c.self.inside.pixels.items c.requires.part c.self.invariant.1 c.requires.space)

pub copy_from_slice-requires : goal.copy_from_slice-requires
copy_from_slice-requires g c =
    subst (λ (ps : List ℕ). length c.args.pixels.now ≡ length (take (length c.args.pixels.now) ps)) (sym c.deref.ensures.value)
    (first_bytes g.S.OneScan.part c.args.part.now c.args.self.now.row (length c.args.pixels.now) c.self.inside.pixels.items c.requires.part c.self.invariant.1 c.requires.space)
