use Rattle.std.proofs.Common.{◌≡◌, ℕ, ◌*◌, ◌<◌, min, slice_get}
use Rattle.std.specs.Prelude.{Some}
use Rattle.jr_piece.specs.StripValue.{StripValue}
use Rattle.jr_piece.specs.Strips.{IsStrip, IsStripAt, shared_strips}
use Rattle.jr_piece.proofs.order.are_in_order.Given as goal

abbrev pub invariant-strips : goal.invariant-strips
invariant-strips l = record {
  end : l.end ≡ min l.front (l.k * l.each);
  at : (j : ℕ) (s : StripValue) → j < l.k → slice_get (shared_strips l.strips) j ≡ Some s → IsStripAt l.each l.front j s;
  are : (j : ℕ) (s : StripValue) → j < l.k → slice_get (shared_strips l.strips) j ≡ Some s → IsStrip s;
}
