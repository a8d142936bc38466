use Rattle.std.proofs.Common.{◌≡◌, ℕ, List, [], ◌∷◌, ◌++◌, Option, None, length, map, replicate, sym, ap, ◌∙◌, subst, arith}
use Rattle.std.proofs.lemmas.Grind.{replicate_next}
use Rattle.std.specs.declared.sync.Arc.{Arc}
use Rattle.std.specs.declared.alloc.Global.{Global}
use Rattle.std.specs.Arc.{arc_value}
use Rattle.jr_scan.specs.ScanValue.{ScanValue}
use Rattle.jr_piece.specs.PieceValue.{PieceValue}
use Rattle.jr_wall.specs.Kept.{shared_piece, KeepsCounts}
use Rattle.jr_wall.proofs.Pieces.{kept_new, none_held}
use Rattle.jr_wall.proofs.board.Board.new.Goals as goal

pub invariant_of-result : goal.invariant_of-result
invariant_of-result c =
    let n : c.loop.counter ≡ length (arc_value c.args.scan).intervals = omega (arith, c.intervals-n.ensures.value, ap (λ (s : ScanValue). length s.intervals) c.deref.ensures) in
    let kept = kept_new (arc_value c.args.scan) c.loop.counter n (omega (arith, c.intervals-n.type_inv)) in
    subst (λ (ps : List (Option (Arc PieceValue Global))). KeepsCounts (record { scan = arc_value c.args.scan; pieces = map shared_piece ps }) 0 0) (sym c.loop.invariant) kept

pub returns-clause-blank : goal.returns-clause-blank
returns-clause-blank c =
    let n : c.loop.counter ≡ length (arc_value c.args.scan).intervals = omega (arith, c.intervals-n.ensures.value, ap (λ (s : ScanValue). length s.intervals) c.deref.ensures) in
    ap (map shared_piece) c.loop.invariant ∙ none_held c.loop.counter ∙ ap (λ (m : ℕ). replicate {A = Option PieceValue} m None) n

pub loop-preserved : goal.loop-preserved
loop-preserved c = c.in_ok-push.ensures.items ∙ ap (λ (l : List (Option (Arc PieceValue Global))). l ++ None ∷ []) c.loop.invariant ∙ sym (replicate_next c.loop.counter None)

pub loop-init : goal.loop-init
loop-init c = c.in_ok-pieces.ensures.items
