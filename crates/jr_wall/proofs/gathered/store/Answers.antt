use Rattle.std.proofs.Common.{◌+◌, ℕ, None, Option, Some, length, sym, ap, subst, ◌∙◌}
use Rattle.std.specs.Global.{Vec}
use Rattle.std.specs.List.{All}
use Rattle.std.specs.declared.alloc.Global.{Global}
use Rattle.std.specs.declared.sync.Arc.{Arc}
use Rattle.std.proofs.lemmas.List.{length_push}
use Rattle.std.proofs.lemmas.List.Elements.{All-push, All-set}
use Rattle.jr_piece.specs.StripValue.{StripValue}
use Rattle.jr_wall.specs.Sharing.{IsEmptyOrOf}
use Rattle.jr_wall.proofs.gathered.store.Goals as goal
use Rattle.jr_wall.proofs.gathered.store.Goals.{else-loop-test, then-loop-test+in_ok-push+else-counter-place}

pub loop-preserved : goal.loop-preserved
loop-preserved c = (
  ap length c.in_ok-push.ensures.items ∙ length_push c.loop.places.items None ∙ ap (λ (k : ℕ). k + 1) c.loop.invariant.0,
  λ i all. subst (All (IsEmptyOrOf i)) (sym c.in_ok-push.ensures.items) (All-push (IsEmptyOrOf i) c.loop.places.items None (c.loop.invariant.1 i all) tt),
)

pub returns : goal.returns
returns c i own all =
    let before : All (IsEmptyOrOf i) c.loop-test.places.items = elim c.loop-test.branch [
      | else-loop-test w ↦ subst (λ (v : Vec (Option (Arc StripValue Global))). All (IsEmptyOrOf i) v.items) (sym w.places-is) (c.loop.invariant.1 i all)
      | then-loop-test+in_ok-push+else-counter-place w ↦
          let more = subst (All (IsEmptyOrOf i)) (sym w.in_ok-push.ensures.items) (All-push (IsEmptyOrOf i) c.loop.places.items None (c.loop.invariant.1 i all) tt) in
          subst (λ (v : Vec (Option (Arc StripValue Global))). All (IsEmptyOrOf i) v.items) (sym w.places-is) more
    ] in
    All-set (IsEmptyOrOf i) c.loop-test.places.items c.args.place (Some c.args.strip) own before
