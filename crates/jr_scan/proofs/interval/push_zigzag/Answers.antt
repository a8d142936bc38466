use Rattle.std.proofs.Common.{ℤ, List, [], ◌∷◌, ◌++◌, take, append_assoc, sym, ap, ◌∙◌}
use Rattle.std.proofs.lemmas.List.{take_more, take_all}
use Rattle.jr_scan.proofs.interval.push_zigzag.Goals as goal

pub loop-k-preserved : goal.loop-k-preserved
loop-k-preserved c =
    let more = c.args.more.now in
    let k = c.loop-k.k in
    let z = c.to_zigzag.result in
    c.in_ok-push.ensures.items
    ∙ ap (λ (bs : List (List ℤ)). bs ++ z ∷ []) c.loop-k.invariant
    ∙ append_assoc c.args.blocks.now.items (take k more) (z ∷ [])
    ∙ ap (λ (bs : List (List ℤ)). c.args.blocks.now.items ++ bs) (ap (λ (b : List ℤ). take k more ++ b ∷ []) (c.to_zigzag.ensures ∙ c.index-more-k.is) ∙ sym (take_more more k c.index-more-k.result c.loop-k-test.true))

pub returns : goal.returns
returns c = c.loop-k.invariant ∙ ap (λ (bs : List (List ℤ)). c.args.blocks.now.items ++ bs) (take_all c.loop-k.k c.args.more.now c.loop-k-test.false)
