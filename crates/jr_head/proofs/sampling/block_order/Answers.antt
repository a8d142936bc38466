use Rattle.std.proofs.Common.{rules, ◌≡◌, ◌++◌, ◌∙◌, ap, sym, take, replicate, get_or, arith, List, ℕ}
use Rattle.std.proofs.lemmas.List.{get_or_default}
use Rattle.jr_head.specs.Geometry.{no_component, order_from, units_of}
use Rattle.jr_head.proofs.SamplingLaws.{order_more}
use Rattle.jr_head.proofs.sampling.block_order.Goals as goal

pub loop-c-preserved : goal.loop-c-preserved
loop-c-preserved c =
    let cs = c.args.components.now in
    let i = c.loop-c.c-index in
    let same : c.c-item.result ≡ get_or cs i no_component = c.c-item.is ∙ get_or_default cs i c.c-item.result no_component c.loop-c-test.true in
    let pushed : c.push_units.new.order.items ≡ c.loop-c.order.items ++ replicate (units_of c.c-item.result) c.loop-c.number = search (rules, c.in_ok-push_units.ensures) in
    record {
      at = omega arith;
      so_far =
          pushed
          ∙ ap (λ (v : List ℕ). v ++ replicate (units_of c.c-item.result) c.loop-c.number) c.loop-c.invariant.so_far
          ∙ ap (λ n. order_from 0 (take i cs) ++ replicate (units_of c.c-item.result) n) c.loop-c.invariant.at
          ∙ ap (λ k. order_from 0 (take i cs) ++ replicate (units_of k) i) same
          ∙ sym (order_more cs i c.loop-c-test.true);
    }
