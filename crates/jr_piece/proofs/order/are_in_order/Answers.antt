use Rattle.std.proofs.Common.{◌≡◌, ◌+◌, length, ap, subst, ◌∙◌, sym, arith, rules}
use Rattle.std.specs.Arc.{arc_value}
use Rattle.std.proofs.lemmas.Bool.{false≢true}
use Rattle.std.proofs.lemmas.List.{length-map}
use Rattle.jr_piece.specs.Strips.{IsStrip, IsStripAt, shared_strips}
use Rattle.jr_piece.proofs.InOrder.{all_of, ended, next_at, next_end, one_more, refused, shared_at}
use Rattle.jr_piece.proofs.order.are_in_order.Goals as goal

pub returns-then-not-has_mcus-clause-order : goal.returns-then-not-has_mcus-clause-order
returns-then-not-has_mcus-clause-order c =
    let strips = c.args.strips.now in
    let k = c.strips.k in
    let s = c.deref-in-strips.result.now in
    let at = shared_at strips k c.index-strips-k.result s c.strips-test.true c.index-strips-k.is c.deref-in-strips.ensures in (
      λ t. absurd (false≢true t),
      λ o.
          absurd (refused c.mcus_of_each-each.result c.args.front k c.strips.end (shared_strips strips) s c.mcus_of_each-each.ensures c.strips.invariant.end at
          (λ n. absurd (false≢true (sym c.if-not-has_mcus.true ∙ c.has_mcus.ensures.1 (n.0, n.1, n.2 ∙ sym c.min-mcus.ensures)))) o),
    )

pub strips-preserved : goal.strips-preserved
strips-preserved c =
    let strips = c.args.strips.now in
    let k = c.strips.k in
    let each = c.mcus_of_each-each.result in
    let s = c.deref-in-strips.result.now in
    let at = shared_at strips k c.index-strips-k.result s c.strips-test.true c.index-strips-k.is c.deref-in-strips.ensures in
    let has = c.has_mcus.ensures.0 c.if-not-has_mcus.false in
    record {
      end = ap (λ n. c.strips.end + n) c.min-mcus.ensures ∙ next_end each c.args.front k c.strips.end c.strips.invariant.end;
      at = one_more (IsStripAt each c.args.front) (shared_strips strips) k s at (next_at each c.args.front k c.strips.end s c.strips.invariant.end (has.0, has.1, has.2 ∙ c.min-mcus.ensures)) c.strips.invariant.at;
      are = one_more (λ _ t. IsStrip t) (shared_strips strips) k s at (subst IsStrip (c.deref.ensures ∙ sym c.deref-in-strips.ensures) c.assert_invariant.ensures) c.strips.invariant.are;
    }

pub returns-clause-order : goal.returns-clause-order
returns-clause-order c =
    let strips = c.args.strips.now in
    let all : length (shared_strips strips) ≡ c.strips.k = length-map strips arc_value ∙ omega (arith, c.strips-test.false, c.strips.auto.k-end) in
    search (rules, ended c.mcus_of_each-each.result c.args.front c.strips.k c.strips.end (shared_strips strips) c.mcus_of_each-each.ensures c.strips.invariant.end all c.strips.invariant.at)

pub returns-clause-strips : goal.returns-clause-strips
returns-clause-strips c t =
    let strips = c.args.strips.now in
    all_of IsStrip (shared_strips strips) c.strips.k (omega (arith, length-map strips arc_value, c.strips-test.false)) c.strips.invariant.are
