use Rattle.std.proofs.Common.{◌≡◌, ◌∷◌, ◌∙◌, Bool, List, ℤ, ap, arith, rules, set, subst, w16, w32}
use Rattle.std.specs.Prelude.{◌+ℤ◌}
use mir.Val.{SFits, of_z, to_z}
use Rattle.std.proofs.lemmas.Int.{ints, to_z-of_z}
use Rattle.std.proofs.lemmas.List.{take-set}
use Rattle.jr_code.proofs.CodeLemmas.{one_word}
use Rattle.jr_mcu.specs.Step.{HasNoBlock, TakesDifference}
use Rattle.jr_mcu.proofs.Predicted.{kept_fits, no_block_others, takes_block}
use Rattle.jr_mcu.proofs.block_sink.KeptBlockSink.take.Goals as goal

pub returns-in_err-first-clause-none : goal.returns-in_err-first-clause-none
returns-in_err-first-clause-none c =
    let p = c.args.prediction in
    let same = to_z-of_z w32 p (kept_fits p c.requires.in_range) in
    let here = subst (λ (b : List Bool). HasNoBlock c.args.dc.now c.args.ac.now (to_z w32 (of_z w32 p)) b) c.fork-left.ensures (c.in_err-first.ensures.none c.args.ac.now) in
    rw c.from_residual.ensures (subst (λ (q : ℤ). HasNoBlock c.args.dc.now c.args.ac.now q c.args.bits.now) same here)

pub returns-in_err-read_others-clause-none : goal.returns-in_err-read_others-clause-none
returns-in_err-read_others-clause-none c =
    let t = c.in_ok-first.ensures.some in
    let there = subst (λ (b : List Bool). TakesDifference c.args.dc.now t.0 b c.read_first.new.bits) c.fork-left.ensures t.1 in
    rw c.from_residual-in_err-read_others.ensures (no_block_others _ _ (one_word _) c.args.prediction t.0 _ _ there c.in_err-read_others.ensures.none)

pub returns-clause-some : goal.returns-clause-some
returns-clause-some c =
    let p = c.args.prediction in
    let first = c.in_ok-first.first in
    let fits : SFits w16 first = search rules in
    let t = c.in_ok-first.ensures.some in
    let is : first ≡ p +ℤ t.0 = t.2 ∙ ap (λ (q : ℤ). q +ℤ t.0) (to_z-of_z w32 p (kept_fits p c.requires.in_range)) in
    let o = c.in_ok-read_others.ensures.some in
    let there = subst (λ (b : List Bool). TakesDifference c.args.dc.now t.0 b c.read_first.new.bits) c.fork-left.ensures t.1 in
    let block = takes_block c.args.dc.now c.args.ac.now p t.0 first o.0 _ _ _ there is (omega (arith, ints, fits), omega (arith, ints, fits)) o.2 in
    (first ∷ o.0, search (rules, block), search (rules, c.from.ensures), λ _. ap (set c.args.blocks.now c.args.k) (o.1 ∙ ap (λ (q : ℤ). q ∷ o.0) (to_z-of_z w16 first fits)))

pub returns-in_err-read_others-clause-front : goal.returns-in_err-read_others-clause-front
returns-in_err-read_others-clause-front c = λ _. search (rules, take-set c.args.blocks.now c.args.k c.read_others.new.block)

pub returns-clause-front : goal.returns-clause-front
returns-clause-front c = λ _. search (rules, take-set c.args.blocks.now c.args.k c.read_others.new.block)
