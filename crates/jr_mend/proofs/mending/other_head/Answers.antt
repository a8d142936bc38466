use Rattle.std.proofs.Common.{◌∙◌, sym, ap}
use Rattle.std.proofs.lemmas.List.{get_or_default}
use Rattle.jr_head.specs.HeadValue.{HeadValue}
use Rattle.jr_mend.specs.Copies.{CopyValue}
use Rattle.jr_mend.proofs.mending.other_head.Goals as goal

pub returns-then-not-is_same-clause-other : goal.returns-then-not-is_same-clause-other
returns-then-not-is_same-clause-other c =
    let copies = c.args.copies.now in
    let k = c.loop-k.k in
    let lt = c.loop-k-test.true in
    let of : CopyValue → HeadValue = λ d. d.scan.head in
    record {
      there = lt;
      other = λ d e.
          let one = c.head.ensures.value ∙ ap of (c.index-copies-k.is ∙ get_or_default copies k c.index-copies-k.result d lt) in
          let first = c.head-first.ensures.value ∙ ap of (c.index-copies-0.is ∙ get_or_default copies 0 c.index-copies-0.result d c.requires.some) in
          let stated = c.is_same.ensures.1 (one ∙ e ∙ sym first) in
          let not = c.if-not-is_same.true in
          cc;
    }
