use Rattle.std.proofs.Common.{◌≡◌, ◌∙◌, ◌<◌, ◌+◌, ◌-◌, List, [], ◌∷◌, ◌++◌, length, map, take, drop, get_or, inr, sym, ap, subst, rules, arith}
use Rattle.std.specs.List.{All}
use Rattle.std.proofs.lemmas.List.Elements.{All-push}
use Rattle.std.proofs.lemmas.List.Sums.{sum_by_more, sum_by_more_le}
use Rattle.jr_damage.specs.Verdicts.{IsFileScan}
use Rattle.jr_mend.specs.Copies.{CopyValue}
use Rattle.jri_memory.specs.Mends.{files_of}
use Rattle.jri_memory.proofs.Mending.{file_is, files_long, read_more, rest}
use Rattle.jri_memory.proofs.mend.read_copies.Goals as goal

pub returns-then-files-at-clause-failure : goal.returns-then-files-at-clause-failure
returns-then-files-at-clause-failure c =
    let inv = c.loop-k.invariant in
    inr (inr (omega (arith, sum_by_more_le (λ n. n) c.args.sizes.now c.loop-k.k 0 c.loop-k-test.true, inv.4, inv.3, c.if-files-at.true)))

pub loop-k-preserved : goal.loop-k-preserved
loop-k-preserved c =
    let sizes = c.args.sizes.now in
    let files = c.args.files.now in
    let copies = c.loop-k.copies.items in
    let k = c.loop-k.k in
    let at = c.loop-k.at in
    let size = get_or sizes k 0 in
    let inv = c.loop-k.invariant in
    let lt = c.loop-k-test.true in
    let copy = c.in_ok-copy.copy in
    let items : c.push.new.self.items ≡ copies ++ copy ∷ [] = search (rules, c.push.ensures.items) in
    let size_is : at + size - at ≡ size = omega arith in
    let is : copy.file ≡ take size (drop at files) = c.in_ok-copy.ensures.file ∙ ap (λ n. take n (drop at files)) size_is in
    let after = rest sizes files copies k at lt inv.2 inv.0 in (
      subst (λ (l : List CopyValue). map (λ (d : CopyValue). d.file) l ++ after ≡ files_of sizes files) (sym items) (read_more sizes files copies k at lt inv.2 inv.0 copy is),
      subst (All (λ (d : CopyValue). IsFileScan d.file d.scan)) (sym items) (All-push (λ (d : CopyValue). IsFileScan d.file d.scan) copies copy inv.1 c.in_ok-copy.ensures.scan),
      search (rules, arith, items, inv.2),
      omega (arith, c.if-files-at.false, inv.3),
      sym (sum_by_more (λ n. n) sizes k 0 lt ∙ ap (λ n. n + size) (sym inv.4)),
    )

pub returns-in_err-copy-clause-failure : goal.returns-in_err-copy-clause-failure
returns-in_err-copy-clause-failure c =
    let sizes = c.args.sizes.now in
    let files = c.args.files.now in
    let k = c.loop-k.k in
    let at = c.loop-k.at in
    let size = get_or sizes k 0 in
    let inv = c.loop-k.invariant in
    let lt = c.loop-k-test.true in
    let size_is : at + size - at ≡ size = omega arith in
    let there : k < length (files_of sizes files) = omega (arith, lt, files_long sizes files) in
    let is = file_is sizes files c.loop-k.copies.items k at lt inv.2 inv.0 ∙ ap (λ n. take n (drop at files)) (sym size_is) in
    let fact = c.in_err-copy.ensures.failure sizes files there is in
    search (rules, fact)
