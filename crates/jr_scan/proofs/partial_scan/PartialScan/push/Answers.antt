use Rattle.std.proofs.Common.{rules, ℕ, List, ◌++◌, ◌∙◌, sym, subst}
use Rattle.std.proofs.lemmas.Result.{IfOk-weaker}
use Rattle.jr_cut.specs.PartialCut.{HasCut}
use Rattle.jr_scan.specs.PartialScan.{PartialScanValue, HasCome, partial_scan}
use Rattle.jr_scan.proofs.Scans.{come_more}
use Rattle.jr_scan.proofs.partial_scan.PartialScan.push.Goals as goal

pub returns-clause-pushed : goal.returns-clause-pushed
returns-clause-pushed c =
    let h = c.self.inside.head in
    let old = c.self.inside.cut in
    let new = c.push.new.self in
    let more = c.args.more.now in
    IfOk-weaker c.push.result (λ _. (start : ℕ) (bytes : List ℕ) → HasCut start bytes old → HasCut start (bytes ++ more) new) (λ _. (bytes : List ℕ) → HasCome c.args.self.now bytes → HasCome (partial_scan h new) (bytes ++ more))
    (λ _ on bytes come. come_more h old new bytes more (c.push.ensures.intervals ∙ c.self.invariant.0) (search (rules, c.push.ensures.few)) on (subst (λ (g : PartialScanValue). HasCome g bytes) (sym c.self.view_is) come)) (search (rules, c.push.ensures.pushed))
