use Rattle.std.proofs.Common.{◌≡◌, ◌∙◌, ◌<◌, List, ◌++◌, length, map, take, drop, get_or, min, set, None, false, sym, ap, rules, arith}
use Rattle.std.proofs.lemmas.List.{drop_min, length-map, take-map, take_min}
use Rattle.jr_mend.specs.declared.choice.Choice.{Choice}
use Rattle.jri_memory.specs.declared.mend_report.ChoiceEntry.{ChoiceEntry}
use Rattle.jri_memory.specs.Mends.{choice_entry}
use Rattle.jri_memory.proofs.Mending.{entry_more}
use Rattle.jri_memory.proofs.mend_report.list_choices.Goals as goal

pub loop-k-preserved : goal.loop-k-preserved
loop-k-preserved c =
    let chosen = c.args.chosen.now in
    let old = c.args.choices.now in
    let k = c.loop-k.k in
    let d : Choice = record { copy = 0; front = None; differs = false } in
    let there : k < length chosen = search (rules, arith, c.loop-k-test.true) in
    let space : k < length old = search (rules, arith, c.loop-k-test.true) in
    ap (λ (e : ChoiceEntry). set c.loop-k.choices k e) c.of.ensures ∙ ap (λ (l : List ChoiceEntry). set l k (choice_entry (get_or chosen k d))) c.loop-k.invariant ∙ entry_more chosen old k d there space

pub returns : goal.returns
returns c =
    let chosen = c.args.chosen.now in
    let old = c.args.choices.now in
    let all : c.loop-k.k ≡ min (length chosen) (length old) = search (rules, arith, c.loop-k-test.false) in
    let turned : min (length chosen) (length old) ≡ min (length old) (length chosen) = omega arith in
    let first = ap (λ n. take n chosen) (all ∙ turned) ∙ take_min (length old) chosen in
    let left = ap (λ n. drop n old) all ∙ drop_min (length chosen) old in
    c.loop-k.invariant ∙ ap (λ (l : List Choice). map choice_entry l ++ drop c.loop-k.k old) first ∙ ap (λ (l : List ChoiceEntry). map choice_entry (take (length old) chosen) ++ l) (left ∙ ap (λ n. drop n old) (sym (length-map chosen choice_entry))) ∙ ap (λ (l : List ChoiceEntry). l ++ drop (length (map choice_entry chosen)) old) (sym (take-map choice_entry (length old) chosen))
