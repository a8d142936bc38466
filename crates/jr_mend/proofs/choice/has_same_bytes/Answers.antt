use Rattle.std.proofs.Common.{◌∙◌, List, ℕ, slice_range, sym, ap, ◌≡◌, rules}
use Rattle.jr_mend.proofs.Choices.{same_version}
use Rattle.jr_mend.proofs.choice.has_same_bytes.Goals as goal

pub returns-then-has_same_data : goal.returns-then-has_same_data
returns-then-has_same_data c = λ stated i a b.
    let its = c.args.its in
    let span = c.args.span in
    let raw = ap (λ (f : List ℕ). slice_range f its.start its.end) (sym c.file.ensures) ∙ c.has_same_data.ensures.0 c.if-has_same_data.true ∙ ap (λ (f : List ℕ). slice_range f span.start span.end) c.file-2.ensures in
    let same = sym c.head.ensures.value ∙ c.is_same.ensures.0 stated ∙ c.head-then-has_same_data.ensures.value in
    let head : c.args.one.now.scan.head ≡ c.args.other.now.scan.head = search (rules, same) in
    same_version c.args.one.now c.args.other.now i its span raw head a b
