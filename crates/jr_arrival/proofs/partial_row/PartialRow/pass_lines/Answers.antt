use Rattle.std.proofs.lemmas.Bool.{cases_lt}
use Rattle.std.proofs.Common.{◌≡◌, inl, inr, ℕ, ◌+◌, ◌<◌, ◌≤◌, sym, ap, subst, ◌∙◌, arith, rules}
use Rattle.jr_head.specs.HeadValue.{HeadValue}
use Rattle.jr_head.specs.Geometry.{IsValid, mcus_across}
use Rattle.jr_rows.specs.Rows.{first_line, line_count}
use Rattle.jr_scan.specs.ScanValue.{ScanValue}
use Rattle.jr_arrival.specs.PartialRows.{PartialRowValue, IsPartialRow}
use Rattle.jr_arrival.proofs.Readings.{step_lines, step_row}
use Rattle.jr_arrival.proofs.partial_row.PartialRow.pass_lines.Goals as goal
use Rattle.jr_arrival.proofs.partial_row.PartialRow.pass_lines.Goals.{then-self-first-via-then-self-first, then-self-first-via-else-self-first+then-self-height}

-- n lines more are within the row
abbrev Ends : ScanValue → PartialRowValue → ℕ → Type 0
Ends s v n = v.lines + n ≤ first_line s.head v.row + line_count s.head v.row

pub returns-then-self-first-clause-partial_row : goal.returns-then-self-first-clause-partial_row
returns-then-self-first-clause-partial_row c =
    let s : ScanValue = c.args.scan.now.scan in
    let i = c.self.inside in
    let v : PartialRowValue = record { row = i.row; done = i.done; cursor = i.cursor; samples = i.samples; lines = i.lines; marked = i.marked } in
    let partial_row : IsPartialRow c.args.scan.now v = subst (IsPartialRow c.args.scan.now) (sym c.self.view_is) c.requires.partial_row in
    let whole : i.done ≡ mcus_across s.head = subst (λ (r : PartialRowValue). r.done ≡ mcus_across s.head) (sym c.self.view_is) c.requires.whole in
    let few : Ends s v c.args.count = subst (λ (r : PartialRowValue). Ends s r c.args.count) (sym c.self.view_is) c.requires.inside in
    let e : c.head-2.result.now ≡ s.head = c.head-2.ensures.value in
    let first : c.lines_of-first.result.0 ≡ first_line s.head i.row = c.lines_of-first.ensures.first ∙ ap (λ (h : HeadValue). first_line h i.row) e in
    let count : c.lines_of-first.result.1 ≡ line_count s.head i.row = c.lines_of-first.ensures.count ∙ ap (λ (h : HeadValue). line_count h i.row) e in
    step_lines c.args.scan.now v c.args.count partial_row whole few (λ lt. elim c.then-self-first.branch [
      | then-self-first-via-then-self-first w ↦ omega (arith, w.if-self-first, first, count)
      | then-self-first-via-else-self-first+then-self-height w ↦
          let high : w.height.result ≡ s.head.height = w.height.ensures.value ∙ ap (λ (h : HeadValue). h.height) w.head-else-self-first.ensures.value in
          absurd (omega (arith, lt, w.if-self-height, high))
    ])

pub returns-clause-partial_row : goal.returns-clause-partial_row
returns-clause-partial_row c =
    let s : ScanValue = c.args.scan.now.scan in
    let i = c.self.inside in
    let n = c.args.count in
    let v : PartialRowValue = record { row = i.row; done = i.done; cursor = i.cursor; samples = i.samples; lines = i.lines; marked = i.marked } in
    let partial_row : IsPartialRow c.args.scan.now v = subst (IsPartialRow c.args.scan.now) (sym c.self.view_is) c.requires.partial_row in
    let whole : i.done ≡ mcus_across s.head = subst (λ (r : PartialRowValue). r.done ≡ mcus_across s.head) (sym c.self.view_is) c.requires.whole in
    let few : Ends s v n = subst (λ (r : PartialRowValue). Ends s r n) (sym c.self.view_is) c.requires.inside in
    let e : c.head-2.result.now ≡ s.head = c.head-2.ensures.value in
    let valid : IsValid s.head = subst IsValid e c.head-2.ensures.valid in
    let first : c.lines_of-first.result.0 ≡ first_line s.head i.row = c.lines_of-first.ensures.first ∙ ap (λ (h : HeadValue). first_line h i.row) e in
    let count : c.lines_of-first.result.1 ≡ line_count s.head i.row = c.lines_of-first.ensures.count ∙ ap (λ (h : HeadValue). line_count h i.row) e in
    let end : i.lines + n ≡ first_line s.head i.row + line_count s.head i.row = omega (arith, few, first, count, c.if-self-first.false) in
    let high : c.height.result ≡ s.head.height = c.height.ensures.value ∙ ap (λ (h : HeadValue). h.height) c.head-else-self-first.ensures.value in
    let high_too : c.head-2.result.now.height ≡ s.head.height = ap (λ (h : HeadValue). h.height) e in
    let more : i.lines + n < s.head.height = elim (cases_lt (i.lines + n) s.head.height) [
      | inl l ↦ l
      | inr g ↦ absurd (c.if-self-height.false (omega (arith, g, high, high_too, c.lines_of-first.ensures.inside, first, count, end)))
    ] in
    let stated = step_row c.args.scan.now v partial_row valid.components.down whole (i.lines + n) end more in
    search (rules, stated)
