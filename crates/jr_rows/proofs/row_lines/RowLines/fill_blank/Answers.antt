use Rattle.std.proofs.Common.{◌≡◌, ℕ, ◌/◌, ◌%◌, ◌<◌, ◌≤◌, ◌∙◌, List, [], inl, inr, length, refl, ap, subst, sym, arith, rules, slice_index_or}
use Rattle.std.proofs.lemmas.Bool.{cases_lt}
use Rattle.std.proofs.lemmas.Nat.{mod_below}
use Rattle.std.proofs.Math.Nat.{div-lt_iff_lt-mul}
use Rattle.jr_head.specs.Geometry.{blocks_of, mcus_across}
use Rattle.jr_rows.specs.RowLinesValue.{RowLinesValue}
use Rattle.jr_rows.specs.Groups.{unit_in, units_in}
use Rattle.jr_rows.specs.RowLines.{HasLines}
use Rattle.jr_rows.proofs.GroupLists.{kept_before, units_at, written_back}
use Rattle.jr_rows.proofs.row_lines.RowLines.fill_blank.Goals as goal

pub returns-clause-space : goal.returns-clause-space
returns-clause-space c =
    let had = subst (HasLines c.args.head.now) (sym c.self.view_is) c.requires.space in
    let back = written_back c.self.inside.groups.len c.blank_mcus.new.groups c.self.inside.groups.items (search (rules, c.blank_mcus.auto.groups)) in
    record {
      space = record { across_is = refl; long = search (rules, ap (λ (g : List (List ℕ)). length g) back, had.space.long) };
      starts = had.starts;
      across = had.across;
    }

pub returns-clause-kept : goal.returns-clause-kept
returns-clause-kept c k lt inside =
    let h = c.args.head.now in
    let per = blocks_of h in
    let old = c.self.inside.groups.items in
    let some : 0 < per = search rules in
    let back = written_back c.self.inside.groups.len c.blank_mcus.new.groups c.self.inside.groups.items (search (rules, c.blank_mcus.auto.groups)) in
    let was : c.deref_mut.result.now ≡ old = c.deref_mut.ensures.value in
    let before : old ≡ c.args.self.now.groups = ap (λ (v : RowLinesValue). v.groups) c.self.view_is in
    ap (λ g. slice_index_or (units_in h g) k []) back
    ∙ kept_before h c.args.first c.blank_mcus.new.groups old some (λ m j lm all lj. c.blank_mcus.ensures.kept m j lm all lj ∙ ap (λ g. unit_in h g m j) was) k lt inside
    ∙ ap (λ g. slice_index_or (units_in h g) k []) before

pub returns-clause-blank : goal.returns-clause-blank
returns-clause-blank c k le inside =
    let h = c.args.head.now in
    let per = blocks_of h in
    let new = c.blank_mcus.new.groups in
    let back = written_back c.self.inside.groups.len c.blank_mcus.new.groups c.self.inside.groups.items (search (rules, c.blank_mcus.auto.groups)) in
    let some : 0 < per = search rules in
    let low : k % per < per = mod_below k per some in
    let mcu : k / per < mcus_across h = (div-lt_iff_lt-mul some).1 inside in
    let far : c.args.first ≤ k / per = elim (cases_lt (k / per) c.args.first) [
      | inl l ↦ absurd (omega (arith, le, (div-lt_iff_lt-mul some).0 l))
      | inr g ↦ g
    ] in
    ap (λ g. slice_index_or (units_in h g) k []) back
    ∙ units_at h new k inside
    ∙ c.blank_mcus.ensures.here (k / per) (k % per) far mcu low
