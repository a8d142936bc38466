use Rattle.std.proofs.Common.{◌≡◌, ℕ, refl, ◌+◌, ◌-◌, ◌*◌, ◌<◌, ◌∙◌, List, [], ◌∷◌, ◌++◌, length, inl, inr, ap, sym, subst, arith, rules, slice_index_or}
use Rattle.std.proofs.lemmas.Bool.{cases_lt}
use Rattle.std.proofs.lemmas.List.{get_or_append_left, get_or-append_right}
use Rattle.jr_head.specs.HeadValue.{HeadValue}
use Rattle.jr_rows.specs.declared.row_lines.UnitStart.{UnitStart}
use Rattle.jr_head.specs.Geometry.{blocks_of}
use Rattle.jr_rows.specs.Groups.{all_lines, groups_across}
use Rattle.jr_rows.specs.RowLines.{IsStartOf}
use Rattle.jr_rows.proofs.row_lines.RowLines.open.Goals as goal

-- one more start is appended
one_more : (h : HeadValue) (ps : List UnitStart) (p : UnitStart) (n : ℕ) → length ps ≡ n → ((j : ℕ) (d : UnitStart) → j < n → IsStartOf h j (slice_index_or ps j d)) → IsStartOf h n p
    → (j : ℕ) (d : UnitStart) → j < n + 1 → IsStartOf h j (slice_index_or (ps ++ p ∷ []) j d)
one_more h ps p n long each next j d lt = elim (cases_lt j n) [
  | inl l ↦ subst (IsStartOf h j) (sym (get_or_append_left ps (p ∷ []) d j (omega (arith, l, long)))) (each j d l)
  | inr g ↦
      let same : j ≡ n = omega (arith, lt, g) in
      let first : j - n ≡ 0 = omega (arith, same) in
      let there : slice_index_or (ps ++ p ∷ []) j d ≡ p = get_or-append_right ps (p ∷ []) n j d long g ∙ ap (λ k. slice_index_or (p ∷ []) k d) first in
      subst (IsStartOf h j) (sym there) (subst (λ k. IsStartOf h k p) (sym same) next)
]

pub loop-j-preserved : goal.loop-j-preserved
loop-j-preserved c =
    let items : c.push.new.self.items ≡ c.loop-j.starts.items ++ c.start_of.result ∷ [] = c.in_ok-push.ensures.items in
    let next : IsStartOf c.args.head.now c.loop-j.j c.start_of.result = search (rules, c.start_of.ensures) in
    record {
      long = search (rules, items, c.loop-j.invariant.long);
      each = subst (λ (ps : List UnitStart). (j : ℕ) (d : UnitStart) → j < c.loop-j.j + 1 → IsStartOf c.args.head.now j (slice_index_or ps j d)) (sym items)
          (one_more c.args.head.now c.loop-j.starts.items c.start_of.result c.loop-j.j c.loop-j.invariant.long c.loop-j.invariant.each next);
    }

pub returns : goal.returns
returns c =
    let h = c.args.head.now in
    let all : c.loop-j.j ≡ blocks_of h = search (rules, arith) in
    let long : length c.in_ok-vec.field-0.items ≡ all_lines h * groups_across h = search rules in
    record {
      space = record { across_is = refl; long = long };
      across = c.groups_across-across.ensures.value;
      starts = record { long = c.loop-j.invariant.long ∙ all; each = λ j d lt. c.loop-j.invariant.each j d (omega (arith, lt, all)) };
    }
