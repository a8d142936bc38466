use Rattle.std.proofs.Common.{◌≡◌, ◌∙◌, List, ℕ, [], get_or, take, sym, ap, subst}
use Rattle.std.specs.Prelude.{IfSome, IfNone}
use Rattle.jr_damage.proofs.Examined.{examined}
use Rattle.jr_scan.specs.IntervalValue.{IntervalValue}
use Rattle.jr_scan.specs.Mcus.{HasDecoding}
use Rattle.jr_damage.specs.Map.{IsDamageOf}
use Rattle.jri_memory.proofs.damages.examine.Goals as goal

pub returns-clause-sound : goal.returns-clause-sound
returns-clause-sound c s e spelled =
    let n = c.unstuff_at-found.result in
    let bytes = take n c.deref.result.now in
    let data' = get_or s.intervals c.args.i [] in
    let same : data' ≡ bytes = sym (c.unstuff_at-found.ensures.data data' spelled) ∙ ap (λ (l : List ℕ). take n l) (sym c.deref.ensures.value) in
    let is = examined s c.args.head.now c.args.i c.mcus_in.result bytes e c.mcus_in.ensures.value same in
    let stated = subst (λ v. IfNone c.damaged_interval.result (HasDecoding v)) c.of-interval.ensures c.damaged_interval.ensures.sound in
    subst (λ (v : IntervalValue). IfNone c.damaged_interval.result (HasDecoding v)) is stated

pub returns-clause-damaged : goal.returns-clause-damaged
returns-clause-damaged c s e spelled =
    let n = c.unstuff_at-found.result in
    let bytes = take n c.deref.result.now in
    let data' = get_or s.intervals c.args.i [] in
    let same : data' ≡ bytes = sym (c.unstuff_at-found.ensures.data data' spelled) ∙ ap (λ (l : List ℕ). take n l) (sym c.deref.ensures.value) in
    let is = examined s c.args.head.now c.args.i c.mcus_in.result bytes e c.mcus_in.ensures.value same in
    let stated = subst (λ v. IfSome c.damaged_interval.result (λ d. IsDamageOf v c.args.span d)) c.of-interval.ensures c.damaged_interval.ensures.damaged in
    subst (λ (v : IntervalValue). IfSome c.damaged_interval.result (λ d. IsDamageOf v c.args.span d)) is stated
