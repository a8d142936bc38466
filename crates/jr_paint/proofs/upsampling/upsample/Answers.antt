use Rattle.std.proofs.Common.{◌≡◌, ℕ, ◌<◌, ◌≤◌, ◌*◌, ◌/◌, ◌∙◌, ap, ap₂, sym, subst, length, arith}
use Rattle.std.specs.Int.{div_ceil}
use Rattle.jr_head.specs.Geometry.{horizontal_of, horizontal_max}
use Rattle.jr_paint.proofs.Factors.{enough, few, stretched_inside, sample_near, scaled, sampled_at}
use Rattle.jr_paint.proofs.upsampling.upsample.Goals as goal

fits : (a b w o n : ℕ) → a ≡ b → b ≤ w → o ≡ w → o ≤ n → a ≤ n
fits a b w o n same le whole space = omega (arith, same, le, whole, space)

pub line-once-requires-clause-space : goal.line-once-requires-clause-space
line-once-requires-clause-space g c =
    let h = g.S.Samples.head_of c.args.samples.now in
    let f = c.pixels_per_sample-factor.result in
    let valid = rw c.head-head.ensures.value at c.head-head.ensures.valid in
    let count : c.div_ceil-count.result ≡ div_ceil h.width f = c.div_ceil-count.ensures ∙ ap (λ (n : ℕ). div_ceil n f) c.requires.whole in
    fits c.div_ceil-count.result (div_ceil h.width f) h.width (length c.args.out.now) (length c.args.near.now) count (few h.width f valid.wide c.pixels_per_sample-factor.ensures.some) c.requires.whole c.requires.space

pub repeat-requires-clause-enough : goal.repeat-requires-clause-enough
repeat-requires-clause-enough g c =
    let h = g.S.Samples.head_of c.args.samples.now in
    let f = c.pixels_per_sample-factor.result in
    let valid = rw c.head-head.ensures.value at c.head-head.ensures.valid in
    let count : c.div_ceil-count.result ≡ div_ceil h.width f = c.div_ceil-count.ensures ∙ ap (λ (n : ℕ). div_ceil n f) c.requires.whole in
    let all = subst (λ (n : ℕ). n ≤ f * div_ceil h.width f) (sym c.requires.whole) (enough h.width f valid.wide c.pixels_per_sample-factor.ensures.some) in
    subst (λ (n : ℕ). length c.args.out.now ≤ f * n) (sym (c.line-once.ensures.long ∙ count)) all

pub line-requires-clause-columns : goal.line-requires-clause-columns
line-requires-clause-columns g c =
    let h = g.S.Samples.head_of c.args.samples.now in
    let valid = rw c.head-head.ensures.value at c.head-head.ensures.valid in
    let whole = rw c.head-head.ensures.value at c.pixels_per_sample-factor.ensures.whole in
    let count : c.div_ceil-count.result ≡ div_ceil h.width c.pixels_per_sample-factor.result = c.div_ceil-count.ensures ∙ ap (λ (n : ℕ). div_ceil n c.pixels_per_sample-factor.result) c.requires.whole in
    rw count (stretched_inside h c.args.c _ valid c.requires.component c.pixels_per_sample-factor.ensures.some whole)

pub line-once-requires-clause-columns : goal.line-once-requires-clause-columns
line-once-requires-clause-columns g c =
    let h = g.S.Samples.head_of c.args.samples.now in
    let valid = rw c.head-head.ensures.value at c.head-head.ensures.valid in
    let whole = rw c.head-head.ensures.value at c.pixels_per_sample-factor.ensures.whole in
    let count : c.div_ceil-count.result ≡ div_ceil h.width c.pixels_per_sample-factor.result = c.div_ceil-count.ensures ∙ ap (λ (n : ℕ). div_ceil n c.pixels_per_sample-factor.result) c.requires.whole in
    rw count (stretched_inside h c.args.c _ valid c.requires.component c.pixels_per_sample-factor.ensures.some whole)

pub returns-then-factor-eq1-clause-samples : goal.returns-then-factor-eq1-clause-samples
returns-then-factor-eq1-clause-samples g c k l =
    let h = g.S.Samples.head_of c.args.samples.now in
    let valid = rw c.head-head.ensures.value at c.head-head.ensures.valid in
    let whole = rw (c.head-head.ensures.value, c.if-factor-eq1.true) at c.pixels_per_sample-factor.ensures.whole in
    let same = scaled k (horizontal_of h c.args.c) (horizontal_max h) 1 (sampled_at h c.args.c valid c.requires.component).across whole in
    let column : k ≡ k * horizontal_of h c.args.c / horizontal_max h = omega (arith, same) in
    let line = rw c.head-head.ensures.value at c.sample_line-line.ensures.value in
    let f = c.pixels_per_sample-factor.result in
    let some : 0 < h.width = valid.wide in
    let count : c.div_ceil-count.result ≡ div_ceil h.width f = c.div_ceil-count.ensures ∙ ap (λ (n : ℕ). div_ceil n f) c.requires.whole in
    let there : k / f < div_ceil h.width f = sample_near h.width f some c.pixels_per_sample-factor.ensures.some k l in
    let one : k / f ≡ k / 1 = ap (λ n. k / n) c.if-factor-eq1.true in
    let inside : k < c.div_ceil-count.result = omega (arith, there, count, one) in
    c.line.ensures.samples k inside ∙ ap₂ (g.S.Samples.shown c.args.samples.now c.args.c) column line

pub returns-clause-samples : goal.returns-clause-samples
returns-clause-samples g c k l =
    let h = g.S.Samples.head_of c.args.samples.now in
    let f = c.pixels_per_sample-factor.result in
    let valid = rw c.head-head.ensures.value at c.head-head.ensures.valid in
    let whole = rw c.head-head.ensures.value at c.pixels_per_sample-factor.ensures.whole in
    let same = scaled k (horizontal_of h c.args.c) (horizontal_max h) f (sampled_at h c.args.c valid c.requires.component).across whole in
    let column : k / f ≡ k * horizontal_of h c.args.c / horizontal_max h = omega (arith, same) in
    let line = rw c.head-head.ensures.value at c.sample_line-line.ensures.value in
    let inside : k < length c.repeat.new.out = omega (arith, l, c.repeat.auto.out, c.requires.whole) in
    let some : 0 < h.width = valid.wide in
    let count : c.div_ceil-count.result ≡ div_ceil h.width f = c.div_ceil-count.ensures ∙ ap (λ (n : ℕ). div_ceil n f) c.requires.whole in
    let there : k / f < c.div_ceil-count.result = rw count (sample_near h.width f some c.pixels_per_sample-factor.ensures.some k l) in
    c.repeat.ensures k inside ∙ c.line-once.ensures.samples (k / f) there ∙ ap₂ (g.S.Samples.shown c.args.samples.now c.args.c) column line
