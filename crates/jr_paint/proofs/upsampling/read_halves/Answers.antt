use Rattle.std.proofs.Common.{◌≡◌, ℕ, ◌*◌, ◌/◌, ◌<◌, ◌≤◌, refl, sym, ap, ap₂, subst, ◌∙◌, arith, rules}
use Rattle.jr_head.specs.HeadValue.{HeadValue}
use Rattle.jr_head.specs.Geometry.{IsValid, component_count, components_of, horizontal_of, horizontal_max, vertical_of, vertical_max}
use Rattle.jr_paint.specs.Geometry.{samples_across}
use Rattle.jr_paint.specs.Shades.{HalvesChroma, IsHalved}
use Rattle.jr_paint.specs.Text.{value_at}
use Rattle.jr_paint.proofs.Factors.{scaled, sampled_at}
use Rattle.jr_paint.proofs.upsampling.read_halves.Goals as goal

-- sample k / 2 of the line is that of pixel k
halved : (h : HeadValue) (f : ℕ → ℕ → ℕ → ℕ) (c y line : ℕ) → IsValid h → c < components_of h → IsHalved h c → line ≡ y * vertical_of h c / vertical_max h → (k : ℕ) → f c (k / 2) line ≡ value_at h f c k y
halved h f c y line valid there half at k =
    let same = scaled k (horizontal_of h c) (horizontal_max h) 2 (sampled_at h c valid there).across half in
    let column : k / 2 ≡ k * horizontal_of h c / horizontal_max h = omega (arith, same) in
    ap₂ (f c) column at

-- both chrominances are components
chroma : (h : HeadValue) (c : ℕ) → IsValid h → HalvesChroma h → c < 3 → c < components_of h
chroma h c valid halves lt = omega (arith, lt, valid.components.count ∙ ap component_count halves.kind)

-- half of a line's pixels are fewer than its samples
half_of : (k n width count : ℕ) → k < width → width ≤ 2 * count → n ≡ count → k / 2 < n
half_of k n width count lt enough same = omega (arith, lt, enough, same)

pub half_count-count-requires-clause-halves : goal.half_count-count-requires-clause-halves
half_count-count-requires-clause-halves g c = subst HalvesChroma (sym c.head-head.ensures.value) c.requires.halves

pub sample_line-requires-clause-component : goal.sample_line-requires-clause-component
sample_line-requires-clause-component g c = chroma c.head-head.result.now 1 c.head-head.ensures.valid (subst HalvesChroma (sym c.head-head.ensures.value) c.requires.halves) (omega arith)

pub sample_line-requires-clause-down : goal.sample_line-requires-clause-down
sample_line-requires-clause-down g c = subst (λ (h : HeadValue). c.args.y < h.height) (sym c.head-head.ensures.value) c.requires.down

pub line-cb-requires-clause-component : goal.line-cb-requires-clause-component
line-cb-requires-clause-component g c = chroma (g.S.Samples.head_of c.args.samples.now) 1 (subst IsValid c.head-head.ensures.value c.head-head.ensures.valid) c.requires.halves (omega arith)

pub line-cb-requires-clause-columns : goal.line-cb-requires-clause-columns
line-cb-requires-clause-columns g c = subst (λ (h : HeadValue). c.half_count-count.result ≤ samples_across h 1) c.head-head.ensures.value c.half_count-count.ensures.inside_b

pub line-cb-requires-clause-space : goal.line-cb-requires-clause-space
line-cb-requires-clause-space g c =
    let few = subst (λ (h : HeadValue). c.half_count-count.result ≤ h.width) c.head-head.ensures.value c.half_count-count.ensures.few in
    omega (arith, few, c.requires.space_b)

pub sample_line-requires-2-clause-component : goal.sample_line-requires-2-clause-component
sample_line-requires-2-clause-component g c = chroma c.head-head.result.now 2 c.head-head.ensures.valid (subst HalvesChroma (sym c.head-head.ensures.value) c.requires.halves) (omega arith)

pub sample_line-requires-2-clause-down : goal.sample_line-requires-2-clause-down
sample_line-requires-2-clause-down g c = subst (λ (h : HeadValue). c.args.y < h.height) (sym c.head-head.ensures.value) c.requires.down

pub line-cr-requires-clause-component : goal.line-cr-requires-clause-component
line-cr-requires-clause-component g c = chroma (g.S.Samples.head_of c.args.samples.now) 2 (subst IsValid c.head-head.ensures.value c.head-head.ensures.valid) c.requires.halves (omega arith)

pub line-cr-requires-clause-columns : goal.line-cr-requires-clause-columns
line-cr-requires-clause-columns g c = subst (λ (h : HeadValue). c.half_count-count.result ≤ samples_across h 2) c.head-head.ensures.value c.half_count-count.ensures.inside_c

pub line-cr-requires-clause-space : goal.line-cr-requires-clause-space
line-cr-requires-clause-space g c =
    let few = subst (λ (h : HeadValue). c.half_count-count.result ≤ h.width) c.head-head.ensures.value c.half_count-count.ensures.few in
    omega (arith, few, c.requires.space_c)

pub returns-clause-enough : goal.returns-clause-enough
returns-clause-enough g c =
    let enough = subst (λ (h : HeadValue). h.width ≤ 2 * c.half_count-count.result) c.head-head.ensures.value c.half_count-count.ensures.enough in
    subst (λ (n : ℕ). (g.S.Samples.head_of c.args.samples.now).width ≤ 2 * n) (sym c.line-cb.ensures.long) enough

pub returns-clause-same : goal.returns-clause-same
returns-clause-same g c = c.line-cr.ensures.long ∙ sym c.line-cb.ensures.long

pub returns-clause-second : goal.returns-clause-second
returns-clause-second g c k l =
    let h = g.S.Samples.head_of c.args.samples.now in
    let valid = subst IsValid c.head-head.ensures.value c.head-head.ensures.valid in
    let stated = rw c.head-head.ensures.value at c.sample_line.ensures.value in
    let line : c.sample_line.result ≡ c.args.y * vertical_of h 1 / vertical_max h = search (rules, stated) in
    let enough = subst (λ (x : HeadValue). x.width ≤ 2 * c.half_count-count.result) c.head-head.ensures.value c.half_count-count.ensures.enough in
    let near = half_of k c.half_count-count.result h.width c.half_count-count.result l enough refl in
    c.line-cb.ensures.samples (k / 2) near ∙ halved h (g.S.Samples.shown c.args.samples.now) 1 c.args.y c.sample_line.result valid (chroma h 1 valid c.requires.halves (omega arith)) c.requires.halves.half_b line k

pub returns-clause-third : goal.returns-clause-third
returns-clause-third g c k l =
    let h = g.S.Samples.head_of c.args.samples.now in
    let valid = subst IsValid c.head-head.ensures.value c.head-head.ensures.valid in
    let stated = rw c.head-head.ensures.value at c.sample_line-2.ensures.value in
    let line : c.sample_line-2.result ≡ c.args.y * vertical_of h 2 / vertical_max h = search (rules, stated) in
    let enough = subst (λ (x : HeadValue). x.width ≤ 2 * c.half_count-count.result) c.head-head.ensures.value c.half_count-count.ensures.enough in
    let near = half_of k c.half_count-count.result h.width c.half_count-count.result l enough refl in
    c.line-cr.ensures.samples (k / 2) near ∙ halved h (g.S.Samples.shown c.args.samples.now) 2 c.args.y c.sample_line-2.result valid (chroma h 2 valid c.requires.halves (omega arith)) c.requires.halves.half_c line k
