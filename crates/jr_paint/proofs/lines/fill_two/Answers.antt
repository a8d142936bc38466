use Rattle.std.proofs.Common.{◌≡◌, ◌∙◌, ◌++◌, ◌+◌, ◌/◌, ◌*◌, ◌<◌, ◌≤◌, ℕ, length, sym, subst, rules, refl, ap, ap₂, slice_index, arith}
use Rattle.jr_head.specs.HeadValue.{HeadValue}
use Rattle.jr_head.specs.Geometry.{IsValid, component_count, components_of}
use Rattle.jr_segments.specs.declared.kind.Kind.TheVariants.{Ycc}
use Rattle.jr_paint.specs.Text.{value_at}
use Rattle.jr_paint.proofs.PixelLaws.{line_coloured, shared_value}
use Rattle.jr_paint.specs.Shades.{HalvesChroma}
use Rattle.jr_paint.proofs.lines.fill_two.Goals as goal

pub overflow_add-y : goal.overflow_add-y
overflow_add-y g c = let low = rw c.head-head.ensures.value at c.head-head.ensures.valid.low in omega (arith, low, c.requires.shares.next)

pub returns : goal.returns
returns g c =
    let h = g.S.Samples.head_of c.args.samples.now in
    let f = g.S.Samples.shown c.args.samples.now in
    let y = c.args.y in
    let cb = λ (k : ℕ). slice_index c.read_halves.result.0.now (k / 2) in
    let cr = λ (k : ℕ). slice_index c.read_halves.result.1.now (k / 2) in
    let shares = c.requires.shares in
    let kind = sym shares.halves.kind in
    let red : (k : ℕ) → k < h.width → cr k ≡ value_at h f 2 k y = λ k l. search (rules, c.read_halves.ensures.third k l) in
    let upper = c.convert_two.ensures.line ∙ line_coloured h f y Ycc _ (slice_index c.upsample-luma.result.now) cb cr kind refl c.upsample-luma.ensures.long c.upsample-luma.ensures.samples c.read_halves.ensures.second red in
    let second : (k : ℕ) → k < h.width → cb k ≡ value_at h f 1 k (y + 1) = λ k l. c.read_halves.ensures.second k l ∙ shared_value h f 1 y k shares.same_b in
    let third : (k : ℕ) → k < h.width → cr k ≡ value_at h f 2 k (y + 1) = λ k l. red k l ∙ shared_value h f 2 y k shares.same_c in
    let lower = c.convert_two.ensures.next ∙ line_coloured h f (y + 1) Ycc _ (slice_index c.upsample-next_luma.result.now) cb cr kind refl c.upsample-luma.ensures.long c.upsample-next_luma.ensures.samples second third in
    search (rules, ap₂ (λ x y. x ++ y) upper lower)

pub read_halves-requires-clause-halves : goal.read_halves-requires-clause-halves
read_halves-requires-clause-halves g c = c.requires.shares.halves

pub read_halves-requires-clause-down : goal.read_halves-requires-clause-down
read_halves-requires-clause-down g c = omega (arith, c.requires.shares.next)

pub upsample-luma-requires-clause-down : goal.upsample-luma-requires-clause-down
upsample-luma-requires-clause-down g c = omega (arith, c.requires.shares.next)

pub upsample-next_luma-requires-clause-down : goal.upsample-next_luma-requires-clause-down
upsample-next_luma-requires-clause-down g c = c.requires.shares.next

some : (h : HeadValue) → IsValid h → HalvesChroma h → 0 < components_of h
some h valid halves = omega (arith, valid.components.count ∙ ap component_count halves.kind)

pub upsample-luma-requires-clause-component : goal.upsample-luma-requires-clause-component
upsample-luma-requires-clause-component g c = some (g.S.Samples.head_of c.args.samples.now) (subst IsValid c.head-head.ensures.value c.head-head.ensures.valid) c.requires.shares.halves

pub upsample-next_luma-requires-clause-component : goal.upsample-next_luma-requires-clause-component
upsample-next_luma-requires-clause-component g c = some (g.S.Samples.head_of c.args.samples.now) (subst IsValid c.head-head.ensures.value c.head-head.ensures.valid) c.requires.shares.halves

pub convert_two-requires-clause-next : goal.convert_two-requires-clause-next
convert_two-requires-clause-next g c = c.upsample-next_luma.ensures.long ∙ sym c.upsample-luma.ensures.long

pub convert_two-requires-clause-enough : goal.convert_two-requires-clause-enough
convert_two-requires-clause-enough g c = subst (λ (n : ℕ). n ≤ 2 * length c.read_halves.result.0.now) (sym c.upsample-luma.ensures.long) c.read_halves.ensures.enough

pub convert_two-requires-clause-third : goal.convert_two-requires-clause-third
convert_two-requires-clause-third g c = c.read_halves.ensures.same

-- the last of four parts, each of which but the last has w entries
last_part : (n a b d w width : ℕ) → a + w ≡ n → b + w ≡ a → d + w ≡ b → w ≡ width → 4 * width ≤ n → width ≤ d
last_part n a b d w width is_a is_b is_d is_w space = omega (arith, is_a, is_b, is_d, is_w, space)

-- the second half of 6 `width` bytes
half : (n a w width : ℕ) → a + 3 * w ≡ n → w ≡ width → n ≡ 6 * width → a ≡ 3 * width
half n a w width is_a is_w is_n = omega (arith, is_a, is_w, is_n)

pub upsample-luma-requires-clause-whole : goal.upsample-luma-requires-clause-whole
upsample-luma-requires-clause-whole g c = c.split_at_mut-luma.ensures.front_len ∙ c.width-width.ensures.value ∙ ap (λ (x : HeadValue). x.width) c.head-head.ensures.value

pub upsample-luma-requires-clause-space : goal.upsample-luma-requires-clause-space
upsample-luma-requires-clause-space g c = omega (arith, c.split_at_mut-luma.ensures.front_len, c.split_at_mut-cb.ensures.front_len)

pub upsample-next_luma-requires-clause-whole : goal.upsample-next_luma-requires-clause-whole
upsample-next_luma-requires-clause-whole g c = c.split_at_mut-next_luma.ensures.front_len ∙ c.width-width.ensures.value ∙ ap (λ (x : HeadValue). x.width) c.head-head.ensures.value

pub upsample-next_luma-requires-clause-space : goal.upsample-next_luma-requires-clause-space
upsample-next_luma-requires-clause-space g c =
    let wide : c.width-width.result ≡ (g.S.Samples.head_of c.args.samples.now).width = c.width-width.ensures.value ∙ ap (λ (x : HeadValue). x.width) c.head-head.ensures.value in
    let next : length c.split_at_mut-next_luma.result.0.now ≡ (g.S.Samples.head_of c.args.samples.now).width = c.split_at_mut-next_luma.ensures.front_len ∙ wide in
    subst (λ (n : ℕ). n ≤ length c.split_at_mut-cb.result.1.now) (sym next)
    (last_part _ _ _ _ _ _ c.split_at_mut-luma.ensures.back_len c.split_at_mut-next_luma.ensures.back_len c.split_at_mut-cb.ensures.back_len wide c.requires.space)

pub convert_two-requires-clause-space : goal.convert_two-requires-clause-space
convert_two-requires-clause-space g c =
    let wide : c.width-width.result ≡ (g.S.Samples.head_of c.args.samples.now).width = c.width-width.ensures.value ∙ ap (λ (x : HeadValue). x.width) c.head-head.ensures.value in
    c.split_at_mut-upper.ensures.front_len ∙ ap (λ (n : ℕ). 3 * n) (wide ∙ sym c.upsample-luma.ensures.long)

pub convert_two-requires-clause-more_space : goal.convert_two-requires-clause-more_space
convert_two-requires-clause-more_space g c =
    let wide : c.width-width.result ≡ (g.S.Samples.head_of c.args.samples.now).width = c.width-width.ensures.value ∙ ap (λ (x : HeadValue). x.width) c.head-head.ensures.value in
    half _ _ _ _ c.split_at_mut-upper.ensures.back_len wide c.requires.pixels ∙ ap (λ (n : ℕ). 3 * n) (sym c.upsample-luma.ensures.long)

pub read_halves-requires-clause-space_b : goal.read_halves-requires-clause-space_b
read_halves-requires-clause-space_b g c =
    let wide : c.width-width.result ≡ (g.S.Samples.head_of c.args.samples.now).width = c.width-width.ensures.value ∙ ap (λ (x : HeadValue). x.width) c.head-head.ensures.value in
    omega (arith, c.upsample-luma.auto.near, c.split_at_mut-cb.ensures.front_len ∙ wide)

pub read_halves-requires-clause-space_c : goal.read_halves-requires-clause-space_c
read_halves-requires-clause-space_c g c =
    let wide : c.width-width.result ≡ (g.S.Samples.head_of c.args.samples.now).width = c.width-width.ensures.value ∙ ap (λ (x : HeadValue). x.width) c.head-head.ensures.value in
    let space = last_part _ _ _ _ _ _ c.split_at_mut-luma.ensures.back_len c.split_at_mut-next_luma.ensures.back_len c.split_at_mut-cb.ensures.back_len wide c.requires.space in
    omega (arith, c.upsample-next_luma.auto.near, space)

pub split_at_mut-luma-requires : goal.split_at_mut-luma-requires
split_at_mut-luma-requires g c =
    let wide : c.width-width.result ≡ (g.S.Samples.head_of c.args.samples.now).width = c.width-width.ensures.value ∙ ap (λ (x : HeadValue). x.width) c.head-head.ensures.value in
    omega (arith, wide, c.requires.space)

pub split_at_mut-next_luma-requires : goal.split_at_mut-next_luma-requires
split_at_mut-next_luma-requires g c =
    let wide : c.width-width.result ≡ (g.S.Samples.head_of c.args.samples.now).width = c.width-width.ensures.value ∙ ap (λ (x : HeadValue). x.width) c.head-head.ensures.value in
    omega (arith, wide, c.requires.space, c.split_at_mut-luma.ensures.back_len)

pub split_at_mut-cb-requires : goal.split_at_mut-cb-requires
split_at_mut-cb-requires g c =
    let wide : c.width-width.result ≡ (g.S.Samples.head_of c.args.samples.now).width = c.width-width.ensures.value ∙ ap (λ (x : HeadValue). x.width) c.head-head.ensures.value in
    omega (arith, wide, c.requires.space, c.split_at_mut-luma.ensures.back_len, c.split_at_mut-next_luma.ensures.back_len)

pub overflow_mul-width : goal.overflow_mul-width
overflow_mul-width g c = omega (arith, c.width-width.ensures.few)

pub split_at_mut-upper-requires : goal.split_at_mut-upper-requires
split_at_mut-upper-requires g c =
    let wide : c.width-width.result ≡ (g.S.Samples.head_of c.args.samples.now).width = c.width-width.ensures.value ∙ ap (λ (x : HeadValue). x.width) c.head-head.ensures.value in
    omega (arith, wide, c.requires.pixels)
