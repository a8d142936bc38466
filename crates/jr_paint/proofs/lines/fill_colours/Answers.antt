use Rattle.std.proofs.Common.{◌≡◌, ◌∙◌, ◌+◌, ◌*◌, ◌<◌, ◌≤◌, ℕ, ap, subst, sym, rules, arith, slice_index}
use Rattle.jr_head.specs.HeadValue.{HeadValue}
use Rattle.jr_head.specs.Geometry.{IsValid, component_count, components_of}
use Rattle.jr_paint.specs.Text.{value_at}
use Rattle.jr_paint.proofs.PixelLaws.{line_coloured}
use Rattle.jr_paint.proofs.lines.fill_colours.Goals as goal

pub returns : goal.returns
returns g c =
    let h = g.S.Samples.head_of c.args.samples.now in
    let f = g.S.Samples.shown c.args.samples.now in
    let y = c.args.y in
    let kind : c.kind.result ≡ h.kind = search rules in
    let third : (k : ℕ) → k < h.width → slice_index c.upsample-third.result.now k ≡ value_at h f 2 k y = λ k l. search (rules, c.upsample-third.ensures.samples k l) in
    c.mix.ensures ∙ line_coloured h f y c.kind.result _ (slice_index c.upsample-first.result.now) (slice_index c.upsample-second.result.now) (slice_index c.upsample-third.result.now) kind (rw kind c.requires.kind) c.upsample-first.ensures.long c.upsample-first.ensures.samples c.upsample-second.ensures.samples third

-- the width of the samples' header
wide : (h g : HeadValue) (w : ℕ) → w ≡ h.width → h ≡ g → w ≡ g.width
wide h g w is same = is ∙ ap (λ (x : HeadValue). x.width) same

-- its components: an image in colours has three
three : (h g : HeadValue) → h ≡ g → IsValid h → component_count g.kind ≡ 3 → components_of g ≡ 3
three h g same valid kind = (subst IsValid same valid).components.count ∙ kind

-- the last of four parts, each of which but the last has w entries
last_part : (n a b d w width : ℕ) → a + w ≡ n → b + w ≡ a → d + w ≡ b → w ≡ width → 4 * width ≤ n → w ≤ d
last_part n a b d w width is_a is_b is_d is_w space = omega (arith, is_a, is_b, is_d, is_w, space)

pub split_at_mut-first-requires : goal.split_at_mut-first-requires
split_at_mut-first-requires g c = omega (arith, wide _ _ _ c.width-width.ensures.value c.head-head.ensures.value, c.requires.space)

pub split_at_mut-second-requires : goal.split_at_mut-second-requires
split_at_mut-second-requires g c = omega (arith, wide _ _ _ c.width-width.ensures.value c.head-head.ensures.value, c.requires.space, c.split_at_mut-first.ensures.back_len)

pub split_at_mut-third-requires : goal.split_at_mut-third-requires
split_at_mut-third-requires g c = omega (arith, wide _ _ _ c.width-width.ensures.value c.head-head.ensures.value, c.requires.space, c.split_at_mut-first.ensures.back_len, c.split_at_mut-second.ensures.back_len)

pub upsample-first-requires-clause-component : goal.upsample-first-requires-clause-component
upsample-first-requires-clause-component g c = omega (arith, three _ _ c.head-head.ensures.value c.head-head.ensures.valid c.requires.kind)

pub upsample-second-requires-clause-component : goal.upsample-second-requires-clause-component
upsample-second-requires-clause-component g c = omega (arith, three _ _ c.head-head.ensures.value c.head-head.ensures.valid c.requires.kind)

pub upsample-third-requires-clause-component : goal.upsample-third-requires-clause-component
upsample-third-requires-clause-component g c = omega (arith, three _ _ c.head-head.ensures.value c.head-head.ensures.valid c.requires.kind)

pub upsample-first-requires-clause-whole : goal.upsample-first-requires-clause-whole
upsample-first-requires-clause-whole g c = c.split_at_mut-first.ensures.front_len ∙ wide _ _ _ c.width-width.ensures.value c.head-head.ensures.value

pub upsample-second-requires-clause-whole : goal.upsample-second-requires-clause-whole
upsample-second-requires-clause-whole g c = c.split_at_mut-second.ensures.front_len ∙ wide _ _ _ c.width-width.ensures.value c.head-head.ensures.value

pub upsample-third-requires-clause-whole : goal.upsample-third-requires-clause-whole
upsample-third-requires-clause-whole g c = c.split_at_mut-third.ensures.front_len ∙ wide _ _ _ c.width-width.ensures.value c.head-head.ensures.value

pub upsample-first-requires-clause-space : goal.upsample-first-requires-clause-space
upsample-first-requires-clause-space g c =
    let space = last_part _ _ _ _ _ _ c.split_at_mut-first.ensures.back_len c.split_at_mut-second.ensures.back_len c.split_at_mut-third.ensures.back_len (wide _ _ _ c.width-width.ensures.value c.head-head.ensures.value) c.requires.space in
    omega (arith, c.split_at_mut-first.ensures.front_len, space)

pub upsample-second-requires-clause-space : goal.upsample-second-requires-clause-space
upsample-second-requires-clause-space g c =
    let space = last_part _ _ _ _ _ _ c.split_at_mut-first.ensures.back_len c.split_at_mut-second.ensures.back_len c.split_at_mut-third.ensures.back_len (wide _ _ _ c.width-width.ensures.value c.head-head.ensures.value) c.requires.space in
    omega (arith, c.split_at_mut-second.ensures.front_len, c.upsample-first.auto.near, space)

pub upsample-third-requires-clause-space : goal.upsample-third-requires-clause-space
upsample-third-requires-clause-space g c =
    let space = last_part _ _ _ _ _ _ c.split_at_mut-first.ensures.back_len c.split_at_mut-second.ensures.back_len c.split_at_mut-third.ensures.back_len (wide _ _ _ c.width-width.ensures.value c.head-head.ensures.value) c.requires.space in
    omega (arith, c.split_at_mut-third.ensures.front_len, c.upsample-first.auto.near, c.upsample-second.auto.near, space)

pub mix-requires-clause-kind : goal.mix-requires-clause-kind
mix-requires-clause-kind g c = ap component_count (c.kind.ensures ∙ ap (λ (x : HeadValue). x.kind) c.head-head.ensures.value) ∙ c.requires.kind

pub mix-requires-clause-second : goal.mix-requires-clause-second
mix-requires-clause-second g c = c.upsample-second.ensures.long ∙ sym c.upsample-first.ensures.long

pub mix-requires-clause-third : goal.mix-requires-clause-third
mix-requires-clause-third g c = c.upsample-third.ensures.long ∙ sym c.upsample-first.ensures.long

pub mix-requires-clause-space : goal.mix-requires-clause-space
mix-requires-clause-space g c = c.requires.pixels ∙ ap (λ (n : ℕ). 3 * n) (sym c.upsample-first.ensures.long)
