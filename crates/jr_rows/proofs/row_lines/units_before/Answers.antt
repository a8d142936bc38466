use Rattle.std.proofs.Common.{◌≡◌, ℕ, ◌+◌, ◌*◌, ◌/◌, ◌%◌, ◌<◌, ◌∙◌, ap, arith, mod-eq_of_lt, mul-pos}
use Rattle.jr_head.specs.Geometry.{horizontal_max, horizontal_of, vertical_max, vertical_of}
use Rattle.jr_paint.specs.declared.geometry.Spot.{Spot}
use Rattle.jr_paint.proofs.Factors.{sampled_at}
use Rattle.jr_paint.proofs.Places.{in_div_ceil}
use Rattle.jr_rows.proofs.row_lines.units_before.Goals as goal

-- the first sample of a component is in its first data unit
first : (before across down : ℕ) → 0 < across → 0 < down → before + 0 % (8 * down) / 8 * across + 0 % (8 * across) / 8 ≡ before
first before across down a d =
    let line : 0 % (8 * down) ≡ 0 = mod-eq_of_lt (omega (arith, d)) in
    let column : 0 % (8 * across) ≡ 0 = mod-eq_of_lt (omega (arith, a)) in
    omega (arith, ap (λ (n : ℕ). n / 8 * across) line, ap (λ (n : ℕ). n / 8) column)

pub place-requires-clause-column : goal.place-requires-clause-column
place-requires-clause-column c =
    let h = c.args.head.now in
    let s = sampled_at h c.args.c c.requires.valid c.requires.component in
    let some : 0 < h.width * horizontal_of h c.args.c = mul-pos c.requires.valid.wide s.across in
    in_div_ceil 0 (h.width * horizontal_of h c.args.c) (horizontal_max h) c.requires.valid.components.across (omega (arith, some))

pub place-requires-clause-line : goal.place-requires-clause-line
place-requires-clause-line c =
    let h = c.args.head.now in
    let s = sampled_at h c.args.c c.requires.valid c.requires.component in
    let some : 0 < h.height * vertical_of h c.args.c = mul-pos c.requires.valid.high s.down in
    in_div_ceil 0 (h.height * vertical_of h c.args.c) (vertical_max h) c.requires.valid.components.down (omega (arith, some))

pub returns : goal.returns
returns c =
    let h = c.args.head.now in
    let s = sampled_at h c.args.c c.requires.valid c.requires.component in
    record { value = ap (λ (p : Spot). p.block) c.place.ensures.closed ∙ first _ (horizontal_of h c.args.c) (vertical_of h c.args.c) s.across s.down }
