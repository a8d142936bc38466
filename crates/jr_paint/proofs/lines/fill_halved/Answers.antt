use Rattle.std.proofs.Common.{◌≡◌, ◌∙◌, ◌/◌, ◌<◌, ℕ, sym, rules, refl, slice_index}
use Rattle.jr_segments.specs.declared.kind.Kind.TheVariants.{Ycc}
use Rattle.jr_paint.specs.Text.{value_at}
use Rattle.jr_paint.proofs.PixelLaws.{line_coloured}
use Rattle.jr_paint.proofs.lines.fill_halved.Goals as goal

pub returns : goal.returns
returns g c =
    let h = g.S.Samples.head_of c.args.samples.now in
    let f = g.S.Samples.shown c.args.samples.now in
    let y = c.args.y in
    let cb = λ (k : ℕ). slice_index c.read_halves.result.0.now (k / 2) in
    let cr = λ (k : ℕ). slice_index c.read_halves.result.1.now (k / 2) in
    let red : (k : ℕ) → k < h.width → cr k ≡ value_at h f 2 k y = λ k l. search (rules, c.read_halves.ensures.third k l) in
    c.convert_one.ensures ∙ line_coloured h f y Ycc _ (slice_index c.upsample-luma.result.now) cb cr (sym c.requires.halves.kind) refl c.upsample-luma.ensures.long c.upsample-luma.ensures.samples c.read_halves.ensures.second red
