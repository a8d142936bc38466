use Rattle.std.proofs.Common.{◌≡◌, take, length, ap, sym, ◌∙◌, arith}
use Rattle.std.proofs.Math.Seq.{take-length}
use Rattle.std.proofs.lemmas.Simd.{put_chunk_whole}
use Rattle.jr_paint.proofs.unit_lines.copy.Goals as goal

pub returns-then-out-eq8 : goal.returns-then-out-eq8
returns-then-out-eq8 c =
    let from = c.args.from.now in
    let long : length from ≡ 8 = omega (arith, c.requires, c.if-out-eq8.true) in
    let whole : take 8 from ≡ from = rw long at (take-length from) in
    put_chunk_whole c.args.out.now (take 8 from) (c.if-out-eq8.true ∙ sym long ∙ ap length (sym whole)) ∙ whole
