use Rattle.std.proofs.Common.{◌≡◌, ℕ, ◌+◌, ◌*◌, ◌<◌, ◌≤◌, ◌++◌, ◌∙◌, length, take, ap, subst, arith, rules}
use Rattle.std.proofs.Math.Nat.{mul-le-mul_right, le_of_mul-le-mul_right}
use Rattle.jr_head.specs.HeadValue.{HeadValue}
use Rattle.jr_head.specs.Geometry.{blocks_of, order_of}
use Rattle.jr_head.proofs.SamplingLaws.{length-order}
use Rattle.jr_scan.specs.McuReader.{HasRead, per_mcu}
use Rattle.jr_rows.proofs.whole_mcus.read_whole.Goals as goal

-- the blocks of an MCU, and of those that are read
per : (c : goal.After-blocks-1) → per_mcu c.args.reader.now ≡ blocks_of c.args.head.now
per c = ap (λ (h : HeadValue). length (order_of h)) c.requires.head ∙ length-order 0 c.args.head.now.components

some : (c : goal.After-blocks-1) → 0 < blocks_of c.args.head.now
some c = omega (arith, c.order-some.ensures.some, c.order-some.ensures.count)

long : (c : goal.After-blocks-1) → length c.read.new.blocks ≡ c.args.most * blocks_of c.args.head.now
long c = let same : length c.read.new.blocks ≡ length c.args.blocks.now = search rules in same ∙ c.requires.space

read : (c : goal.After-blocks-1) → c.read.result * per_mcu c.args.reader.now ≡ c.read.result * blocks_of c.args.head.now
read c = ap (λ (n : ℕ). c.read.result * n) (per c)

pub returns-clause-few : goal.returns-clause-few
returns-clause-few c = le_of_mul-le-mul_right {m = c.read.result} {n = c.args.most} {k = blocks_of c.args.head.now} (omega (arith, c.read.ensures.fits, read c, long c)) (some c)

pub returns-clause-fits : goal.returns-clause-fits
returns-clause-fits c = omega (arith, c.read.ensures.fits, read c)

pub returns-clause-read : goal.returns-clause-read
returns-clause-read c zs before = subst (λ (n : ℕ). HasRead c.read.new.self (zs ++ take n c.read.new.blocks)) (read c) (c.read.ensures.read zs before)

pub returns-clause-none : goal.returns-clause-none
returns-clause-none c none =
    let one : (c.read.result + 1) * per_mcu c.args.reader.now ≡ 1 * per_mcu c.args.reader.now = ap (λ (n : ℕ). (n + 1) * per_mcu c.args.reader.now) none in
    let space : 1 * blocks_of c.args.head.now ≤ c.args.most * blocks_of c.args.head.now = mul-le-mul_right {m = 1} {n = c.args.most} (blocks_of c.args.head.now) c.requires.some in
    c.read.ensures.ended (omega (arith, one, space, long c, per c))
