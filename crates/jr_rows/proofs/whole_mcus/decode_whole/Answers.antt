use Rattle.std.proofs.Common.{◌≡◌, ℕ, ◌+◌, ◌-◌, ◌*◌, ◌<◌, ◌≤◌, ◌++◌, ◌∙◌, List, [], min, length, take, drop, ap, sym, subst, arith, rules, le_of_lt, le_trans, length-append, slice_index_or}
use Rattle.std.specs.Prelude.{ℤ}
use Rattle.std.proofs.lemmas.List.{length-take-le, take-append-le}
use Rattle.std.proofs.Math.Nat.{add-mul, mul-le-mul_right}
use Rattle.jr_head.specs.HeadValue.{HeadValue}
use Rattle.jr_head.specs.Geometry.{blocks_of, mcus_across}
use Rattle.jr_piece.specs.Outcome.{unit_of}
use Rattle.jr_rows.specs.Groups.{units_in}
use Rattle.jr_rows.proofs.GroupLists.{units_long}
use Rattle.jr_rows.proofs.whole_mcus.decode_whole.Goals as goal

-- the blocks that are read are the first ones
read : (units n : ℕ) (zs rest : List (List ℤ)) → units ≡ n → n ≤ length zs → take units (zs ++ rest) ≡ take n zs
read units n zs rest e le = ap (λ (m : ℕ). take m (zs ++ rest)) e ∙ take-append-le n zs rest le

-- the MCUs that are read are at most those left of the row, and fit into the blocks
some_left : (most at_once across done row : ℕ) → most ≡ min at_once (across - done) → across ≡ row → done < row → 0 < at_once → 0 < most
some_left most at_once across done row e is within some = omega (arith, e, is, within, some)

few_at_once : (most at_once rest : ℕ) → most ≡ min at_once rest → most ≤ at_once
few_at_once most at_once rest e = omega (arith, e)

fits : (n most at_once across done row : ℕ) → n ≤ most → most ≡ min at_once (across - done) → across ≡ row → done < row → done + n ≤ row
fits n most at_once across done row few e is within = omega (arith, few, e, is, within)

-- the borrowed blocks fit
space : (units at_once per most blocks long : ℕ) → units ≤ at_once * per → at_once ≡ most → per ≡ blocks → long ≡ most * blocks → units ≤ long
space units at_once per most blocks long within e is all = let whole = ap (λ (n : ℕ). n * per) e ∙ ap (λ (n : ℕ). most * n) is in omega (arith, within, whole, all)

pub overflow_sub-shape_of : goal.overflow_sub-shape_of
overflow_sub-shape_of c = subst (λ (n : ℕ). c.args.done ≤ n) (sym c.shape_of.ensures.across) (le_of_lt c.requires.within)

pub units_to-space-requires-clause-few : goal.units_to-space-requires-clause-few
units_to-space-requires-clause-few c = few_at_once c.min-most.result c.mcus_at_once-at_once.result _ c.min-most.ensures

pub units_to-space-requires-clause-short : goal.units_to-space-requires-clause-short
units_to-space-requires-clause-short c = c.order-per_mcu.ensures.few

pub slice_bounds-read_whole-end : goal.slice_bounds-read_whole-end
slice_bounds-read_whole-end c = space _ _ _ _ _ _ c.units_to-space.ensures.within c.mcus_at_once-at_once.ensures.value c.order-per_mcu.ensures.count c.requires.near

pub slice_bounds-read_whole-end-2 : goal.slice_bounds-read_whole-end-2
slice_bounds-read_whole-end-2 c =
    let inside = space _ _ _ _ _ _ c.units_to-space.ensures.within c.mcus_at_once-at_once.ensures.value c.order-per_mcu.ensures.count c.requires.near in
    sym (length-take-le c.units_to-space.result c.args.blocks.now inside)

pub read_whole-whole-requires-clause-head : goal.read_whole-whole-requires-clause-head
read_whole-whole-requires-clause-head c = c.requires.head

pub read_whole-whole-requires-clause-some : goal.read_whole-whole-requires-clause-some
read_whole-whole-requires-clause-some c = some_left _ _ _ _ _ c.min-most.ensures c.shape_of.ensures.across c.requires.within c.mcus_at_once-at_once.ensures.some

pub read_whole-whole-requires-clause-space : goal.read_whole-whole-requires-clause-space
read_whole-whole-requires-clause-space c =
    let inside = space _ _ _ _ _ _ c.units_to-space.ensures.within c.mcus_at_once-at_once.ensures.value c.order-per_mcu.ensures.count c.requires.near in
    length-take-le c.units_to-space.result c.args.blocks.now inside ∙ c.units_to-space.ensures.value ∙ ap (λ (k : ℕ). c.min-most.result * k) c.order-per_mcu.ensures.count

pub units_to-read-requires-clause-few : goal.units_to-read-requires-clause-few
units_to-read-requires-clause-few c = le_trans c.read_whole-whole.ensures.few (few_at_once c.min-most.result c.mcus_at_once-at_once.result _ c.min-most.ensures)

pub units_to-read-requires-clause-short : goal.units_to-read-requires-clause-short
units_to-read-requires-clause-short c = c.order-per_mcu.ensures.few

pub slice_bounds-transform_blocks-end : goal.slice_bounds-transform_blocks-end
slice_bounds-transform_blocks-end c =
    let units = c.units_to-read.ensures.value ∙ ap (λ (k : ℕ). c.read_whole-whole.result * k) c.order-per_mcu.ensures.count in
    let rest = drop c.units_to-space.result c.args.blocks.now in
    omega (arith, units, c.read_whole-whole.ensures.fits, length-append c.read_whole-whole.new.blocks rest)

pub transform_blocks-requires-clause-space : goal.transform_blocks-requires-clause-space
transform_blocks-requires-clause-space c = c.requires.space

pub returns-clause-space : goal.returns-clause-space
returns-clause-space c = c.transform_blocks.ensures.space

pub returns-clause-run : goal.returns-clause-run
returns-clause-run c = c.read_whole-whole.ensures.run

pub returns-clause-mcu : goal.returns-clause-mcu
returns-clause-mcu c = c.read_whole-whole.ensures.mcu

pub returns-clause-few : goal.returns-clause-few
returns-clause-few c = fits _ _ _ _ _ _ c.read_whole-whole.ensures.few c.min-most.ensures c.shape_of.ensures.across c.requires.within

pub returns-clause-kept : goal.returns-clause-kept
returns-clause-kept c = search (rules, c.transform_blocks.ensures.kept)

pub returns-clause-none : goal.returns-clause-none
returns-clause-none c = c.read_whole-whole.ensures.none

pub transform_blocks-requires-clause-inside : goal.transform_blocks-requires-clause-inside
transform_blocks-requires-clause-inside c =
    let h = c.args.head.now in
    let n = c.read_whole-whole.result in
    let zs = c.read_whole-whole.new.blocks in
    let units : c.units_to-read.result ≡ n * blocks_of h = c.units_to-read.ensures.value ∙ ap (λ (k : ℕ). n * k) c.order-per_mcu.ensures.count in
    let front = read c.units_to-read.result (n * blocks_of h) zs (drop c.units_to-space.result c.args.blocks.now) units c.read_whole-whole.ensures.fits in
    let long = length-take-le (n * blocks_of h) zs c.read_whole-whole.ensures.fits in
    let few : c.args.done + n ≤ mcus_across h = fits _ _ _ _ _ _ c.read_whole-whole.ensures.few c.min-most.ensures c.shape_of.ensures.across c.requires.within in
    let all : (c.args.done + n) * blocks_of h ≤ mcus_across h * blocks_of h = mul-le-mul_right {m = c.args.done + n} {n = mcus_across h} (blocks_of h) few in
    let whole : length (units_in h c.args.lines.now.groups) ≡ mcus_across h * blocks_of h = units_long h c.args.lines.now.groups in
    omega (arith, ap (λ (l : List (List ℤ)). length l) front, long, all, whole, add-mul c.args.done n (blocks_of h))

pub returns-clause-decoded : goal.returns-clause-decoded
returns-clause-decoded c =
    let h = c.args.head.now in
    let n = c.read_whole-whole.result in
    let held = c.read_whole-whole.new.blocks in
    let zs = take (n * blocks_of h) held in
    let units : c.units_to-read.result ≡ n * blocks_of h = c.units_to-read.ensures.value ∙ ap (λ (k : ℕ). n * k) c.order-per_mcu.ensures.count in
    let front = read c.units_to-read.result (n * blocks_of h) held (drop c.units_to-space.result c.args.blocks.now) units c.read_whole-whole.ensures.fits in
    let long : length zs ≡ n * blocks_of h = length-take-le (n * blocks_of h) held c.read_whole-whole.ensures.fits in
    let e = sym c.requires.head in
    record {
      blocks = zs;
      long = subst (λ (g : HeadValue). length zs ≡ n * blocks_of g) e long;
      read = c.read_whole-whole.ensures.read;
      each = subst (λ (g : HeadValue). (k : ℕ) → k < n * blocks_of g → slice_index_or (units_in h c.transform_blocks.new.units.groups) (c.args.done * blocks_of g + k) [] ≡ unit_of g zs k) e
          (λ k lt. c.transform_blocks.ensures.here k (omega (arith, lt, ap (λ (l : List (List ℤ)). length l) front, long)) ∙ ap (λ (l : List (List ℤ)). unit_of h l k) front);
    }
