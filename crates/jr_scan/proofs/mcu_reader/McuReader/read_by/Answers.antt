use Rattle.std.proofs.Common.{rules, ◌≡◌, ◌≤◌, ◌+◌, ◌-◌, ◌*◌, ◌/◌, ℕ, List, [], ◌++◌, length, take, drop, length-drop, inl, refl, sym, ap, subst, ◌∙◌, arith}
use Rattle.std.proofs.lemmas.List.{append-nil, length-take-le}
use Rattle.std.proofs.lemmas.Nat.{le-div}
use Rattle.std.proofs.Math.Nat.{le-div_iff_mul-le}
use borrow.Rule.Slice.PartMut.{put_mid, same_len_mid}
use Rattle.std.specs.Prelude.{ℤ}
use Rattle.std.specs.List.{All}
use Rattle.jr_head.specs.Geometry.{order_of}
use Rattle.jr_head.specs.HeadValue.{HeadValue}
use Rattle.jr_mcu.specs.Block.{IsInRange}
use Rattle.jr_scan.specs.IntervalValue.{IntervalValue}
use Rattle.jr_scan.specs.Speculations.{AreSpeculationsOf}
use Rattle.jr_scan.specs.McuReader.{McuReaderValue, HasRead, per_mcu}
use Rattle.jr_scan.specs.Run.{RunOf}
use Rattle.jr_scan.proofs.TakingOver.{HaveRead, read_both, stays_both}
use Rattle.jr_scan.proofs.mcu_reader.McuReader.read_by.Goals as goal

-- the MCUs of a reader have the blocks of its interval's order
size_of : (order : List ℕ) (h : HeadValue) (i : IntervalValue) (r : McuReaderValue) → order ≡ order_of h → h ≡ i.head → i ≡ r.run.interval → length order ≡ per_mcu r
size_of order h i r value head own = ap (λ (o : List ℕ). length o) (value ∙ ap order_of (head ∙ ap (λ (j : IntervalValue). j.head) own))

pub loop-done-preserved : goal.loop-done-preserved
loop-done-preserved c =
    let r = c.args.self.now in
    let mid = c.loop-done.self in
    let new = c.read_some-some.new.self in
    let i = c.loop-done.invariant in
    let e = c.read_some-some.ensures in
    let per = length c.order-per_mcu.result.now in
    let size : per ≡ per_mcu r = size_of _ _ _ r c.order-per_mcu.ensures.value c.head.ensures.value c.interval.ensures in
    let same : per_mcu mid ≡ per_mcu r = ap (λ (o : RunOf). length (order_of o.interval.head)) i.run in
    let both = read_both r mid new c.loop-done.done c.read_some-some.result per c.loop-done.blocks c.read_some-some.new.blocks i.run size e.fits i.fits (record { read = i.read; in_range = i.in_range }) (record { read = e.read; in_range = e.in_range }) in
    let space : length (put_mid (c.loop-done.done * per) (length c.loop-done.blocks - c.loop-done.done * per) c.loop-done.blocks c.read_some-some.new.blocks) ≡ length c.loop-done.blocks = same_len_mid _ _ _ _ c.read_some-some.auto.blocks in
    let at : c.loop-done.done * per ≡ c.loop-done.done * per_mcu r = ap (λ (n : ℕ). c.loop-done.done * n) size in
    let on : c.read_some-some.result * per_mcu mid ≡ c.read_some-some.result * per_mcu r = ap (λ (n : ℕ). c.read_some-some.result * n) same in
    let sum : (c.loop-done.done + c.read_some-some.result) * per_mcu r ≡ c.loop-done.done * per_mcu r + c.read_some-some.result * per_mcu r = omega arith in
    let long : length c.read_some-some.new.blocks ≡ length c.loop-done.blocks - c.loop-done.done * per = search rules in
    record {
      run = e.run ∙ i.run;
      mcu = omega (arith, e.mcus, i.mcu);
      few = e.few;
      space = space ∙ i.space;
      fits = omega (arith, sum, space, on, e.fits, long, at, i.fits);
      read = both.read;
      in_range = both.in_range;
      stays = stays_both r mid new i.stays e.stays;
    }

pub returns-then-some-eq0-clause-read : goal.returns-then-some-eq0-clause-read
returns-then-some-eq0-clause-read c =
    let r = c.args.self.now in
    let mid = c.loop-done.self in
    let new = c.read_some-some.new.self in
    let i = c.loop-done.invariant in
    let e = c.read_some-some.ensures in
    let per = length c.order-per_mcu.result.now in
    let size : per ≡ per_mcu r = size_of _ _ _ r c.order-per_mcu.ensures.value c.head.ensures.value c.interval.ensures in
    let both = read_both r mid new c.loop-done.done c.read_some-some.result per c.loop-done.blocks c.read_some-some.new.blocks i.run size e.fits i.fits (record { read = i.read; in_range = i.in_range }) (record { read = e.read; in_range = e.in_range }) in
    let none : c.loop-done.done + c.read_some-some.result ≡ c.loop-done.done = omega (arith, c.if-some-eq0.true) in
    (subst (λ (n : ℕ). HaveRead r new n (put_mid (c.loop-done.done * per) (length c.loop-done.blocks - c.loop-done.done * per) c.loop-done.blocks c.read_some-some.new.blocks)) none both).read

pub returns-then-some-eq0-clause-in_range : goal.returns-then-some-eq0-clause-in_range
returns-then-some-eq0-clause-in_range c =
    let r = c.args.self.now in
    let mid = c.loop-done.self in
    let new = c.read_some-some.new.self in
    let i = c.loop-done.invariant in
    let e = c.read_some-some.ensures in
    let per = length c.order-per_mcu.result.now in
    let size : per ≡ per_mcu r = size_of _ _ _ r c.order-per_mcu.ensures.value c.head.ensures.value c.interval.ensures in
    let both = read_both r mid new c.loop-done.done c.read_some-some.result per c.loop-done.blocks c.read_some-some.new.blocks i.run size e.fits i.fits (record { read = i.read; in_range = i.in_range }) (record { read = e.read; in_range = e.in_range }) in
    let none : c.loop-done.done + c.read_some-some.result ≡ c.loop-done.done = omega (arith, c.if-some-eq0.true) in
    (subst (λ (n : ℕ). HaveRead r new n (put_mid (c.loop-done.done * per) (length c.loop-done.blocks - c.loop-done.done * per) c.loop-done.blocks c.read_some-some.new.blocks)) none both).in_range

pub returns-then-some-eq0-clause-stays : goal.returns-then-some-eq0-clause-stays
returns-then-some-eq0-clause-stays c = stays_both c.args.self.now c.loop-done.self c.read_some-some.new.self c.loop-done.invariant.stays c.read_some-some.ensures.stays

pub loop-done-init : goal.loop-done-init
loop-done-init c =
    let r = c.args.self.now in
    let blocks = c.args.blocks.now in
    let zero_blocks : 0 * per_mcu r ≡ 0 = omega arith in
    let none : take (0 * per_mcu r) blocks ≡ [] = ap (λ (n : ℕ). take n blocks) zero_blocks in
    record {
      run = refl;
      mcu = omega arith;
      few = omega (arith, c.left.ensures);
      space = refl;
      fits = omega arith;
      read = λ zs s. subst (HasRead r) (sym (ap (λ (l : List (List ℤ)). zs ++ l) none ∙ append-nil zs)) s;
      in_range = subst (All IsInRange) (sym none) (λ k d lt. absurd (omega (arith, lt)));
      stays = λ _. refl;
    }

pub returns-clause-ended : goal.returns-clause-ended
returns-clause-ended c fits =
    let r = c.args.self.now in
    let i = c.loop-done.invariant in
    let per = length c.order-per_mcu.result.now in
    let size : per ≡ per_mcu r = size_of _ _ _ r c.order-per_mcu.ensures.value c.head.ensures.value c.interval.ensures in
    let next : (c.loop-done.done + 1) * per ≤ length c.args.blocks.now = subst (λ (n : ℕ). (c.loop-done.done + 1) * n ≤ length c.args.blocks.now) (sym size) (omega (arith, fits, i.space)) in
    let more = le-div (c.loop-done.done + 1) (length c.args.blocks.now) per c.order-per_mcu.ensures.some next in
    inl (omega (arith, more, c.loop-done-test.false, c.left.ensures, i.mcu, i.few, ap (λ (o : RunOf). o.mcus) i.run))

pub returns-clause-run : goal.returns-clause-run
returns-clause-run c = c.loop-done.invariant.run

pub returns-clause-mcus : goal.returns-clause-mcus
returns-clause-mcus c = c.loop-done.invariant.mcu

pub returns-clause-few : goal.returns-clause-few
returns-clause-few c = c.loop-done.invariant.few

pub returns-clause-fits : goal.returns-clause-fits
returns-clause-fits c = c.loop-done.invariant.fits

pub returns-clause-read : goal.returns-clause-read
returns-clause-read c = c.loop-done.invariant.read

pub returns-clause-in_range : goal.returns-clause-in_range
returns-clause-in_range c = c.loop-done.invariant.in_range

pub returns-clause-stays : goal.returns-clause-stays
returns-clause-stays c = c.loop-done.invariant.stays

pub returns-clause-none : goal.returns-clause-none
returns-clause-none c = λ space first.
    let r = c.args.self.now in
    let size : length c.order-per_mcu.result.now ≡ per_mcu r = size_of _ _ _ r c.order-per_mcu.ensures.value c.head.ensures.value c.interval.ensures in
    returns-clause-ended c (omega (arith, space, size, ap (λ (n : ℕ). (n + 1) * per_mcu r) first, c.order-per_mcu.ensures.few))

pub overflow_mul-start : goal.overflow_mul-start
overflow_mul-start c =
    let r = c.args.self.now in
    let size = size_of _ _ _ r c.order-per_mcu.ensures.value c.head.ensures.value c.interval.ensures in
    omega (arith, c.loop-done.invariant.fits, ap (λ (n : ℕ). c.loop-done.done * n) size)

pub offset_bounds-blocks-start : goal.offset_bounds-blocks-start
offset_bounds-blocks-start c =
    let r = c.args.self.now in
    let size = size_of _ _ _ r c.order-per_mcu.ensures.value c.head.ensures.value c.interval.ensures in
    omega (arith, c.loop-done.invariant.fits, ap (λ (n : ℕ). c.loop-done.done * n) size)

pub slice_bounds-read_some-count : goal.slice_bounds-read_some-count
slice_bounds-read_some-count c =
    let r = c.args.self.now in
    let size = size_of _ _ _ r c.order-per_mcu.ensures.value c.head.ensures.value c.interval.ensures in
    omega (arith, c.loop-done.invariant.fits, ap (λ (n : ℕ). c.loop-done.done * n) size)

pub read_some-some-requires-clause-same : goal.read_some-some-requires-clause-same
read_some-some-requires-clause-same c = subst (λ (o : RunOf). AreSpeculationsOf o.interval c.args.speculations.now) (sym c.loop-done.invariant.run) c.requires.same

pub read_some-some-requires-clause-space : goal.read_some-some-requires-clause-space
read_some-some-requires-clause-space c =
    let r = c.args.self.now in
    let i = c.loop-done.invariant in
    let blocks = c.loop-done.blocks in
    let per = length c.order-per_mcu.result.now in
    let a = c.loop-done.done * per in
    let size : per ≡ per_mcu r = size_of _ _ _ r c.order-per_mcu.ensures.value c.head.ensures.value c.interval.ensures in
    let mine : per_mcu c.loop-done.self ≡ per_mcu r = ap (λ (o : RunOf). length (order_of o.interval.head)) i.run in
    let some : c.loop-done.done + 1 ≤ length c.args.blocks.now / per = omega (arith, c.loop-done-test.true, c.min-most.ensures) in
    let next : (c.loop-done.done + 1) * per ≤ length c.args.blocks.now = (le-div_iff_mul-le c.order-per_mcu.ensures.some).0 some in
    let long : length (take (length blocks - a) (drop a blocks)) ≡ length blocks - a = length-take-le (length blocks - a) (drop a blocks) (omega (arith, length-drop a blocks)) in
    omega (arith, mine, size, next, long, i.space)

pub returns-then-some-eq0-clause-run : goal.returns-then-some-eq0-clause-run
returns-then-some-eq0-clause-run c = c.read_some-some.ensures.run ∙ c.loop-done.invariant.run

pub returns-then-some-eq0-clause-mcus : goal.returns-then-some-eq0-clause-mcus
returns-then-some-eq0-clause-mcus c = omega (arith, c.read_some-some.ensures.mcus, c.loop-done.invariant.mcu, c.if-some-eq0.true)

pub returns-then-some-eq0-clause-few : goal.returns-then-some-eq0-clause-few
returns-then-some-eq0-clause-few c = c.read_some-some.ensures.few

pub returns-then-some-eq0-clause-fits : goal.returns-then-some-eq0-clause-fits
returns-then-some-eq0-clause-fits c =
    let per = length c.order-per_mcu.result.now in
    let space : length (put_mid (c.loop-done.done * per) (length c.loop-done.blocks - c.loop-done.done * per) c.loop-done.blocks c.read_some-some.new.blocks) ≡ length c.loop-done.blocks = same_len_mid _ _ _ _ c.read_some-some.auto.blocks in
    omega (arith, space, c.loop-done.invariant.fits)

pub returns-then-some-eq0-clause-ended : goal.returns-then-some-eq0-clause-ended
returns-then-some-eq0-clause-ended c = λ _. c.read_some-some.ensures.ended c.if-some-eq0.true

pub returns-then-some-eq0-clause-none : goal.returns-then-some-eq0-clause-none
returns-then-some-eq0-clause-none c = λ _ _. c.read_some-some.ensures.ended c.if-some-eq0.true

pub overflow_add-done : goal.overflow_add-done
overflow_add-done c =
    let i = c.loop-done.invariant in
    let e = c.read_some-some.ensures in
    omega (arith, e.mcus, e.few, i.mcu, ap (λ (o : RunOf). o.mcus) (e.run ∙ i.run), c.left.ensures)

pub loop-done-smaller : goal.loop-done-smaller
loop-done-smaller c = omega (arith, c.loop-done-test.true, c.if-some-eq0.false)

pub overflow_cast-most : goal.overflow_cast-most
overflow_cast-most c = omega (arith, c.min-most.ensures)
