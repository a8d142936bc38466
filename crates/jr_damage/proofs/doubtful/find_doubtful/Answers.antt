use Rattle.std.proofs.Common.{◌≡◌, ℕ, ◌+◌, ◌*◌, ◌<◌, List, ◌++◌, IsTrue, inl, length, take, drop, ap, sym, subst, ◌∙◌, length-append, length-drop, arith, rules}
use Rattle.std.specs.Prelude.{ℤ}
use Rattle.std.proofs.lemmas.List.{append-nil, take_all}
use Rattle.std.proofs.Math.Seq.{take-append_seam}
use Rattle.jr_head.specs.HeadValue.{HeadValue}
use Rattle.jr_head.specs.Geometry.{IsValid, order_of}
use Rattle.jr_scan.specs.declared.place.Place.{Place}
use Rattle.jr_scan.specs.McuReader.{HasRead, HasEnded, per_mcu}
use Rattle.jr_scan.specs.Run.{RunOf}
use Rattle.jr_damage.specs.Doubtful.{IsDoubtfulMcu, IsFirstDoubtful}
use Rattle.jr_damage.proofs.Doubts.{one_taken, sought_more, sought_all, found_first}
use Rattle.jr_damage.proofs.doubtful.find_doubtful.Goals as goal

pub returns-then-read-eq0-clause-none : goal.returns-then-read-eq0-clause-none
returns-then-read-eq0-clause-none c =
    let i = c.args.interval in
    let s = c.loop-number.invariant.1 in
    let r = c.loop-number.reader in
    let new = c.read.new.self in
    let none : c.read.result * per_mcu r ≡ 0 = ap (λ (k : ℕ). k * per_mcu r) c.if-read-eq0.true ∙ omega arith in
    let read = c.read.ensures.read s.zs s.read in
    let same : HasRead new s.zs = subst (HasRead new) (append-nil s.zs) (subst (λ (k : ℕ). HasRead new (s.zs ++ take k c.read.new.blocks)) none read) in
    let mcu : new.mcu ≡ c.loop-number.number = omega (arith, c.read.ensures.mcus, c.if-read-eq0.true, s.mcu) in
    let per : per_mcu r ≡ length c.order-per_mcu.result.now = ap (λ (o : RunOf). length (order_of o.interval.head)) s.run ∙ ap (λ (o : List ℕ). length o) (sym (c.order-per_mcu.ensures.value ∙ ap order_of c.head-head.ensures.value)) in
    let long : length c.read.new.blocks ≡ length c.order-per_mcu.result.now = search (rules, arith, c.loop-number.invariant.0, c.order-per_mcu.ensures.few) in
    let one : (c.read.result + 1) * per_mcu r ≡ per_mcu r = ap (λ (k : ℕ). (k + 1) * per_mcu r) c.if-read-eq0.true ∙ omega arith in
    let ended : HasEnded new = c.read.ensures.ended (omega (arith, one, per, long)) in
    let valid : IsValid new.run.interval.head = subst (λ (o : RunOf). IsValid o.interval.head) (sym c.read.ensures.run) c.place-from.ensures.valid in
    sought_all i new c.loop-number.number valid (record { run = c.read.ensures.run ∙ s.run; mcu = mcu; zs = s.zs; read = same; none = s.none }) ended

pub returns-clause-none : goal.returns-clause-none
returns-clause-none c =
    let s = c.loop-number.invariant.1 in
    let valid : IsValid c.args.interval.head = subst IsValid c.head-head.ensures.value c.head-head.ensures.valid in
    let all : c.loop-number.reader.mcu ≡ c.loop-number.reader.run.mcus = search (rules, arith, s.mcu, s.run, s.read.few, c.loop-number-test.false, c.mcus-mcus.ensures) in
    sought_all c.args.interval c.loop-number.reader c.loop-number.number (subst (λ (o : RunOf). IsValid o.interval.head) (sym s.run) valid) s (inl all)

pub returns-then-is_doubtful_mcu-clause-some : goal.returns-then-is_doubtful_mcu-clause-some
returns-then-is_doubtful_mcu-clause-some c =
    let i = c.args.interval in
    let s = c.loop-number.invariant.1 in
    let r = c.loop-number.reader in
    let new = c.read.new.self in
    let ys = c.read.new.blocks in
    let len = length c.order-per_mcu.result.now in
    let per : per_mcu r ≡ len = ap (λ (o : RunOf). length (order_of o.interval.head)) s.run ∙ ap (λ (o : List ℕ). length o) (sym (c.order-per_mcu.ensures.value ∙ ap order_of c.head-head.ensures.value)) in
    let long : length ys ≡ len = search (rules, arith, c.loop-number.invariant.0, c.order-per_mcu.ensures.few) in
    let some : 0 < c.read.result = search (rules, arith, c.if-read-eq0.false) in
    let one : c.read.result ≡ 1 = one_taken c.read.result (per_mcu r) some (omega (arith, per, c.order-per_mcu.ensures.some)) (omega (arith, c.read.ensures.fits, per, long)) in
    let all : c.read.result * per_mcu r ≡ length ys = ap (λ (k : ℕ). k * per_mcu r) one ∙ omega (arith, per, long) in
    let stated = subst (λ (k : ℕ). HasRead new (s.zs ++ take k ys)) all (c.read.ensures.read s.zs s.read) in
    let read = subst (λ (x : List (List ℤ)). HasRead new (s.zs ++ x)) (take_all (length ys) ys (omega arith)) stated in
    let mcu : new.mcu ≡ r.mcu + 1 = omega (arith, c.read.ensures.mcus, one) in
    let units : length ys ≡ length (order_of i.head) = omega (arith, long, ap (λ (o : List ℕ). length o) (c.order-per_mcu.ensures.value ∙ ap order_of c.head-head.ensures.value)) in
    let front : take len (ys ++ drop len c.loop-number.units) ≡ ys = ap (λ (k : ℕ). take k (ys ++ drop len c.loop-number.units)) (sym long) ∙ take-append_seam ys (drop len c.loop-number.units) in
    let stated_is : IsTrue c.is_doubtful_mcu.result = search (rules, c.if-is_doubtful_mcu.true) in
    let is_new = subst (λ (x : List (List ℤ)). IsDoubtfulMcu c.head-head.result.now x) front (c.is_doubtful_mcu.ensures.0 stated_is) in
    let is = subst (λ (h : HeadValue). IsDoubtfulMcu h ys) c.head-head.ensures.value is_new in
    let found = found_first i r new c.loop-number.number ys s c.read.ensures.run mcu units read is in
    let from : r.place.bit ≡ c.place-from.result.bit = ap (λ (p : Place). p.bit) (sym c.place-from.ensures.value) in
    let to : new.place.bit ≡ c.place-to.result.bit = ap (λ (p : Place). p.bit) (sym c.place-to.ensures.value) in
    subst (λ (b : ℕ). IsFirstDoubtful i (record { number = c.loop-number.number; from = c.place-from.result.bit; to = b })) to
    (subst (λ (b : ℕ). IsFirstDoubtful i (record { number = c.loop-number.number; from = b; to = new.place.bit })) from found)

pub loop-number-preserved : goal.loop-number-preserved
loop-number-preserved c =
    let i = c.args.interval in
    let s = c.loop-number.invariant.1 in
    let r = c.loop-number.reader in
    let new = c.read.new.self in
    let ys = c.read.new.blocks in
    let len = length c.order-per_mcu.result.now in
    let per : per_mcu r ≡ len = ap (λ (o : RunOf). length (order_of o.interval.head)) s.run ∙ ap (λ (o : List ℕ). length o) (sym (c.order-per_mcu.ensures.value ∙ ap order_of c.head-head.ensures.value)) in
    let long : length ys ≡ len = search (rules, arith, c.loop-number.invariant.0, c.order-per_mcu.ensures.few) in
    let some : 0 < c.read.result = search (rules, arith, c.if-read-eq0.false) in
    let one : c.read.result ≡ 1 = one_taken c.read.result (per_mcu r) some (omega (arith, per, c.order-per_mcu.ensures.some)) (omega (arith, c.read.ensures.fits, per, long)) in
    let all : c.read.result * per_mcu r ≡ length ys = ap (λ (k : ℕ). k * per_mcu r) one ∙ omega (arith, per, long) in
    let stated = subst (λ (k : ℕ). HasRead new (s.zs ++ take k ys)) all (c.read.ensures.read s.zs s.read) in
    let read = subst (λ (x : List (List ℤ)). HasRead new (s.zs ++ x)) (take_all (length ys) ys (omega arith)) stated in
    let mcu : new.mcu ≡ r.mcu + 1 = omega (arith, c.read.ensures.mcus, one) in
    let units : length ys ≡ length (order_of i.head) = omega (arith, long, ap (λ (o : List ℕ). length o) (c.order-per_mcu.ensures.value ∙ ap order_of c.head-head.ensures.value)) in
    let front : take len (ys ++ drop len c.loop-number.units) ≡ ys = ap (λ (k : ℕ). take k (ys ++ drop len c.loop-number.units)) (sym long) ∙ take-append_seam ys (drop len c.loop-number.units) in
    let last : IsDoubtfulMcu i.head ys → ⊥ = λ is.
    let is_head = subst (λ (h : HeadValue). IsDoubtfulMcu h ys) (sym c.head-head.ensures.value) is in
    let stated_is : IsTrue c.is_doubtful_mcu.result = c.is_doubtful_mcu.ensures.1 (subst (λ (x : List (List ℤ)). IsDoubtfulMcu c.head-head.result.now x) (sym front) is_head) in
    search (rules, stated_is, c.if-is_doubtful_mcu.false) in
    let ten : length (ys ++ drop len c.loop-number.units) ≡ 10 = omega (arith, length-append ys (drop len c.loop-number.units), length-drop len c.loop-number.units, long, c.loop-number.invariant.0, c.order-per_mcu.ensures.few) in
    (ten, sought_more i r new c.loop-number.number ys s c.read.ensures.run mcu units read last)
