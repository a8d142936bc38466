use Rattle.std.proofs.Common.{◌≡◌, ℕ, ◌≤◌, ◌+◌, ◌*◌, ◌++◌, ℤ, List, length, take, drop, sym, ap, subst, ◌∙◌, arith, rules}
use Rattle.std.specs.List.{All}
use Rattle.std.proofs.lemmas.List.{take-append-le}
use Rattle.jr_head.specs.Geometry.{order_of}
use Rattle.jr_mcu.specs.Block.{IsInRange}
use Rattle.jr_scan.specs.IntervalValue.{IntervalValue}
use Rattle.jr_scan.specs.McuReader.{McuReaderValue, HasRead, HasEnded, per_mcu}
use Rattle.jr_scan.proofs.mcu_reader.McuReader.read_some.Goals.{in-Some+else-taken-gt0, in_default}
use Rattle.jr_scan.proofs.mcu_reader.McuReader.read_some.Goals as goal

pub returns-clause-read : goal.returns-clause-read
returns-clause-read c =
    let same : c.match-find.self ≡ c.args.self.now = elim c.match-find.branch [
      | in-Some+else-taken-gt0 w ↦ w.self-is ∙ w.read_speculated-taken.ensures.none (omega (arith, w.if-taken-gt0.false))
      | in_default w ↦ w.self-is
    ] in
    let bs = c.read.new.blocks in
    let rest = drop (length c.order-per_mcu.result.now) c.match-find.blocks in
    let fits = subst (λ (r : McuReaderValue). c.read.result * per_mcu r ≤ length bs) same c.read.ensures.fits in
    let here = subst (λ (r : McuReaderValue). (zs : List (List ℤ)) → HasRead r zs → HasRead c.read.new.self (zs ++ take (c.read.result * per_mcu r) bs)) same c.read.ensures.read in
    let e = take-append-le (c.read.result * per_mcu c.args.self.now) bs rest fits in
    subst (λ (ys : List (List ℤ)). (zs : List (List ℤ)) → HasRead c.args.self.now zs → HasRead c.read.new.self (zs ++ ys)) (sym e) here

pub returns-clause-in_range : goal.returns-clause-in_range
returns-clause-in_range c =
    let same : c.match-find.self ≡ c.args.self.now = elim c.match-find.branch [
      | in-Some+else-taken-gt0 w ↦ w.self-is ∙ w.read_speculated-taken.ensures.none (omega (arith, w.if-taken-gt0.false))
      | in_default w ↦ w.self-is
    ] in
    let bs = c.read.new.blocks in
    let rest = drop (length c.order-per_mcu.result.now) c.match-find.blocks in
    let fits = subst (λ (r : McuReaderValue). c.read.result * per_mcu r ≤ length bs) same c.read.ensures.fits in
    let here = subst (λ (r : McuReaderValue). All IsInRange (take (c.read.result * per_mcu r) bs)) same c.read.ensures.in_range in
    let e = take-append-le (c.read.result * per_mcu c.args.self.now) bs rest fits in
    subst (All IsInRange) (sym e) here

pub returns-clause-stays : goal.returns-clause-stays
returns-clause-stays c =
    let same : c.match-find.self ≡ c.args.self.now = elim c.match-find.branch [
      | in-Some+else-taken-gt0 w ↦ w.self-is ∙ w.read_speculated-taken.ensures.none (omega (arith, w.if-taken-gt0.false))
      | in_default w ↦ w.self-is
    ] in
    subst (λ (r : McuReaderValue). HasEnded r → c.read.new.self ≡ r) same c.read.ensures.stays

pub returns-clause-run : goal.returns-clause-run
returns-clause-run c =
    let same : c.match-find.self ≡ c.args.self.now = elim c.match-find.branch [
      | in-Some+else-taken-gt0 w ↦ w.self-is ∙ w.read_speculated-taken.ensures.none (omega (arith, w.if-taken-gt0.false))
      | in_default w ↦ w.self-is
    ] in
    c.read.ensures.run ∙ ap (λ (r : McuReaderValue). r.run) same

pub returns-clause-mcus : goal.returns-clause-mcus
returns-clause-mcus c =
    let same : c.match-find.self ≡ c.args.self.now = elim c.match-find.branch [
      | in-Some+else-taken-gt0 w ↦ w.self-is ∙ w.read_speculated-taken.ensures.none (omega (arith, w.if-taken-gt0.false))
      | in_default w ↦ w.self-is
    ] in
    c.read.ensures.mcus ∙ ap (λ (r : McuReaderValue). r.mcu + c.read.result) same

pub returns-clause-ended : goal.returns-clause-ended
returns-clause-ended c = λ none.
    let s = c.match-find.self in
    let per : length c.order-per_mcu.result.now ≡ per_mcu s = ap (λ (o : List ℕ). length o) (c.order-per_mcu.ensures.value ∙ ap order_of (c.head.ensures.value ∙ ap (λ (i : IntervalValue). i.head) c.interval.ensures)) in
    let long : length c.read.new.blocks ≡ length c.order-per_mcu.result.now = search (rules, arith, c.read.auto.blocks) in
    c.read.ensures.ended (omega (arith, long, per, ap (λ (k : ℕ). (k + 1) * per_mcu s) none))
