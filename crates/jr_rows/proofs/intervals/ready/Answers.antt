use Rattle.std.proofs.Common.{rules, arith, ap, zero-add, ◌∙◌, ◌≡◌, ℕ, ◌+◌, ◌-◌, ◌<◌, length}
use Rattle.jr_head.specs.HeadValue.{HeadValue}
use Rattle.jr_scan.specs.ScanValue.{intervals_of, mcus_in}
use Rattle.jr_scan.specs.declared.cursor.Cursor.{Cursor}
use Rattle.jr_rows.proofs.IntervalPlaces.{next_there}
use Rattle.jr_rows.proofs.RowCursors.{start_to, starts}
use Rattle.jr_rows.proofs.intervals.ready.Goals as goal

pub mcus_in-requires-2 : goal.mcus_in-requires-2
mcus_in-requires-2 c =
    let h = c.args.scan.now.head in
    let r = c.args.cursor.now in
    let number : r.number < intervals_of h = omega (arith, c.requires.lies.number, c.intervals.ensures.value, c.intervals.ensures.count) in
    let left : c.mcus_in.result ≡ mcus_in h r.number = c.mcus_in.ensures.value ∙ ap (λ (x : HeadValue). mcus_in x r.number) c.head-2.ensures.value in
    let ended : r.mcu ≡ mcus_in h r.number = omega (arith, left, c.requires.lies.at.few, c.if-left-gt0.false) in
    let there = (next_there h r.number r.mcu number ended c.requires.more).0 in
    search (rules, there, ap (λ (k : Cursor). k.number) c.at_start.ensures)

pub returns-clause-lies : goal.returns-clause-lies
returns-clause-lies c =
    let h = c.args.scan.now.head in
    let r = c.args.cursor.now in
    let number : r.number < intervals_of h = omega (arith, c.requires.lies.number, c.intervals.ensures.value, c.intervals.ensures.count) in
    let left : c.mcus_in.result ≡ mcus_in h r.number = c.mcus_in.ensures.value ∙ ap (λ (x : HeadValue). mcus_in x r.number) c.head-2.ensures.value in
    let ended : r.mcu ≡ mcus_in h r.number = omega (arith, left, c.requires.lies.at.few, c.if-left-gt0.false) in
    let there = (next_there h r.number r.mcu number ended c.requires.more).0 in
    let more : r.number + 1 < length c.args.scan.now.intervals = omega (arith, there, c.intervals.ensures.value, c.intervals.ensures.count) in
    starts c.args.scan.now (r.number + 1) c.at_start.result more c.at_start.ensures

pub returns-clause-number : goal.returns-clause-number
returns-clause-number c =
    let h = c.args.scan.now.head in
    let r = c.args.cursor.now in
    let number : r.number < intervals_of h = omega (arith, c.requires.lies.number, c.intervals.ensures.value, c.intervals.ensures.count) in
    let left : c.mcus_in.result ≡ mcus_in h r.number = c.mcus_in.ensures.value ∙ ap (λ (x : HeadValue). mcus_in x r.number) c.head-2.ensures.value in
    let ended : r.mcu ≡ mcus_in h r.number = omega (arith, left, c.requires.lies.at.few, c.if-left-gt0.false) in
    let there = next_there h r.number r.mcu number ended c.requires.more in
    omega (arith, there.0, ap (λ (k : Cursor). k.number) c.at_start.ensures)

pub returns-clause-to : goal.returns-clause-to
returns-clause-to c =
    let h = c.args.scan.now.head in
    let r = c.args.cursor.now in
    let number : r.number < intervals_of h = omega (arith, c.requires.lies.number, c.intervals.ensures.value, c.intervals.ensures.count) in
    let left : c.mcus_in.result ≡ mcus_in h r.number = c.mcus_in.ensures.value ∙ ap (λ (x : HeadValue). mcus_in x r.number) c.head-2.ensures.value in
    let ended : r.mcu ≡ mcus_in h r.number = omega (arith, left, c.requires.lies.at.few, c.if-left-gt0.false) in
    let there = next_there h r.number r.mcu number ended c.requires.more in
    omega (arith, start_to h _ c.at_start.result c.at_start.ensures, there.1)

-- what is left of an interval that is not read to its end
left_of : (at all left : ℕ) → all ≡ left → 0 < all - at → at + (all - at) ≡ left
left_of at all left e more = omega (arith, e, more)

within : (number all own most : ℕ) → number < own → all ≡ own → all ≡ most → number < most
within number all own most lt e is = omega (arith, lt, e, is)

pub returns-then-left-gt0-clause-left : goal.returns-then-left-gt0-clause-left
returns-then-left-gt0-clause-left c =
    let left = c.mcus_in.ensures.value ∙ ap (λ (x : HeadValue). mcus_in x c.args.cursor.now.number) c.head-2.ensures.value in
    left_of c.args.cursor.now.mcu c.mcus_in.result _ left c.if-left-gt0.true

pub returns-then-left-gt0-clause-number : goal.returns-then-left-gt0-clause-number
returns-then-left-gt0-clause-number c = within c.args.cursor.now.number c.intervals.result _ _ c.requires.lies.number c.intervals.ensures.value c.intervals.ensures.count

pub returns-then-left-gt0-clause-lies : goal.returns-then-left-gt0-clause-lies
returns-then-left-gt0-clause-lies c = c.requires.lies

pub returns-clause-left : goal.returns-clause-left
returns-clause-left c =
    let left = c.mcus_in-2.ensures.value ∙ ap (λ (x : HeadValue). mcus_in x c.at_start.result.number) c.head-3.ensures.value in
    let none = ap (λ (k : Cursor). k.mcu) c.at_start.ensures in
    ap (λ (n : ℕ). n + c.mcus_in-2.result) none ∙ zero-add _ ∙ left
