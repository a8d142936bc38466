use Rattle.std.proofs.Common.{ℕ, ◌<◌, ◌∙◌, List, [], ◌∷◌, ◌++◌, get_or, take, sym, ap, subst, arith}
use Rattle.jr_scan.specs.IntervalValue.{IntervalValue}
use Rattle.jr_scan.specs.ScanValue.{intervals_of}
use Rattle.jr_mend.specs.Choice.{IsChoiceOf}
use Rattle.jr_mend.specs.Copies.{CopyValue, versions_of}
use Rattle.jr_mend.proofs.Choices.{below_all, chosen_is, stays_itself, versions_long, versions_more}
use Rattle.jr_mend.proofs.NextPositions.{segment_of, segments_long, space_of}
use Rattle.jr_mend.proofs.ScanOfCopies.{version_of}
use Rattle.jr_mend.proofs.choice.with_copy.Goals as goal

pub bounds-copies-copy : goal.bounds-copies-copy
bounds-copies-copy c = below_all c.args.copies.now c.args.i c.args.number c.args.before.copy c.requires.before.0 c.requires.before.1.is

pub bounds-segments-copy : goal.bounds-segments-copy
bounds-segments-copy c =
    let below = below_all c.args.copies.now c.args.i c.args.number c.args.before.copy c.requires.before.0 c.requires.before.1.is in
    omega (arith, below, segments_long c.args.copies.now c.args.segments.now c.args.i c.requires.at)

pub bounds-segments-last : goal.bounds-segments-last
bounds-segments-last c = omega (arith, c.requires.number, segments_long c.args.copies.now c.args.segments.now c.args.i c.requires.at)

pub has_same_bytes-requires-clause-one : goal.has_same_bytes-requires-clause-one
has_same_bytes-requires-clause-one c =
    let copies = c.args.copies.now in
    let i = c.args.i in
    let below = below_all copies i c.args.number c.args.before.copy c.requires.before.0 c.requires.before.1.is in
    let copy = c.index-copies-copy.result in
    let segment = segment_of copies c.args.segments.now i c.args.before.copy copy c.requires.at below c.index-copies-copy.is in
    (get_or copy.scan.intervals i [], segment.spelled)

pub has_same_bytes-requires-clause-other : goal.has_same_bytes-requires-clause-other
has_same_bytes-requires-clause-other c =
    let copies = c.args.copies.now in
    let i = c.args.i in
    let next = c.index-copies-last.result in
    let segment = segment_of copies c.args.segments.now i c.args.number next c.requires.at c.requires.number c.index-copies-last.is in
    (get_or next.scan.intervals i [], segment.spelled)

pub returns-then-has_same_bytes-clause-choice : goal.returns-then-has_same_bytes-clause-choice
returns-then-has_same_bytes-clause-choice c =
    let copies = c.args.copies.now in
    let i = c.args.i in
    let number = c.args.number in
    let before = c.requires.before in
    let below = below_all copies i number c.args.before.copy before.0 before.1.is in
    let copy = c.index-copies-copy.result in
    let next = c.index-copies-last.result in
    let its = segment_of copies c.args.segments.now i c.args.before.copy copy c.requires.at below c.index-copies-copy.is in
    let last = segment_of copies c.args.segments.now i number next c.requires.at c.requires.number c.index-copies-last.is in
    let same = c.has_same_bytes.ensures c.if-has_same_bytes.true i its last in
    let chosen = chosen_is copies i number c.args.before.copy before.0 before.1.is copy c.index-copies-copy.is in
    let stays = stays_itself (versions_of (take number copies) i) before.0 (version_of i next) c.args.before before.1 (sym chosen ∙ same) in
    (before.0, subst (λ (l : List IntervalValue). IsChoiceOf l before.0 c.args.before) (sym (versions_more copies i number next c.requires.number c.index-copies-last.is)) stays)

pub returns-clause-choice : goal.returns-clause-choice
returns-clause-choice c =
    let copies = c.args.copies.now in
    let i = c.args.i in
    let number = c.args.number in
    let before = c.requires.before in
    let next = c.index-copies-last.result in
    let versions = versions_of (take number copies) i in
    let chosen = chosen_is copies i number c.args.before.copy before.0 before.1.is c.index-copies-copy.result c.index-copies-copy.is in
    let is = subst (λ (v : IntervalValue). IsChoiceOf versions v c.args.before) (sym (c.interval.ensures ∙ chosen)) before.1 in
    let stated = c.with_version.ensures versions is (versions_long copies i number c.requires.number) in
    let are = ap (λ (v : IntervalValue). versions ++ v ∷ []) c.interval-2.ensures ∙ sym (versions_more copies i number next c.requires.number c.index-copies-last.is) in
    subst (λ (l : List IntervalValue). (v : IntervalValue) × IsChoiceOf l v c.with_version.result) are stated

pub unstuff-found-requires-clause-spelled : goal.unstuff-found-requires-clause-spelled
unstuff-found-requires-clause-spelled c =
    let copies = c.args.copies.now in
    let i = c.args.i in
    let below = below_all copies i c.args.number c.args.before.copy c.requires.before.0 c.requires.before.1.is in
    let copy = c.index-copies-copy.result in
    let segment = segment_of copies c.args.segments.now i c.args.before.copy copy c.requires.at below c.index-copies-copy.is in
    (get_or copy.scan.intervals i [], segment.spelled)

pub unstuff-found-requires-clause-capacity : goal.unstuff-found-requires-clause-capacity
unstuff-found-requires-clause-capacity c =
    let copies = c.args.copies.now in
    let i = c.args.i in
    let below = below_all copies i c.args.number c.args.before.copy c.requires.before.0 c.requires.before.1.is in
    space_of copies _ c.args.before.copy c.index-copies-copy.result c.requires.chosen below c.index-copies-copy.is

pub unstuff-found_next-requires-clause-spelled : goal.unstuff-found_next-requires-clause-spelled
unstuff-found_next-requires-clause-spelled c =
    let copies = c.args.copies.now in
    let i = c.args.i in
    let next = c.index-copies-last.result in
    let segment = segment_of copies c.args.segments.now i c.args.number next c.requires.at c.requires.number c.index-copies-last.is in
    (get_or next.scan.intervals i [], segment.spelled)

pub interval-requires-clause-there : goal.interval-requires-clause-there
interval-requires-clause-there c =
    let copies = c.args.copies.now in
    let i = c.args.i in
    let below = below_all copies i c.args.number c.args.before.copy c.requires.before.0 c.requires.before.1.is in
    subst (λ (d : CopyValue). i < intervals_of d.scan.head) (sym c.index-copies-copy.is) (c.requires.there c.args.before.copy c.index-copies-copy.result below)

pub interval-requires-clause-bytes : goal.interval-requires-clause-bytes
interval-requires-clause-bytes c =
    let copies = c.args.copies.now in
    let i = c.args.i in
    let below = below_all copies i c.args.number c.args.before.copy c.requires.before.0 c.requires.before.1.is in
    let copy = c.index-copies-copy.result in
    let segment = segment_of copies c.args.segments.now i c.args.before.copy copy c.requires.at below c.index-copies-copy.is in
    ap (λ (l : List ℕ). take c.unstuff-found.result l) c.deref.ensures.value ∙ c.unstuff-found.ensures.data i segment

pub interval-requires-2-clause-bytes : goal.interval-requires-2-clause-bytes
interval-requires-2-clause-bytes c =
    let copies = c.args.copies.now in
    let i = c.args.i in
    let next = c.index-copies-last.result in
    let segment = segment_of copies c.args.segments.now i c.args.number next c.requires.at c.requires.number c.index-copies-last.is in
    ap (λ (l : List ℕ). take c.unstuff-found_next.result l) c.deref-2.ensures.value ∙ c.unstuff-found_next.ensures.data i segment
