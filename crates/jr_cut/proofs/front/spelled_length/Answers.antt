use Rattle.std.proofs.Common.{◌≡◌, ◌+◌, ◌-◌, ◌<◌, ◌≤◌, ◌++◌, ◌∷◌, [], length, take, drop, ap, length-append, length-drop, length-take-le, arith}
use Rattle.jr_base.specs.declared.marker.TheConstants.{PREFIX}
use Rattle.jr_cut.proofs.Cuts.{stop_end, stop_code, rest_is, fill_some, raw_stuffed}
use Rattle.jr_cut.proofs.Unstuffed.{raw_run}
use Rattle.jr_cut.proofs.Slices.{fill_full, fill_next, plain_each, plain_next}
use Rattle.jr_cut.proofs.front.spelled_length.Goals as goal
use Rattle.jr_cut.proofs.front.spelled_length.Goals.{then-next-bytes-via-then-next-bytes, then-next-bytes-via-else-next-bytes+then-bytes-next-ne0}

pub returns-then-found-count-clause-spells : goal.returns-then-found-count-clause-spells
returns-then-found-count-clause-spells c =
    let raw = c.args.bytes.now in
    let at = c.bytes.at in
    let n = c.plain_within-plain.result in
    let e = c.plain_within-plain.ensures in
    let end = at + n in
    let before = c.bytes.invariant.2 in
    let space : at + n ≤ length raw = omega (arith, e.within, ap length (rest_is raw at), length-drop at raw, c.bytes.invariant.0) in
    let found = before.0 ++ take n (drop at raw) in
    let long : length found ≡ c.bytes.found + n = omega (arith, length-append before.0 (take n (drop at raw)), length-take-le n (drop at raw) (omega (arith, length-drop at raw, space)), before.1) in (
      found,
      raw_run raw before.0 at n space (plain_each raw at n e.plain) before.2,
      omega (arith, long, e.few, c.bytes.invariant.1),
      λ less. absurd (omega (arith, less, long, c.if-found-count.true)),
    )

pub returns-then-next-bytes-clause-spells : goal.returns-then-next-bytes-clause-spells
returns-then-next-bytes-clause-spells c =
    let raw = c.args.bytes.now in
    let at = c.bytes.at in
    let n = c.plain_within-plain.result in
    let e = c.plain_within-plain.ensures in
    let end = at + n in
    let f = c.fill_count.result in
    let before = c.bytes.invariant.2 in
    let space : at + n ≤ length raw = omega (arith, e.within, ap length (rest_is raw at), length-drop at raw, c.bytes.invariant.0) in
    let found = before.0 ++ take n (drop at raw) in
    let long : length found ≡ c.bytes.found + n = omega (arith, length-append before.0 (take n (drop at raw)), length-take-le n (drop at raw) (omega (arith, length-drop at raw, space)), before.1) in
    let full = fill_full raw end f c.fill_count.ensures.full in (
      found,
      raw_run raw before.0 at n space (plain_each raw at n e.plain) before.2,
      omega (arith, long, e.few, c.bytes.invariant.1),
      λ less. elim c.then-next-bytes.branch [
        | then-next-bytes-via-then-next-bytes w ↦ stop_end raw end f space full w.if-next-bytes.true
        | then-next-bytes-via-else-next-bytes+then-bytes-next-ne0 w ↦
            let lt : end < length raw = omega (arith, w.if-next-bytes.false) in
            let fewer : n < c.args.count - c.bytes.found = omega (arith, less, long) in
            let some = fill_some raw end f lt (plain_next raw at n lt (λ h. e.next h fewer)) (λ h. fill_next raw end f h c.fill_count.ensures.next) in
            stop_code raw end f full w.if-next-bytes.false some (fill_next raw end f w.if-next-bytes.false c.fill_count.ensures.next) w.if-bytes-next-ne0.true
      ],
    )

pub bytes-preserved : goal.bytes-preserved
bytes-preserved c =
    let raw = c.args.bytes.now in
    let at = c.bytes.at in
    let n = c.plain_within-plain.result in
    let e = c.plain_within-plain.ensures in
    let end = at + n in
    let f = c.fill_count.result in
    let before = c.bytes.invariant.2 in
    let space : at + n ≤ length raw = omega (arith, e.within, ap length (rest_is raw at), length-drop at raw, c.bytes.invariant.0) in
    let found = before.0 ++ take n (drop at raw) in
    let long : length found ≡ c.bytes.found + n = omega (arith, length-append before.0 (take n (drop at raw)), length-take-le n (drop at raw) (omega (arith, length-drop at raw, space)), before.1) in
    let full = fill_full raw end f c.fill_count.ensures.full in
    let lt : end < length raw = omega (arith, c.if-next-bytes.false) in
    let fewer : c.bytes.found + n < c.args.count = omega (arith, e.few, c.bytes.invariant.1, c.if-found-count.false) in
    let some = fill_some raw end f lt (plain_next raw at n lt (λ h. e.next h (omega (arith, fewer)))) (λ h. fill_next raw end f h c.fill_count.ensures.next) in
    let run = raw_run raw before.0 at n space (plain_each raw at n e.plain) before.2 in
    (omega (arith, c.if-next-bytes.false), omega (arith, fewer), (found ++ PREFIX ∷ [], omega (arith, long, length-append found (PREFIX ∷ [])), raw_stuffed raw found end f c.if-next-bytes.false full some c.if-bytes-next-ne0.false run))
