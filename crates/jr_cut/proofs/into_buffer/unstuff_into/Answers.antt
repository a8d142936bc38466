use Rattle.std.proofs.Common.{◌≡◌, ℕ, ◌+◌, ◌-◌, ◌<◌, ◌≤◌, List, length, take, sym, ap, subst, length-drop, arith, rules}
use Rattle.std.proofs.lemmas.List.{take_more_set}
use borrow.Rule.Slice.PartMut.{put_mid}
use Rattle.jr_base.specs.declared.marker.TheConstants.{PREFIX}
use Rattle.jr_cut.specs.Cut.{IsRaw}
use Rattle.jr_cut.proofs.Cuts.{stop_end, stop_code, rest_is, fill_some, raw_stuffed}
use Rattle.jr_cut.proofs.Slices.{fill_full, fill_next, plain_next}
use Rattle.jr_cut.proofs.Buffers.{run_stored}
use Rattle.jr_cut.proofs.into_buffer.unstuff_into.Goals as goal
use Rattle.jr_cut.proofs.into_buffer.unstuff_into.Goals.{then-found-buffer-via-then-found-buffer, then-found-buffer-via-else-found-buffer+then-next-raw, then-found-buffer-via-else-found-buffer+else-next-raw+then-raw-next-ne0}

pub returns-then-found-buffer-clause-spells : goal.returns-then-found-buffer-clause-spells
returns-then-found-buffer-clause-spells c =
    let raw = c.args.raw.now in
    let keep = c.bytes.invariant in
    let e = c.copy_plain-count.ensures in
    let n = c.copy_plain-count.result in
    let fits : c.bytes.read + n ≤ length raw = omega (arith, e.within, ap length (rest_is raw c.bytes.read), length-drop c.bytes.read raw, keep.0) in
    run_stored raw c.bytes.buffer c.copy_plain-count.new.buffer c.bytes.read c.bytes.found n keep.0 (search (rules, arith, keep.1)) fits (search (rules, arith, e.long, keep.1, keep.2)) (search (rules, arith, e.fits, e.long)) e.copied e.plain keep.3

pub returns-then-found-buffer-clause-stop : goal.returns-then-found-buffer-clause-stop
returns-then-found-buffer-clause-stop c less =
    let raw = c.args.raw.now in
    let keep = c.bytes.invariant in
    let e = c.copy_plain-count.ensures in
    let n = c.copy_plain-count.result in
    let at = c.bytes.read in
    let end = at + n in
    let f = c.fill_count.result in
    let fits : at + n ≤ length raw = omega (arith, e.within, ap length (rest_is raw at), length-drop at raw, keep.0) in
    let full = fill_full raw end f c.fill_count.ensures.full in
    elim c.then-found-buffer.branch [
      | then-found-buffer-via-then-found-buffer w ↦ absurd (search (rules, arith, less, w.if-found-buffer.true, e.long, keep.1, keep.2))
      | then-found-buffer-via-else-found-buffer+then-next-raw w ↦ stop_end raw end f fits full w.if-next-raw.true
      | then-found-buffer-via-else-found-buffer+else-next-raw+then-raw-next-ne0 w ↦
          let lt : end < length raw = omega (arith, w.if-next-raw.false) in
          let buffer : c.copy_plain-count.result < length c.bytes.buffer - c.bytes.found = search (rules, arith, less, keep.1, keep.2) in
          let some = fill_some raw end f lt (plain_next raw at n lt (λ h. e.next h (search (rules, arith, buffer)))) (λ h. fill_next raw end f h c.fill_count.ensures.next) in
          stop_code raw end f full w.if-next-raw.false some (fill_next raw end f w.if-next-raw.false c.fill_count.ensures.next) w.if-raw-next-ne0.true
    ]

pub bytes-preserved : goal.bytes-preserved
bytes-preserved c =
    let raw = c.args.raw.now in
    let buffer = c.bytes.buffer in
    let keep = c.bytes.invariant in
    let e = c.copy_plain-count.ensures in
    let n = c.copy_plain-count.result in
    let at = c.bytes.read in
    let end = at + n in
    let f = c.fill_count.result in
    let store = put_mid c.bytes.found (length buffer - c.bytes.found) buffer c.copy_plain-count.new.buffer in
    let fits : at + n ≤ length raw = omega (arith, e.within, ap length (rest_is raw at), length-drop at raw, keep.0) in
    let part_long : length c.copy_plain-count.new.buffer ≡ length buffer - c.bytes.found = search (rules, arith, e.long, keep.1, keep.2) in
    let run = run_stored raw buffer c.copy_plain-count.new.buffer at c.bytes.found n keep.0 (search (rules, arith, keep.1)) fits part_long (search (rules, arith, e.fits, e.long)) e.copied e.plain keep.3 in
    let store_long : length store ≡ length buffer = search (rules, arith, part_long, keep.1, keep.2) in
    let less : c.bytes.found + n < length store = search (rules, arith, c.if-found-buffer.false, e.fits, e.long, part_long, store_long, keep.1, keep.2) in
    let inside : n < length buffer - c.bytes.found = omega (arith, less, store_long) in
    let full = fill_full raw end f c.fill_count.ensures.full in
    let lt : end < length raw = omega (arith, c.if-next-raw.false) in
    let some = fill_some raw end f lt (plain_next raw at n lt (λ h. e.next h (search (rules, arith, inside)))) (λ h. fill_next raw end f h c.fill_count.ensures.next) in
    let stuffed = raw_stuffed raw (take (c.bytes.found + n) store) end f c.if-next-raw.false full some c.if-raw-next-ne0.false run in
    let stated = subst (λ (l : List ℕ). IsRaw (take (end + f + 1) raw) l) (sym (take_more_set store (c.bytes.found + n) PREFIX less)) stuffed in
    (omega (arith, c.if-next-raw.false), search (rules, arith, less), search (rules, arith, store_long, keep.2), stated)
