use Rattle.std.proofs.Common.{◌≡◌, ◌<◌, ◌≤◌, ◌∙◌, [], length, get_or, refl, sym, ap, arith}
use Rattle.std.proofs.lemmas.List.{get_or_default}
use Rattle.std.proofs.lemmas.Option.{slice_get_read}
use Rattle.jr_base.specs.declared.limits.TheConstants.{MAX_FILE_BYTES}
use Rattle.jr_head.specs.HeadValue.{HeadValue}
use Rattle.jr_head.proofs.HeadStays.{scan_within}
use Rattle.jr_scan.specs.ScanValue.{intervals_of}
use Rattle.jr_mend.specs.Copies.{CopyValue}
use Rattle.jr_mend.proofs.ScanOfCopies.{has_chosen, mended_whole}
use Rattle.jr_mend.proofs.mending.mend.Goals as goal

pub returns-clause-mended : goal.returns-clause-mended
returns-clause-mended c =
    let first = c.index-copies-0.result in
    let h = c.head-head.result.now in
    let source = c.file.result.now in
    let head : h ≡ first.scan.head = c.head-head.ensures.value in
    let count = c.intervals-count.ensures.value in
    let is_first = slice_get_read c.args.copies.now (length c.args.copies.now) 0 first refl c.requires.some c.index-copies-0.is in
    mended_whole c.args.copies.now c.in-Ok-write_all.choices.items c.intervals-count.result first h source c.in-Ok.file.items c.write_all.new.bytes.items c.write_image_end.new.bytes.items
    is_first head c.file.ensures count c.in-Ok.ensures.header c.in-Ok-write_all.ensures c.in-Ok-write_image_end.ensures.whole

pub returns-clause-scan : goal.returns-clause-scan
returns-clause-scan c =
    let first = c.index-copies-0.result in
    let h = c.head-head.result.now in
    let source = c.file.result.now in
    let file = c.write_image_end.new.bytes.items in
    let choices = c.in-Ok-write_all.choices.items in
    let head : h ≡ first.scan.head = c.head-head.ensures.value in
    let count = c.intervals-count.ensures.value in
    let is_first = slice_get_read c.args.copies.now (length c.args.copies.now) 0 first refl c.requires.some c.index-copies-0.is in
    let m =
    mended_whole c.args.copies.now choices c.intervals-count.result first h source c.in-Ok.file.items c.write_all.new.bytes.items file
    is_first head c.file.ensures count c.in-Ok.ensures.header c.in-Ok-write_all.ensures c.in-Ok-write_image_end.ensures.whole in
    let small : length file ≤ MAX_FILE_BYTES = omega (arith, c.if-len-gt-MAX_FILE_BYTES.false, c.len.ensures) in
    let some : 0 < intervals_of first.scan.head = omega (arith, c.intervals-count.ensures.some, count, ap intervals_of head) in
    has_chosen c.args.copies.now choices file m c.in_default.ensures.alike c.head-head.ensures.is small some

pub returns-then-len-gt-MAX_FILE_BYTES-clause-error : goal.returns-then-len-gt-MAX_FILE_BYTES-clause-error
returns-then-len-gt-MAX_FILE_BYTES-clause-error c =
    let first = c.index-copies-0.result in
    let h = c.head-head.result.now in
    let source = c.file.result.now in
    let file = c.write_image_end.new.bytes.items in
    let choices = c.in-Ok-write_all.choices.items in
    let head : h ≡ first.scan.head = c.head-head.ensures.value in
    let count = c.intervals-count.ensures.value in
    let is_first = slice_get_read c.args.copies.now (length c.args.copies.now) 0 first refl c.requires.some c.index-copies-0.is in
    let m =
    mended_whole c.args.copies.now choices c.intervals-count.result first h source c.in-Ok.file.items c.write_all.new.bytes.items file
    is_first head c.file.ensures count c.in-Ok.ensures.header c.in-Ok-write_all.ensures c.in-Ok-write_image_end.ensures.whole in
    (choices, file, m, omega (arith, c.if-len-gt-MAX_FILE_BYTES.true, c.len.ensures))

pub write_header-requires : goal.write_header-requires
write_header-requires c =
    let first = c.index-copies-0.result in
    let head : c.head-head.result.now ≡ first.scan.head = c.head-head.ensures.value in
    omega (arith, scan_within first.file [] first.scan.head c.head-head.ensures.is.head, ap (λ (h : HeadValue). h.scan_at) head, ap length c.file.ensures)

pub write_all-requires-clause-there : goal.write_all-requires-clause-there
write_all-requires-clause-there c = λ k d lt.
    let copies = c.args.copies.now in
    let first = c.index-copies-0.result in
    let is : get_or copies 0 first ≡ get_or copies 0 (get_or copies k d) = get_or_default copies 0 first (get_or copies k d) c.requires.some in
    let same = c.in_default.ensures.alike k d lt ∙ sym (ap (λ (x : CopyValue). x.scan.head) (c.index-copies-0.is ∙ is)) in
    omega (arith, c.intervals-count.ensures.value, ap intervals_of c.head-head.ensures.value, ap intervals_of same)
