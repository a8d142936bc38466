use Rattle.std.proofs.Common.{refl, arith}
use Rattle.jr_mend.proofs.Readings.{becomes, is_too_long}
use Rattle.jr_mend.proofs.resync.resynchronised.Goals as goal

pub returns-then-len-gt-MAX_FILE_BYTES-clause-fault : goal.returns-then-len-gt-MAX_FILE_BYTES-clause-fault
returns-then-len-gt-MAX_FILE_BYTES-clause-fault c =
    let read = c.in_ok-ended.ensures in
    let is = c.in_ok-write_image_end.ensures.whole _ _ read.read.written in
    is_too_long c.args.file.now c.args.head.now c.read_on.new.self c.in_ok-ended.ended read.read read.ends c.write_image_end.new.bytes.items is (omega (arith, c.len.ensures, c.if-len-gt-MAX_FILE_BYTES.true))

pub returns-clause-resynced : goal.returns-clause-resynced
returns-clause-resynced c =
    let read = c.in_ok-ended.ensures in
    let is = c.in_ok-write_image_end.ensures.whole _ _ read.read.written in
    becomes c.args.file.now c.args.head.now c.read_on.new.self c.in_ok-ended.ended read.read read.ends _ _ _ c.requires is (omega (arith, c.len.ensures, c.if-len-gt-MAX_FILE_BYTES.false)) refl refl
