use Rattle.std.proofs.Common.{rules, arith, subst, ◌≡◌, None, Option}
use Rattle.std.specs.Prelude.{IfNone}
use Rattle.jri_memory.specs.Calls.{IsHeaderOf, ReportsNoSize}
use Rattle.jri_memory.proofs.Headers.{header_stays, refusal_stays, size_is_stated, size_stays}
use Rattle.jri_memory.specs.declared.frame_size.FrameSize.{FrameSize}
use Rattle.jri_memory.proofs.calls.read_header.Goals as goal

pub returns-in-Ok-Some-clause-stays : goal.returns-in-Ok-Some-clause-stays
returns-in-Ok-Some-clause-stays c answer whole can =
    let of_bytes : IsHeaderOf c.args.file.now c.of.result = search rules in
    header_stays c.args.file.now whole c.of.result can of_bytes

pub returns-in-Err-clause-refused : goal.returns-in-Err-clause-refused
returns-in-Err-clause-refused c answer =
    let so_far = c.in-Err.ensures.refusal (c.status_of.ensures.of_the_file answer) in
    record {
      fault = c.in-Err.refusal;
      is = so_far.is;
      number_is = c.refused.ensures.number;
      detail_is = c.refused.ensures.detail;
    }

pub returns-in-Err-clause-refused_for_good : goal.returns-in-Err-clause-refused_for_good
returns-in-Err-clause-refused_for_good c answer partial whole can =
    let so_far = c.in-Err.ensures.refusal (c.status_of.ensures.of_the_file answer) in
    refusal_stays c.args.file.now whole c.in-Err.refusal _ _ can (so_far.stays partial) so_far.is c.refused.ensures.number c.refused.ensures.detail

pub returns-in-Err-clause-size : goal.returns-in-Err-clause-size
returns-in-Err-clause-size c answer =
    let size = c.size_of_refused.ensures in
    let stated = c.refused.ensures in
    size_is_stated c.args.file.now c.size_of_refused.result c.refused.result size.some (size.none (c.status_of.ensures.of_the_file answer)) stated.size stated.no_size

pub returns-in-Err-clause-size_stays : goal.returns-in-Err-clause-size_stays
returns-in-Err-clause-size_stays c answer =
    let size = c.size_of_refused.ensures in
    let stated = c.refused.ensures in
    size_stays c.args.file.now c.refused.result (size_is_stated c.args.file.now c.size_of_refused.result c.refused.result size.some (size.none (c.status_of.ensures.of_the_file answer)) stated.size stated.no_size)

pub returns-in-Err-clause-no_size : goal.returns-in-Err-clause-no_size
returns-in-Err-clause-no_size c done kept =
    let one : c.status_of.result ≡ 1 = omega (arith, done, kept, c.status_of.ensures.few, c.status_of.ensures.some) in
    let none : c.size_of_refused.result ≡ None = c.size_of_refused.ensures.memory (c.status_of.ensures.of_memory one) in
    subst (λ (o : Option FrameSize). IfNone o (ReportsNoSize c.refused.result)) none c.refused.ensures.no_size
