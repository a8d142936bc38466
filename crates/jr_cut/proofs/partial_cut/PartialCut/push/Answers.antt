use Rattle.std.proofs.Common.{rules, ◌≢◌, ◌+◌, length, length-append, ap, arith}
use Rattle.jr_cut.specs.declared.scan_end.ScanEnd.TheVariants.{EndOfFile}
use Rattle.jr_cut.specs.PartialCut.{PartialCutValue}
use Rattle.jr_cut.proofs.PartialSegments.{cut_ended, few_datas}
use Rattle.jr_cut.proofs.partial_cut.PartialCut.push.Goals as goal

pub returns-then-ne-clause-pushed : goal.returns-then-ne-clause-pushed
returns-then-ne-clause-pushed c =
    let ended : c.args.self.now.ended ≢ EndOfFile = search (rules, c.if-ne.ensures, c.ne.ensures) in
    λ start bytes h. cut_ended start bytes c.args.more.now c.args.self.now ended h

pub returns-in_err-take-clause-few : goal.returns-in_err-take-clause-few
returns-in_err-take-clause-few c = omega (arith, ap (λ (v : PartialCutValue). v.at + length v.rest) (c.in_err-take.ensures.memory c.self.inside.ended), ap (λ (v : PartialCutValue). v.at + length v.rest) c.self.view_is)

pub returns-then-ne-clause-count : goal.returns-then-ne-clause-count
returns-then-ne-clause-count c = omega (arith, few_datas c.self.inside.segments c.self.invariant, ap (λ (v : PartialCutValue). length v.segments) c.self.view_is, ap (λ (v : PartialCutValue). v.intervals) c.self.view_is)

pub returns-in_err-take-clause-count : goal.returns-in_err-take-clause-count
returns-in_err-take-clause-count c = few_datas c.take.new.self c.take.ensures.is

pub returns-clause-count : goal.returns-clause-count
returns-clause-count c = few_datas c.read_on.new.self c.read_on.ensures.is

pub returns-clause-few : goal.returns-clause-few
returns-clause-few c =
    let o = c.self.inside.segments in
    omega (arith, c.in_ok-self-inside.ensures.all.bytes, ap length c.in_ok-take.ensures.all, length-append o.bytes.rest c.args.more.now, c.take.ensures.same.1, ap (λ (v : PartialCutValue). v.at + length v.rest) c.self.view_is)
