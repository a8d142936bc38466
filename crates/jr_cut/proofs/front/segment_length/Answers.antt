use Rattle.std.proofs.Common.{◌≤◌, length, take, refl, inl, inr, length-take-le, arith, rules}
use Rattle.std.proofs.lemmas.Bool.{cases_lt}
use Rattle.jr_cut.proofs.Cuts.{stop_end}
use Rattle.jr_cut.proofs.Unstuffed.{raw_long}
use Rattle.jr_cut.proofs.front.segment_length.Goals as goal

pub returns-clause-stop : goal.returns-clause-stop
returns-clause-stop c =
    let bytes = c.args.bytes.now in
    let r = c.spelled_length.result in
    let s = c.spelled_length.ensures.spells in
    let within : r ≤ length bytes = c.spelled_length.ensures.within in
    elim (cases_lt (length s.0) (length bytes)) [
      | inl less ↦ s.3 (search (rules, arith, less))
      | inr all ↦
          let long : length s.0 ≤ r = omega (arith, raw_long (take r bytes) s.0 s.1, length-take-le r bytes within) in
          stop_end bytes r 0 (omega (arith, within)) refl (omega (arith, all, long, within))
    ]
