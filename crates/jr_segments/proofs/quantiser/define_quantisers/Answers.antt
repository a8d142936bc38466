use Rattle.std.proofs.Common.{length-set}
use Rattle.std.proofs.lemmas.Result.{err_from_is_err_and}
use Rattle.jr_segments.specs.Tests.{first_fault}
use Rattle.jr_segments.specs.Quantisers.{elements_len, quantisation_tests, quantisations_tests}
use Rattle.jr_segments.proofs.TableLaws.{tests_go_on, tests_stop, tests_end}
use Rattle.jr_segments.proofs.QuantiserLaws.{defined_more, defined_all}
use Rattle.jr_segments.proofs.quantiser.define_quantisers.Goals as goal

pub returns-in_err-quantisation-clause-obeys : goal.returns-in_err-quantisation-clause-obeys
unfolding quantisations_tests
returns-in_err-quantisation-clause-obeys c =
    let p = err_from_is_err_and c.from_residual.result c.from_residual.ensures.1 in
    rw (p.1, p.2)
    (tests_stop (λ b _. elements_len b) quantisation_tests c.loop-rest.rest.now (first_fault (quantisations_tests c.args.payload.now)) c.in_err-quantisation.field-0.0 c.in-len1-up.len_at_least
    c.in_err-quantisation.ensures.obeys c.loop-rest.invariant.tests)

pub loop-rest-preserved : goal.loop-rest-preserved
unfolding quantisations_tests
loop-rest-preserved c =
    let ok = c.in_ok-quantisation.ensures in
    record {
      four = rw length-set c.loop-rest.invariant.four;
      tests = tests_go_on (λ b _. elements_len b) quantisation_tests c.loop-rest.rest.now c.in_ok-quantisation.after.now _ c.in-len1-up.len_at_least ok.rest ok.obeys c.loop-rest.invariant.tests;
      defined = λ before h. defined_more c.loop-rest.rest.now c.in_ok-quantisation.after.now c.loop-rest.places _ c.in_ok-quantisation.quantisation _ c.in-len1-up.len_at_least c.loop-rest.invariant.four
          c.from.ensures ok.destination ok.table ok.rest (c.loop-rest.invariant.defined before h);
    }

pub returns-clause-obeys : goal.returns-clause-obeys
unfolding quantisations_tests
returns-clause-obeys c = tests_end (λ b _. elements_len b) quantisation_tests c.loop-rest.rest.now (first_fault (quantisations_tests c.args.payload.now)) c.in_default.len_below c.loop-rest.invariant.tests

pub returns-clause-defined : goal.returns-clause-defined
returns-clause-defined c = λ before h. defined_all c.loop-rest.rest.now c.loop-rest.places _ c.in_default.len_below (c.loop-rest.invariant.defined before h)
