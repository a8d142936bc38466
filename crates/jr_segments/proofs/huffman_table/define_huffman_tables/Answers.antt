use Rattle.std.proofs.Common.{◌≡◌, sym, ◌∙◌, length-set}
use Rattle.std.proofs.lemmas.Result.{err_from_is_err_and}
use Rattle.jr_segments.specs.Tests.{first_fault}
use Rattle.jr_segments.specs.HuffmanTables.{huffman_table_len, huffman_table_tests, huffman_tables_tests}
use Rattle.jr_segments.proofs.TableLaws.{tests_go_on, tests_stop, tests_end}
use Rattle.jr_segments.proofs.HuffmanTableLaws.{defined_here, defined_there, defined_all, zero_is_one, one_left}
use Rattle.jr_segments.proofs.huffman_table.define_huffman_tables.Goals as goal

pub returns-in_err-huffman_table-clause-obeys : goal.returns-in_err-huffman_table-clause-obeys
unfolding huffman_tables_tests
returns-in_err-huffman_table-clause-obeys c =
    let p = err_from_is_err_and c.from_residual.result c.from_residual.ensures.1 in
    rw (p.1, p.2)
    (tests_stop (λ _ p. huffman_table_len p) huffman_table_tests c.loop-rest.rest.now (first_fault (huffman_tables_tests c.args.payload.now)) c.in_err-huffman_table.field-0.0 c.in-len1-up.len_at_least
    c.in_err-huffman_table.ensures.obeys c.loop-rest.invariant.tests)

pub returns-clause-obeys : goal.returns-clause-obeys
unfolding huffman_tables_tests
returns-clause-obeys c = tests_end (λ _ p. huffman_table_len p) huffman_table_tests c.loop-rest.rest.now (first_fault (huffman_tables_tests c.args.payload.now)) c.in_default.len_below c.loop-rest.invariant.tests

pub returns-clause-dc : goal.returns-clause-dc
returns-clause-dc c = λ before h. defined_all c.loop-rest.rest.now c.loop-rest.dc 0 _ c.in_default.len_below (c.loop-rest.invariant.dc before h)

pub returns-clause-ac : goal.returns-clause-ac
returns-clause-ac c = λ before h. defined_all c.loop-rest.rest.now c.loop-rest.ac 1 _ c.in_default.len_below (c.loop-rest.invariant.ac before h)

pub loop-rest-preserved-then-huffman_table-eq0 : goal.loop-rest-preserved-then-huffman_table-eq0
unfolding huffman_tables_tests
loop-rest-preserved-then-huffman_table-eq0 c =
    let ok = c.in_ok-huffman_table.ensures in
    let long = c.in-len1-up.len_at_least in
    let class = c.if-huffman_table-eq0.true in
    record {
      four_dc = rw length-set c.loop-rest.invariant.four_dc;
      four_ac = c.loop-rest.invariant.four_ac;
      tests = tests_go_on (λ _ p. huffman_table_len p) huffman_table_tests c.loop-rest.rest.now c.in_ok-huffman_table.after.now _ long ok.rest ok.obeys c.loop-rest.invariant.tests;
      dc = λ before h. defined_here c.loop-rest.rest.now c.in_ok-huffman_table.after.now c.loop-rest.dc 0 _ c.in_ok-huffman_table.huffman_table _ long c.loop-rest.invariant.four_dc class c.from-place.ensures ok.destination ok.table ok.rest
          (c.loop-rest.invariant.dc before h);
      ac = λ before h. defined_there c.loop-rest.rest.now c.in_ok-huffman_table.after.now c.loop-rest.ac 1 c.in_ok-huffman_table.huffman_table _ long (λ e. zero_is_one (sym class ∙ e)) ok.table ok.rest (c.loop-rest.invariant.ac before h);
    }

pub loop-rest-preserved : goal.loop-rest-preserved
unfolding huffman_tables_tests
loop-rest-preserved c =
    let ok = c.in_ok-huffman_table.ensures in
    let long = c.in-len1-up.len_at_least in
    let class : c.in_ok-huffman_table.huffman_table.class ≡ 1 = one_left c.in_ok-huffman_table.huffman_table.class ok.class c.if-huffman_table-eq0.false in
    record {
      four_dc = c.loop-rest.invariant.four_dc;
      four_ac = rw length-set c.loop-rest.invariant.four_ac;
      tests = tests_go_on (λ _ p. huffman_table_len p) huffman_table_tests c.loop-rest.rest.now c.in_ok-huffman_table.after.now _ long ok.rest ok.obeys c.loop-rest.invariant.tests;
      dc = λ before h. defined_there c.loop-rest.rest.now c.in_ok-huffman_table.after.now c.loop-rest.dc 0 c.in_ok-huffman_table.huffman_table _ long c.if-huffman_table-eq0.false ok.table ok.rest (c.loop-rest.invariant.dc before h);
      ac = λ before h. defined_here c.loop-rest.rest.now c.in_ok-huffman_table.after.now c.loop-rest.ac 1 _ c.in_ok-huffman_table.huffman_table _ long c.loop-rest.invariant.four_ac class c.from-place.ensures ok.destination ok.table ok.rest
          (c.loop-rest.invariant.ac before h);
    }
