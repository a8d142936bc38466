use Rattle.std.proofs.Common.{codes}
use Rattle.clap.specs.Words.{with_rule}
use Rattle.jri_words.specs.CommandLine.{flag_rule, output_rule}
use Rattle.jri_words.proofs.CommandLemmas.{adds_argument}
use Rattle.jri_words.proofs.asking.with_writing_arguments.Goals as goal

pub returns : goal.returns
returns c = λ app is_app.
    let b = with_rule app output_rule in
    let d = with_rule b (flag_rule (codes "force")) in
    let e = with_rule d (flag_rule (codes "quiet")) in
    let one = adds_argument c.args.command c.with_argument-with_output.result c.output_argument.result app output_rule c.with_argument-with_output.ensures c.output_argument.ensures.local c.output_argument.ensures.rule is_app in
    let two = adds_argument c.with_argument-with_output.result c.with_argument-with_force.result c.flag_argument-force.result b (flag_rule (codes "force")) c.with_argument-with_force.ensures c.flag_argument-force.ensures.local c.flag_argument-force.ensures.rule one in
    let three = adds_argument c.with_argument-with_force.result c.with_argument-with_quiet.result c.flag_argument-quiet.result d (flag_rule (codes "quiet")) c.with_argument-with_quiet.ensures c.flag_argument-quiet.ensures.local c.flag_argument-quiet.ensures.rule two in
    adds_argument c.with_argument-with_quiet.result c.with_argument.result c.flag_argument-verbose.result e (flag_rule (codes "verbose")) c.with_argument.ensures c.flag_argument-verbose.ensures.local c.flag_argument-verbose.ensures.rule three
