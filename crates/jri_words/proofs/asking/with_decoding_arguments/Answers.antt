use Rattle.std.proofs.Common.{codes}
use Rattle.clap.specs.Words.{with_rule}
use Rattle.jri_words.specs.CommandLine.{file_rule, first_rule, flag_rule, workers_rule}
use Rattle.jri_words.proofs.CommandLemmas.{adds_argument}
use Rattle.jri_words.proofs.asking.with_decoding_arguments.Goals as goal

pub returns : goal.returns
returns c = λ app is_app.
    let b = with_rule app workers_rule in
    let d = with_rule b first_rule in
    let e = with_rule d (flag_rule (codes "resync")) in
    let one = adds_argument c.args.command c.with_argument-with_workers.result c.workers_argument.result app workers_rule c.with_argument-with_workers.ensures c.workers_argument.ensures.local c.workers_argument.ensures.rule is_app in
    let two = adds_argument c.with_argument-with_workers.result c.with_argument-with_first.result c.first_argument.result b first_rule c.with_argument-with_first.ensures c.first_argument.ensures.local c.first_argument.ensures.rule one in
    let three = adds_argument c.with_argument-with_first.result c.with_argument-with_resync.result c.resync_argument.result d (flag_rule (codes "resync")) c.with_argument-with_resync.ensures c.resync_argument.ensures.local c.resync_argument.ensures.rule two in
    adds_argument c.with_argument-with_resync.result c.with_argument.result c.file_argument.result e file_rule c.with_argument.ensures c.file_argument.ensures.local c.file_argument.ensures.rule three
