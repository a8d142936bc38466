use Rattle.std.proofs.Common.{rules}
use Rattle.jri_words.specs.CommandLine.{decoding_app, empty_app}
use Rattle.jri_words.proofs.asking.command.Goals as goal

pub returns : goal.returns
returns c = c.with_writing_arguments.ensures (decoding_app empty_app) (c.with_decoding_arguments.ensures empty_app (search rules))
