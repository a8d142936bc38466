-- What the arguments of the command line ask for.
use Rattle.std.specs.Prelude.{◌≡◌, ◌≢◌, Bool, true, false, List, [], ◌∷◌, Option, Some, None, codes, pos, if◌then◌else◌}
use Rattle.std.specs.Str.{bytes_eq}
use Rattle.std.specs.String.{string_bytes}
use Rattle.clap.specs.Words.{App, Rule, Text, first_of, matches_of, new_app, new_rule, one_of, with_rule}
use Rattle.clap.specs.Takes.{takes}
use Rattle.clap.specs.declared.builder.action.ArgAction.TheVariants.{Set, SetTrue}
use Rattle.clap.specs.declared.builder.value_parser.ValueParser.TheVariants as vp
use Rattle.jri_words.specs.declared.answers.Target.{Target}
use Rattle.jri_words.specs.declared.answers.Target.TheVariants as target

-- `--NAME VALUE`
abbrev pub option_rule : Text → Rule
option_rule name = record (new_rule name) { long = Some name; action = Some Set; value_names = 1 }

-- `--NAME`
abbrev pub flag_rule : Text → Rule
flag_rule name = record (new_rule name) { long = Some name; action = Some SetTrue }

abbrev pub workers_rule : Rule
workers_rule = record (option_rule (codes "workers")) { parser = Some (vp.Signed (pos 1) (pos 64)); defaults = codes "4" ∷ [] }

abbrev pub first_rule : Rule
first_rule = record (option_rule (codes "first")) { parser = Some (vp.Signed (pos 0) (pos 4294967295)) }

abbrev pub file_rule : Rule
file_rule = record (new_rule (codes "file")) { action = Some Set; value_names = 1 }

abbrev pub output_rule : Rule
output_rule = record (option_rule (codes "output")) { short = Some 111 }

abbrev pub plain_app : App
plain_app = new_app (codes "jri")

abbrev pub empty_app : App
empty_app = record plain_app { top = record plain_app.top { no_binary_name = true; has_version = true } }

abbrev pub decoding_app : App → App
decoding_app a = with_rule (with_rule (with_rule (with_rule a workers_rule) first_rule) (flag_rule (codes "resync"))) file_rule

abbrev pub writing_app : App → App
writing_app a = with_rule (with_rule (with_rule (with_rule a output_rule) (flag_rule (codes "force"))) (flag_rule (codes "quiet"))) (flag_rule (codes "verbose"))

-- the arguments that the program knows
abbrev pub jri : App
jri = writing_app (decoding_app empty_app)

-- the value of an option or of FILE in these arguments, by the rules of command lines
unfoldable pub option_value : Text → List Text → Option Text
option_value name words = first_of name (matches_of jri words)

-- the value of a flag, `true` or `false`, or of an option of numbers
unfoldable pub reading : Text → List Text → Option Text
reading name words = one_of name (matches_of jri words)

-- the command line takes these arguments: it does not refuse them, and they do not ask for help or the version
unfoldable pub is_taken : List Text → Bool
is_taken words = takes jri words

-- the name of a file, which - is not
abbrev pub file_named : Option Text → Option Text
file_named None = None
file_named (Some name) = if bytes_eq name (codes "-") then None else Some name

-- a flag is read
abbrev pub IsFlag : Option Text → Bool → Type 0
IsFlag text is_set = (text ≡ Some (codes "true") → is_set ≡ true) × (text ≡ Some (codes "false") → is_set ≡ false)

-- the image goes to the file of this name, or to standard output if that is -
abbrev pub IsTargetNamed : Text → Target → Type 0
IsTargetNamed name target.Output = ⊥
IsTargetNamed name target.AnyOutput = name ≡ codes "-"
IsTargetNamed name (target.File file) = (string_bytes file ≡ name) × (name ≢ codes "-")

-- if no file is named it goes to standard output, and with --force even to a terminal
abbrev pub IsTarget : Option Text → Option Text → Target → Type 0
IsTarget (Some name) force t = IsTargetNamed name t
IsTarget None force target.Output = force ≢ Some (codes "true")
IsTarget None force target.AnyOutput = force ≢ Some (codes "false")
IsTarget None force (target.File file) = ⊥

-- the image goes where these arguments say
abbrev pub IsTargetOf : List Text → Target → Type 0
IsTargetOf words t = IsTarget (option_value (codes "output") words) (reading (codes "force") words) t
