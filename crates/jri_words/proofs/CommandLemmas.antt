-- The matches of the program's arguments.
use Rattle.std.proofs.Common.{◌≡◌, true, false, List, [], Result, IfOk, ap, refl, subst, ap₂, ◌∙◌}
use Rattle.clap.specs.Words.{AddsArg, App, HasMatchesOf, Rule, Text, app_of, rule_of, with_rule, first_of, first_value, found_of, is_simple, matches_of, one_of, one_text, rows_of}
use Rattle.clap.specs.declared.builder.arg.Arg.{Arg}
use Rattle.clap.specs.declared.builder.command.Command.{Command}
use Rattle.clap.specs.declared.parser.matches.ArgMatches.{ArgMatches}
use Rattle.clap.proofs.OnLiterals.{clap_on_literals}
use Rattle.clap.proofs.WalkLemmas.{first_value-rows, one_text-rows}
use Rattle.clap.specs.Takes.{takes}
use Rattle.clap.specs.Values.{kind_of}
use Rattle.clap.specs.declared.error.Error.{Error}
use Rattle.clap.specs.declared.error.kind.ErrorKind.TheVariants.{OutOfMemory}
use Rattle.std.proofs.lemmas.Bool.{false_from_ne_true}
use Rattle.jri_machine.specs.declared.unasked.Unasked.{Unasked}
use Rattle.jri_words.specs.CommandLine.{is_taken, jri, reading, option_value}
use Rattle.jri_machine.specs.Status.{AsksForHelp}

pub adds : (old : Command) (a : Arg) (new : Command) (app : App) (rule : Rule) → AddsArg old a new → a.global ≡ false → app_of old ≡ app → rule_of a ≡ rule → app_of new ≡ with_rule app rule
adds old a new app rule h local is_app is_rule = h.shape local ∙ ap₂ with_rule is_app is_rule

-- an argument is added if all before it are
pub adds_argument : {E : Type 0} (old new : Result Command E) (a : Arg) (app : App) (rule : Rule) → ((app : App) → a.global ≡ false → IfOk old (λ c. app_of c ≡ app) → IfOk new (λ c. app_of c ≡ with_rule app (rule_of a)))
    → a.global ≡ false → rule_of a ≡ rule → IfOk old (λ c. app_of c ≡ app) → IfOk new (λ c. app_of c ≡ with_rule app rule)
adds_argument old new a app rule h local is_rule is_app = subst (λ (r : Rule). IfOk new (λ c. app_of c ≡ with_rule app r)) is_rule (h app local is_app)

is_simple_jri : is_simple jri ≡ true
unfolding clap_on_literals
is_simple_jri = refl

module _ (m : ArgMatches) (app : App) (words : List Text) (is_jri : app ≡ jri) (h : HasMatchesOf app words m) where
  rows : rows_of (found_of m) ≡ matches_of jri words
  rows = (subst (λ (a : App). HasMatchesOf a words m) is_jri h is_simple_jri).0

  pub found_value : (name : Text) → first_value (found_of m) name ≡ option_value name words
  unfolding option_value
  found_value name = first_value-rows (found_of m) name ∙ ap (first_of name) rows

  pub found_reading : (name : Text) → one_text (found_of m) name ≡ reading name words
  unfolding reading
  found_reading name = one_text-rows (found_of m) name ∙ ap (one_of name) rows

-- no arguments at all are taken
pub takes_none : is_taken [] ≡ true
unfolding clap_on_literals is_taken
takes_none = refl

-- arguments that are refused, but not for want of memory, are not taken
pub untaken : (app : App) (words : List Text) (e : Error) (unasked : Unasked) → app ≡ jri → (takes app words ≡ true → kind_of e ≡ OutOfMemory) → (kind_of e ≡ OutOfMemory → AsksForHelp unasked → ⊥)
    → AsksForHelp unasked → is_taken words ≡ false
unfolding is_taken
untaken app words e unasked is passes no_help help = false_from_ne_true (takes jri words) (λ taken. no_help (passes (ap (λ a. takes a words) is ∙ taken)) help)
