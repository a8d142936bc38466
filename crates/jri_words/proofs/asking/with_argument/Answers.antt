use Rattle.std.proofs.Common.{◌≡◌, IfOk, refl, subst}
use Rattle.std.proofs.lemmas.Result.{IfOk-weaker}
use Rattle.clap.specs.Words.{app_of, rule_of}
use Rattle.jri_words.proofs.CommandLemmas.{adds}
use Rattle.jri_words.proofs.asking.with_argument.Goals as goal

pub returns-in-Ok : goal.returns-in-Ok
returns-in-Ok c = λ app local is_app.
    let is_old = subst (λ r. IfOk r (λ k. app_of k ≡ app)) c.in-Ok.is is_app in
    IfOk-weaker c.arg.result _ _ (λ new h. adds c.in-Ok.command c.args.argument new app (rule_of c.args.argument) h local is_old refl) c.arg.ensures
