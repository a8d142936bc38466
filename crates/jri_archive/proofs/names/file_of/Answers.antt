use Rattle.std.proofs.Common.{rules, subst, ℕ, List, false, sym, Option, Some, ◌≡◌}
use Rattle.std.specs.Global.{Vec}
use Rattle.std.specs.Prelude.{IfSome}
use Rattle.jri_machine.specs.declared.walking.NamedFile.{NamedFile}
use Rattle.jri_archive.specs.Names.{IsNamed, IsNoText}
use Rattle.jri_archive.proofs.NextNames.{file_named}
use Rattle.jri_archive.proofs.names.file_of.Goals as goal

pub returns-in-Some-clause-some : goal.returns-in-Some-clause-some
returns-in-Some-clause-some c =
    let same : c.as_slice.result.now ≡ c.in-Some.name.items = search rules in
    let named = file_named c.in-Some.name c.refused_name-error.result (λ e is. subst (λ (name : List ℕ). IsNoText name e) same (c.refused_name-error.ensures e is)) in
    subst (λ (o : Option (Vec ℕ)). IfSome o (λ n. (f : NamedFile) × (Some (record { name = c.in-Some.name; error = c.refused_name-error.result; is_skipped = false }) ≡ Some f) × IsNamed f n.items)) (sym c.in-Some.is) named
