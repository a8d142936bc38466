use Rattle.std.proofs.Common.{arith, rules, sym, ap, ◌∙◌, ◌≡◌, ℕ, List, Some, drop, false}
use Rattle.std.proofs.Math.Nat.{min-eq_left}
use Rattle.jri_archive.proofs.Claims.{all_claimed, next_claimed, claim_of}
use Rattle.jri_archive.proofs.sharing.NameQueue.claim.Goals as goal

pub invariant_of-self : goal.invariant_of-self
invariant_of-self g c =
    let inv = c.self.invariant in
    let going : c.self.inside.is_over ≡ false = search rules in
    let next = λ (all : List (List ℕ)) (known : g.S.OneCheck.names ≡ Some all). next_claimed all c.self.inside.claimed c.in-Ok-Some.file c.next.new.self (search (rules, c.in-Ok-Some.ensures (drop c.self.inside.claimed all) (inv.left all known going))) in
    let more = λ (all : List (List ℕ)) (known : g.S.OneCheck.names ≡ Some all). c.saturating_add-self-inside.ensures ∙ min-eq_left (omega (arith, (next all known).within, inv.few all known)) in
    record {
      few = inv.few;
      within = λ all known _. omega (arith, more all known, (next all known).within);
      left = λ all known _. (next all known).left ∙ ap (λ (k : ℕ). Some (drop k all)) (sym (more all known));
      over = λ all known over _. absurd (let e = sym over ∙ going in cc);
    }

pub returns-in-Ok-Some-clause-claim : goal.returns-in-Ok-Some-clause-claim
returns-in-Ok-Some-clause-claim g c =
    let going : c.self.inside.is_over ≡ false = search rules in
    search (
      rules,
      claim_of g.S.OneCheck.names c.self.inside.claimed c.in-Ok-Some.file
          (λ all known. (c.next.new.self, next_claimed all c.self.inside.claimed c.in-Ok-Some.file c.next.new.self (search (rules, c.in-Ok-Some.ensures (drop c.self.inside.claimed all) (c.self.invariant.left all known going))))),
    )

pub invariant_of-self-in-Ok-None : goal.invariant_of-self-in-Ok-None
invariant_of-self-in-Ok-None g c =
    let inv = c.self.invariant in
    let going : c.self.inside.is_over ≡ false = search rules in
    record {
      few = inv.few;
      within = λ all known going. absurd (let e = going in cc);
      left = λ all known going. absurd (let e = going in cc);
      over = λ all known over none. all_claimed all c.self.inside.claimed c.next.new.self (inv.within all known going) (search (rules, c.in-Ok-None.ensures (drop c.self.inside.claimed all) (inv.left all known going)));
    }

pub returns-in-Ok-None-clause-all : goal.returns-in-Ok-None-clause-all
returns-in-Ok-None-clause-all g c same all known =
    let inv = c.self.invariant in
    let going : c.self.inside.is_over ≡ false = search rules in
    all_claimed all c.self.inside.claimed c.next.new.self (inv.within all known going) (search (rules, c.in-Ok-None.ensures (drop c.self.inside.claimed all) (inv.left all known going)))
