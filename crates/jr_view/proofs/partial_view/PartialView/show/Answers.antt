use Rattle.std.proofs.Common.{◌≡◌, ◌≢◌, [], ℕ, List, subst}
use Rattle.std.specs.Prelude.{IfErr, IfOk}
use Rattle.jr_head.specs.Heads.{RefusalOf}
use Rattle.jr_segments.specs.declared.refusal.Refusal.TheVariants.{Memory}
use Rattle.jr_arrival.specs.Arrival.{IsFinalFault}
use Rattle.jr_arrival.specs.PartialFile.{given_of}
use Rattle.jr_arrival.specs.Settled.{WantsMore}
use Rattle.jr_view.specs.PartialViews.{PartialViewValue, AreSettled, IsSeen, KeepsLines, view_of}
use Rattle.jr_view.proofs.partial_view.PartialView.show.Goals as goal

pub returns-clause-kept : goal.returns-clause-kept
returns-clause-kept c =
    let s = c.show_settled.new in
    subst (λ (v : PartialViewValue). KeepsLines v (view_of s.partial_file s.pixels.items s.row.items)) c.self.view_is c.show_settled.ensures.kept

pub returns-clause-settled : goal.returns-clause-settled
returns-clause-settled c =
    subst (λ (v : PartialViewValue). IfOk c.show_settled.result (λ _. (bytes : List ℕ) → IsSeen v bytes → AreSettled bytes (given_of c.show_settled.new.partial_file.partial_image))) c.self.view_is c.show_settled.ensures.settled

pub returns-clause-wanted : goal.returns-clause-wanted
returns-clause-wanted c =
    subst (λ (v : PartialViewValue). IfOk c.show_settled.result (λ _. c.show_settled.new.pixels.items ≡ [] → (bytes : List ℕ) → IsSeen v bytes → WantsMore bytes)) c.self.view_is c.show_settled.ensures.wanted

pub returns-clause-refusal : goal.returns-clause-refusal
returns-clause-refusal c =
    subst (λ (v : PartialViewValue). IfErr c.show_settled.result (λ f. f ≢ Memory → (bytes : List ℕ) → IsSeen v bytes → RefusalOf bytes f)) c.self.view_is c.show_settled.ensures.refusal

pub returns-clause-stays : goal.returns-clause-stays
returns-clause-stays c =
    subst (λ (v : PartialViewValue). IfErr c.show_settled.result (λ f. (bytes : List ℕ) → IsSeen v bytes → IsFinalFault bytes f)) c.self.view_is c.show_settled.ensures.stays
