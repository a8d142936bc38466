-- Each interval has an outcome: the samples of its decoding, or those of its longest prefix.
use Rattle.std.proofs.Common.{ℕ, true, false, inl, inr, List, [], ◌∷◌, ◌++◌, length, refl, sym, subst, append_assoc}
use Rattle.std.specs.Prelude.{◌⊎◌, ℤ}
use Rattle.std.proofs.lemmas.List.{append-nil}
use Rattle.jr_head.specs.HeadValue.{HeadValue}
use Rattle.jr_head.specs.Geometry.{quantiser_of}
use Rattle.jr_code.proofs.CodeLemmas.{one_word}
use Rattle.jr_scan.specs.IntervalValue.{IntervalValue}
use Rattle.jr_mcu.specs.Mcus.{component}
use Rattle.jr_scan.specs.Mcus.{Decodes, HasNoDecoding, LongestFront}
use Rattle.jr_scan.proofs.LongestFronts as fronts
use Rattle.jr_idct.specs.Transform.{samples}
use Rattle.jr_piece.specs.Outcome.{AreSamples, HasOutcome}
use Rattle.jr_piece.proofs.Outcomes.{no_samples, more_samples}

-- the laws of a longest prefix and of a decoding
abbrev pub HasFront : Type 0
HasFront = (i : IntervalValue) → (k : ℕ) × (zs : List (List ℤ)) × LongestFront i k zs

abbrev pub DecodesOrNot : Type 0
DecodesOrNot = (i : IntervalValue) → ((zs : List (List ℤ)) × Decodes i zs) ⊎ HasNoDecoding i

-- the samples of further blocks after the given ones
samples_on : (h : HeadValue) (done more : List (List ℤ)) (units : List (List ℕ)) → AreSamples h done units → (us : List (List ℕ)) × AreSamples h (done ++ more) us
samples_on h done [] units s = (units, subst (λ zs. AreSamples h zs units) (sym (append-nil done)) s)
samples_on h done (z ∷ more) units s =
    let unit = samples z (quantiser_of h (component h (length done))) in
    let all = samples_on h (done ++ z ∷ []) more (units ++ unit ∷ []) (more_samples h done units z unit s refl) in
    (all.0, subst (λ zs. AreSamples h zs all.0) (append_assoc done (z ∷ []) more) all.1)

samples_of : (h : HeadValue) (zs : List (List ℤ)) → (us : List (List ℕ)) × AreSamples h zs us
samples_of h zs = samples_on h [] zs [] (no_samples h)

sound : (i : IntervalValue) (zs : List (List ℤ)) → Decodes i zs → HasOutcome i
sound i zs d =
    let us = samples_of i.head zs in (
      record { interval = i; is_sound = true; front = i.mcus; samples = us.0 },
      refl,
      record { sound = λ t. record { blocks = zs; decodes = d; samples = us.1 }; whole = λ t. refl; damaged = λ f. absurd cc },
    )

damaged : (i : IntervalValue) (k : ℕ) (zs : List (List ℤ)) → HasNoDecoding i → LongestFront i k zs → HasOutcome i
damaged i k zs none longest =
    let us = samples_of i.head zs in (
      record { interval = i; is_sound = false; front = k; samples = us.0 },
      refl,
      record {
        sound = λ t. absurd cc;
        whole = λ t. absurd cc;
        damaged = λ f. record { undecodable = none; blocks = zs; longest = longest; samples = us.1 };
      },
    )

pub each_outcome : HasFront → DecodesOrNot → (i : IntervalValue) → HasOutcome i
each_outcome front decodes i = elim (decodes i) [ inl d ↦ sound i d.0 d.1 | inr none ↦ let f = front i in damaged i f.0 f.1 none f.2 ]

-- each interval has an outcome
pub outcome : (i : IntervalValue) → HasOutcome i
outcome = each_outcome (fronts.longest_front one_word) (fronts.decoding_or_none one_word)
