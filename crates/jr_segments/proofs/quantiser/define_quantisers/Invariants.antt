use Rattle.std.proofs.Common.{◌≡◌, ◌++◌, List, length}
use Rattle.jr_segments.specs.Tests.{first_fault}
use Rattle.jr_segments.specs.Quantisers.{Quantisation, quantisations, quantisations_tests, AreQuantisers}
use Rattle.jr_segments.proofs.quantiser.define_quantisers.Given as goal

abbrev pub invariant-loop-rest : goal.invariant-loop-rest
invariant-loop-rest l = record {
  four : length l.places ≡ 4;
  tests : first_fault (quantisations_tests l.rest) ≡ first_fault (quantisations_tests l.payload);
  defined : (before : List Quantisation) → AreQuantisers before l.initial.places
      → (now : List Quantisation) × AreQuantisers now l.places × (now ++ quantisations l.rest ≡ before ++ quantisations l.payload);
}

abbrev pub decreases-loop-rest : goal.decreases-loop-rest
decreases-loop-rest l = length l.rest
