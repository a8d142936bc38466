-- The fault of a refused file is one of that file.
use Rattle.std.proofs.Common.{◌≢◌, ℕ, List}
use Rattle.jr_segments.specs.declared.refusal.Refusal.{Refusal}
use Rattle.jr_segments.specs.declared.refusal.Refusal.TheVariants as refusal
use Rattle.jr_head.specs.Heads.{RefusalOf}
use Rattle.jri_file.specs.Files.{IsFaultOf, fault_by}

pub is_fault : (file : List ℕ) (r : Refusal) → (r ≢ refusal.Memory → RefusalOf file r) → IsFaultOf file (fault_by r)
is_fault file refusal.NotJpeg of = of (λ e. cc)
is_fault file refusal.EndsEarly of = of (λ e. cc)
is_fault file (refusal.ExpectedMarker at) of = of (λ e. cc)
is_fault file (refusal.UnexpectedMarker code) of = of (λ e. cc)
is_fault file (refusal.NotBaseline code) of = of (λ e. cc)
is_fault file (refusal.BadLength code) of = of (λ e. cc)
is_fault file refusal.BadQuantTable of = of (λ e. cc)
is_fault file refusal.BadCodeTable of = of (λ e. cc)
is_fault file refusal.SecondFrame of = of (λ e. cc)
is_fault file refusal.BadPrecision of = of (λ e. cc)
is_fault file refusal.BadSize of = of (λ e. cc)
is_fault file refusal.TooManyPixels of = of (λ e. cc)
is_fault file refusal.BadComponents of = of (λ e. cc)
is_fault file refusal.BadSampling of = of (λ e. cc)
is_fault file refusal.BadScanHeader of = of (λ e. cc)
is_fault file refusal.NoFrame of = of (λ e. cc)
is_fault file refusal.MissingTable of = of (λ e. cc)
is_fault file refusal.TooLong of = of (λ e. cc)
is_fault file refusal.Memory of = tt
