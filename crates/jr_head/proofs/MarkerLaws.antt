-- Markers that define nothing, and the one of the scan.
use Rattle.std.proofs.Common.{◌≡◌, ◌≢◌, ℕ, ◌+◌, List, [], ◌∷◌, ◌++◌, refl, arith}
use Rattle.jr_base.specs.declared.marker.TheConstants.{APP0, COM, SOS}
use Rattle.jr_head.specs.declared.definitions.Definitions.{Definitions}
use Rattle.jr_segments.specs.declared.marker.Marker.{Marker}
use Rattle.jr_segments.specs.declared.marker.Marker.TheVariants.{Sof0, Sof1, Dht, Dqt, Dri, Sos, App, Com}
use Rattle.jr_segments.specs.Segments.{Segment}
use Rattle.jr_segments.specs.Marker.{code_of}
use Rattle.jr_head.specs.Definitions.{InForce}
use Rattle.jr_head.proofs.DefinitionLaws.{IsSilent, silent, silent_in_force}

pub no_scan : (m : Marker) → m ≢ Sos → code_of m ≢ SOS
no_scan Sof0 ne e = omega (arith, e)
no_scan Sof1 ne e = omega (arith, e)
no_scan Dht ne e = omega (arith, e)
no_scan Dqt ne e = omega (arith, e)
no_scan Dri ne e = omega (arith, e)
no_scan Sos ne e = ne refl
no_scan (App n) ne e = omega (arith, e)
no_scan Com ne e = omega (arith, e)

app_silent : (n : ℕ) → n ≢ 0 → n ≢ 14 → IsSilent (APP0 + n)
app_silent n no_jfif no_adobe =
    silent (APP0 + n) (λ e. omega (arith, e)) (λ e. omega (arith, e)) (λ e. omega (arith, e)) (λ e. omega (arith, e)) (λ e. omega (arith, e))
    (λ e. no_jfif (omega (arith, e))) (λ e. no_adobe (omega (arith, e)))

com_silent : IsSilent COM
com_silent = silent COM (λ e. omega (arith, e)) (λ e. omega (arith, e)) (λ e. omega (arith, e)) (λ e. omega (arith, e)) (λ e. omega (arith, e)) (λ e. omega (arith, e)) (λ e. omega (arith, e))

pub app_in_force : (segments : List Segment) (old : Definitions) (fill code : ℕ) (payload : List ℕ) (n : ℕ) → code ≡ APP0 + n → n ≢ 0 → n ≢ 14 → InForce segments old
    → InForce (segments ++ record { fill = fill; code = code; payload = payload } ∷ []) old
app_in_force segments old fill code payload n is no_jfif no_adobe k = silent_in_force segments old fill code payload (rw is (app_silent n no_jfif no_adobe)) k

pub com_in_force : (segments : List Segment) (old : Definitions) (fill code : ℕ) (payload : List ℕ) → code ≡ COM → InForce segments old
    → InForce (segments ++ record { fill = fill; code = code; payload = payload } ∷ []) old
com_in_force segments old fill code payload is k = silent_in_force segments old fill code payload (rw is com_silent) k

pub scan_code : (m : Marker) → m ≡ Sos → code_of m ≡ SOS
scan_code m is = rw is refl
