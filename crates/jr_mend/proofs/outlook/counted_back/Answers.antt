use Rattle.std.proofs.Common.{◌≡◌, ◌+◌, ℕ, suc, true, false, List, ◌∷◌, drop, length, sym, ap, subst, ◌∙◌, arith}
use Rattle.std.specs.Prelude.{◌==◌}
use Rattle.std.proofs.lemmas.Bool.{cond-false, cond-true, ne_eqb}
use Rattle.std.proofs.lemmas.List.{drop-drop}
use Rattle.jr_base.specs.declared.marker.TheConstants.{EOI}
use Rattle.jr_cut.proofs.Cuts.{rest_is}
use Rattle.jr_mend.specs.declared.markers.ScanMarker.{ScanMarker}
use Rattle.jr_mend.specs.Markers.{counted_back, is_back, is_restart, scan_markers, restarts}
use Rattle.jr_mend.proofs.MarkersLaw.{joined, joined_back, joined_broken}
use Rattle.jr_mend.proofs.outlook.counted_back.Goals as goal
use Rattle.jr_mend.proofs.outlook.counted_back.Goals.{then-is_back, else-is_back}

pub markers-preserved-then-is_restart : goal.markers-preserved-then-is_restart
markers-preserved-then-is_restart c =
    let bytes = c.args.bytes.now in
    let n = c.args.intervals in
    let at = c.markers.at in
    let m = c.in-Some.found in
    let next = at + (m.before + 2) in
    let ms = scan_markers n (drop next bytes) in
    let rest = rest_is bytes at in
    let after : scan_markers n (drop (m.before + 2) (drop at bytes)) ≡ ms = ap (scan_markers n) (drop-drop (m.before + 2) at bytes) in
    let first : scan_markers n (drop at bytes) ≡ m ∷ ms = subst (λ (x : List ℕ). scan_markers n x ≡ m ∷ scan_markers n (drop (m.before + 2) x)) rest c.in-Some.ensures.first ∙ ap (λ (x : List ScanMarker). m ∷ x) after in
    let on : (m.code == EOI) ≡ false = ne_eqb m.code EOI (λ e. c.if-found.false e) in
    let restart : is_restart m.code ≡ true = sym c.is_restart.ensures ∙ c.if-is_restart.true in
    let left : c.markers.left ≡ restarts (m ∷ ms) = c.markers.invariant.left ∙ ap restarts first in
    let counted : counted_back n (scan_markers n bytes) ≡ joined n c.markers.run (m ∷ ms) = c.markers.invariant.counted ∙ ap (joined n c.markers.run) first in
    let some : restarts (m ∷ ms) ≡ suc (restarts ms) = cond-false (m.code == EOI) _ _ on ∙ cond-true (is_restart m.code) _ _ restart in
    elim c.if-is_back.branch [
      | then-is_back w ↦
          let back : is_back n (restarts (m ∷ ms)) m.code ≡ true = ap (λ (x : ℕ). is_back n x m.code) (sym left) ∙ sym c.is_back.ensures ∙ w.if-is_back.true in
          record {
            within = omega (arith, ap length rest, c.in-Some.ensures.within, c.markers.invariant.within);
            few = omega (arith, w.run-is, c.markers.invariant.few);
            left = omega (arith, left, some);
            counted = counted ∙ joined_back n c.markers.run m ms on restart back ∙ ap (λ (r : ℕ). joined n r ms) (sym w.run-is);
          }
      | else-is_back w ↦
          let back : is_back n (restarts (m ∷ ms)) m.code ≡ false = ap (λ (x : ℕ). is_back n x m.code) (sym left) ∙ sym c.is_back.ensures ∙ w.if-is_back.false in
          record {
            within = omega (arith, ap length rest, c.in-Some.ensures.within, c.markers.invariant.within);
            few = omega (arith, w.run-is);
            left = omega (arith, left, some);
            counted = counted ∙ joined_broken n c.markers.run m ms on restart back ∙ ap (λ (r : ℕ). joined n r ms) (sym w.run-is);
          }
    ]
