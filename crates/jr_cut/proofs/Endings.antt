-- The segment after a marker.
use Rattle.std.proofs.Common.{◌≡◌, ◌≢◌, ℕ, suc, ◌+◌, ◌%◌, List, ◌∷◌, ◌++◌, map, sym, ◌∙◌, append_assoc, arith}
use Rattle.jr_base.specs.declared.marker.TheConstants.{PREFIX, RST0}
use Rattle.jr_cut.specs.Cut.{marker, CodedSegment, with_markers, HasMarker, IsStop}
use Rattle.jr_cut.proofs.Cuts.{run_same}
use Rattle.jr_cut.proofs.CutLaw.{run_of, marker_stop}

abbrev pub bytes_of : List CodedSegment → List (List ℕ)
bytes_of ps = map (λ p. p.bytes) ps

abbrev pub next_marker : (k : ℕ) (p : CodedSegment) (ps : List CodedSegment) (tail : List ℕ) → HasMarker (with_markers k (p ∷ ps) ++ tail) (RST0 + k % 8)
next_marker k p ps tail = (p.more, (p.raw ++ with_markers (suc k) ps) ++ tail, append_assoc (marker p.more (RST0 + k % 8)) (p.raw ++ with_markers (suc k) ps) tail)

pub next_stop : (k : ℕ) (p : CodedSegment) (ps : List CodedSegment) (tail : List ℕ) → IsStop (with_markers k (p ∷ ps) ++ tail)
next_stop k p ps tail = marker_stop (with_markers k (p ∷ ps) ++ tail) (RST0 + k % 8) (next_marker k p ps tail) (λ e. omega arith) (λ e. omega arith)

-- what follows a marker of the next number is the next segment and those after it
pub after_marker : (k more : ℕ) (rest : List ℕ) (p : CodedSegment) (ps : List CodedSegment) (tail : List ℕ) → marker more (RST0 + k % 8) ++ rest ≡ with_markers k (p ∷ ps) ++ tail
    → (more ≡ p.more) × (rest ≡ p.raw ++ (with_markers (suc k) ps ++ tail))
after_marker k more rest p ps tail e =
    let code = RST0 + k % 8 in
    let after = (p.raw ++ with_markers (suc k) ps) ++ tail in
    let not_ff : code ≢ PREFIX = λ z. omega arith in
    let m = run_same (suc more) (suc p.more) code code rest after not_ff not_ff (sym (run_of more code rest) ∙ e ∙ append_assoc (marker p.more code) (p.raw ++ with_markers (suc k) ps) tail ∙ run_of p.more code after) in
    (omega (arith, m.0), m.2 ∙ append_assoc p.raw (with_markers (suc k) ps) tail)
