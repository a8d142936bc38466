use Rattle.std.proofs.Common.{◌≡◌, ◌+◌, ℕ, List, ◌∷◌, drop, get_or, refl, sym, ap, subst, ◌∙◌}
use Rattle.jr_cut.proofs.Cuts.{rest_is}
use Rattle.jr_cut.proofs.PartialSegments.{marker_begins}
use Rattle.jr_mend.specs.declared.markers.ScanMarker.{ScanMarker}
use Rattle.jr_mend.specs.Markers.{most_missing, scan_markers}
use Rattle.jr_mend.specs.Reading.{IsOutlook}
use Rattle.jr_mend.specs.Resync.{IsMeaning}
use Rattle.jr_mend.proofs.MarkersLaw.{other_on}
use Rattle.jr_mend.proofs.following.missing_in.Goals as goal

pub missing_before-requires-clause-not_stuffing : goal.missing_before-requires-clause-not_stuffing
missing_before-requires-clause-not_stuffing c = (marker_begins c.args.tail.now c.args.fill c.requires.stop c.requires.full c.requires.within c.requires.not_fill).not_0

pub returns : goal.returns
returns c =
    let tail = c.args.tail.now in
    let n = c.args.intervals in
    let fill = c.args.fill in
    let m = marker_begins tail fill c.requires.stop c.requires.full c.requires.within c.requires.not_fill in
    let code = get_or tail fill 0 in
    let after = drop (fill + 1) tail in
    let x : ScanMarker = record { before = 0 + m.more; code = code } in
    let first : scan_markers n tail ≡ x ∷ scan_markers n after = ap (scan_markers n) m.spelled ∙ other_on n 0 m.more code after m.not_0 c.requires.not_fill c.requires.not_end in
    let known = subst (λ (ms : List ScanMarker). IsOutlook n ms c.args.outlook) first c.requires.known in
    let most = subst (λ (y : List ℕ). IsOutlook n (x ∷ scan_markers n y) c.args.outlook → c.most_missing-limit.result ≡ most_missing n c.args.outlook.size c.args.since c.args.k (x ∷ scan_markers n y)) (rest_is tail (fill + 1)) (c.most_missing-limit.ensures x refl) known in
    let limit = most ∙ ap (most_missing n c.args.outlook.size c.args.since c.args.k) (sym first) in
    subst (λ (l : ℕ). IsMeaning n c.args.k l code c.missing_before-2.result) limit c.missing_before-2.ensures
