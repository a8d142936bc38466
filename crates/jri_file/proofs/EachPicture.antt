-- Each scan has an image, and so has each accepted file.
use Rattle.std.proofs.Common.{ℕ, ◌-◌, ◌<◌, ◌≤◌, refl, List, length, drop, Option}
use Rattle.std.specs.List.{All}
use Rattle.std.proofs.lemmas.List.Elements.{All-drop}
use Rattle.jr_head.specs.Geometry.{IsValid}
use Rattle.jr_head.specs.HeadValue.{HeadValue}
use Rattle.jr_head.specs.Heads.{HeadOf}
use Rattle.jr_cut.specs.Cut.{Cutting}
use Rattle.jr_cut.proofs.EachCut.{each_scan_has_a_cut}
use Rattle.jr_scan.specs.ScanValue.{ScanValue, intervals_of, scan_of_segments}
use Rattle.jr_scan.specs.FirstIntervalsValue.{least}
use Rattle.jr_piece.proofs.EachOutcome.{outcome}
use Rattle.jr_picture.specs.DecodedScan.{marks_of}
use Rattle.jr_picture.specs.Samples.{samples_of}
use Rattle.jr_rows.proofs.FirstDecoded.{first_decoded, least_few, shows_first}
use Rattle.jri_file.specs.Files.{HasPicture, HasPictureOf, IsScanOfFile}

pub each_scan : (scan : ScanValue) (n : ℕ) → IsValid scan.head → n ≤ length scan.intervals → HasPicture scan n
each_scan scan n valid few =
    let b = first_decoded outcome scan n few in
    record { marks = marks_of b.0; samples = samples_of b.0; is = shows_first scan n b.0 b.1 valid }

its_scan : (file : List ℕ) (h : HeadValue) (c : Cutting (intervals_of h) h.scan_at (drop h.scan_at file)) → HeadOf file h → IsValid h → IsScanOfFile file (scan_of_segments h c.datas c.end)
its_scan file h c head valid = record { head = head; valid = valid; cut = record { segments = c.datas; cut = c.is; intervals = refl } }

pub each_file : (h : HeadValue) → IsValid h → 0 < intervals_of h → (file : List ℕ) (first : Option ℕ) → All (λ b. b < 256) file → HeadOf file h → HasPictureOf file first
each_file h valid some file first small head =
    let c = each_scan_has_a_cut (intervals_of h) h.scan_at (drop h.scan_at file) some (All-drop (λ b. b < 256) h.scan_at file small) in
    let scan = scan_of_segments h c.datas c.end in
    let p = each_scan scan (least first (length scan.intervals)) valid (least_few first (length scan.intervals)) in
    record { scan = scan; marks = p.marks; samples = p.samples; is = record { is_scan = its_scan file h c head valid; picture = p.is.picture; decoded = p.is.first } }
