-- A file has one text.
use Rattle.std.proofs.Common.{◌≡◌, ℕ, ◌-◌, ◌⊎◌, inl, inr, List, [], ◌++◌, length, drop, replicate, Option, sym, ap, subst, ◌∙◌}
use Rattle.jr_head.specs.HeadValue.{HeadValue}
use Rattle.jr_head.specs.Heads.{HeadOf, HasOneHead, HasOneFault}
use Rattle.jr_scan.specs.ScanValue.{ScanValue, IsScanOf, intervals_of}
use Rattle.jr_scan.specs.FirstIntervalsValue.{least}
use Rattle.jr_paint.specs.Text.{text_of}
use Rattle.jr_cut.specs.declared.scan_end.ScanEnd.{ScanEnd}
use Rattle.jr_cut.specs.Cut.{Cutting, IsCut}
use Rattle.jr_picture.specs.declared.mark.Mark.{Mark}
use Rattle.jr_picture.specs.Headline.{ShowsFirst, HasOnePicture}
use Rattle.jri_file.specs.Files.{IsPictureOf}

abbrev OneCut : Type 0
OneCut = (n at : ℕ) (bytes : List ℕ) (a b : Cutting n at bytes) → (a.datas ≡ b.datas) × (a.end ≡ b.end)

abbrev OnePicture : Type 0
OnePicture = (scan : ScanValue) (n : ℕ) → HasOnePicture scan n

shows_first : (file : List ℕ) (first : Option ℕ) (s : ScanValue) (k : List Mark) (f : ℕ → ℕ → ℕ → ℕ) → IsPictureOf file first s k f → ShowsFirst s (least first (length s.intervals)) k f
shows_first file first s k f p = record { valid = p.is_scan.valid; picture = p.picture; first = p.decoded }

one_head : (file : List ℕ) (a b : HeadValue) → HasOneHead file ⊎ HasOneFault file → HeadOf file a → HeadOf file b → a ≡ b
one_head file a b (inl one) p q = one.only a p ∙ sym (one.only b q)
one_head file a b (inr one) p q = absurd (one.no_head a p)

abbrev made : HeadValue → List (List ℕ) → ScanEnd → ScanValue
made h intervals ended = record { head = h; intervals = intervals; ended = ended }

abbrev filled : HeadValue → List (List ℕ) → List (List ℕ)
filled h pieces = pieces ++ replicate (intervals_of h - length pieces) []

one_scan : (file : List ℕ) (s t : ScanValue) → OneCut → s.head ≡ t.head → IsScanOf file s → IsScanOf file t → s ≡ t
one_scan file s t cut e p q =
    let there = subst (λ (h : HeadValue). IsCut (intervals_of h) h.scan_at (drop h.scan_at file) q.segments t.ended) (sym e) q.cut in
    let one = cut (intervals_of s.head) s.head.scan_at (drop s.head.scan_at file) (record { datas = p.segments; end = s.ended; is = p.cut }) (record { datas = q.segments; end = t.ended; is = there }) in
    let intervals : s.intervals ≡ t.intervals = p.intervals ∙ ap (filled s.head) one.0 ∙ ap (λ (h : HeadValue). filled h q.segments) e ∙ sym q.intervals in
    ap (λ (h : HeadValue). made h s.intervals s.ended) e ∙ ap (λ (l : List (List ℕ)). made t.head l s.ended) intervals ∙ ap (made t.head t.intervals) one.1

pub one_text : (file : List ℕ) (first : Option ℕ) → HasOneHead file ⊎ HasOneFault file → OneCut → OnePicture → (s t : ScanValue) (k m : List Mark) (f g : ℕ → ℕ → ℕ → ℕ)
    → IsPictureOf file first s k f → IsPictureOf file first t m g → (s ≡ t) × (k ≡ m) × (text_of s.head f ≡ text_of t.head g)
one_text file first one cut picture s t k m f g p q =
    let e : s ≡ t = one_scan file s t cut (one_head file s.head t.head one p.is_scan.head q.is_scan.head) p.is_scan.cut q.is_scan.cut in
    let there = subst (λ (v : ScanValue). IsPictureOf file first v k f) e p in
    let one = picture t (least first (length t.intervals)) in
    let left = shows_first file first t k f there in
    let right = shows_first file first t m g q in
    (e, one.marks k m f g left right, ap (λ (v : ScanValue). text_of v.head f) e ∙ one.text k m f g left right)
