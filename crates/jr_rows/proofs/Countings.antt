-- The marks of all rows are those of the image.
use Rattle.std.proofs.Common.{◌≡◌, ℕ, zero, suc, ◌+◌, ◌*◌, ◌<◌, ◌≤◌, Bool, false, cond, List, [], ◌∷◌, length, take, get_or, refl, sym, ap, ◌∙◌, arith}
use Rattle.std.specs.List.{count_by}
use Rattle.std.proofs.lemmas.List.Sums.{sum_by-cons}
use Rattle.jr_head.specs.HeadValue.{HeadValue}
use Rattle.jr_head.specs.Geometry.{mcus_down, mcus_of}
use Rattle.jr_scan.specs.ScanValue.{ScanValue, intervals_of}
use Rattle.jr_picture.specs.declared.mark.Mark.{Mark}
use Rattle.jr_picture.specs.declared.mark.Mark.TheVariants.{Blank}
use Rattle.jr_picture.specs.declared.counts.Counts.{Counts}
use Rattle.jr_picture.specs.DecodedScan.{marks_of}
use Rattle.jr_picture.specs.Headline.{is_sound, is_damaged}
use Rattle.jr_rows.specs.Rows.{CountsRows, coded_before, intervals_before, mcus_before}
use Rattle.jr_rows.specs.Stream.{HasCounts}
use Rattle.jr_rows.specs.declared.marked.Marked.{Marked}
use Rattle.jr_rows.proofs.FirstDecoded.{counts_of}
use Rattle.jr_rows.proofs.IntervalPlaces.{ends_before, first_end, first_few, mcus_in_some}
use Rattle.jr_rows.proofs.PictureRows.{all_rows}

-- if the others are blank, the first ones have the whole count
count_first : (f : Mark → Bool) → f Blank ≡ false → (ms : List Mark) (n : ℕ) → ((i : ℕ) → n ≤ i → get_or ms i Blank ≡ Blank) → count_by f (take n ms) ≡ count_by f ms
count_first f e [] n rest = ap (count_by f) (take_none n)
  where
    none : List Mark
    none = []

    take_none : (n : ℕ) → take n none ≡ none
    take_none zero = refl
    take_none (suc n) = refl
count_first f e (x ∷ xs) zero rest =
    let others = count_first f e xs zero (λ i le. rest (suc i) (omega arith)) in
    let blank : cond {A = ℕ} (f x) 1 0 ≡ 0 = ap (λ (m : Mark). cond {A = ℕ} (f m) 1 0) (rest 0 (omega arith)) ∙ ap (λ (t : Bool). cond {A = ℕ} t 1 0) e in
    sym (sum_by-cons (λ (t : Mark). cond (f t) 1 0) x xs ∙ omega (arith, others, blank))
count_first f e (x ∷ xs) (suc n) rest =
    let others = count_first f e xs n (λ i le. rest (suc i) (omega (arith, le))) in
    sum_by-cons (λ (t : Mark). cond (f t) 1 0) x (take n xs) ∙ ap (λ (k : ℕ). cond (f x) 1 0 + k) others ∙ sym (sum_by-cons (λ (t : Mark). cond (f t) 1 0) x xs)

-- no interval ends before the first row, and with the last one all that are decoded
pub none_first : (h : HeadValue) (n : ℕ) → 0 < mcus_of h → 0 < intervals_of h → intervals_before h (coded_before h n 0) ≡ 0
none_first h n some more =
    let start : coded_before h n 0 ≡ 0 * h.restart + 0 = omega arith in
    ap (intervals_before h) start ∙ ends_before h 0 0 more (mcus_in_some h 0 some more)

pub all_last : (h : HeadValue) (n : ℕ) → 0 < mcus_of h → n ≤ intervals_of h → intervals_before h (coded_before h n (mcus_down h)) ≡ n
all_last h n some few =
    let end : coded_before h n (mcus_down h) ≡ mcus_before h n = omega (arith, all_rows h, first_few h n some) in
    ap (intervals_before h) end ∙ first_end h n some few

pub all_counted : (scan : ScanValue) (n : ℕ) (m : Marked) → 0 < mcus_of scan.head → 0 < intervals_of scan.head → length scan.intervals ≡ intervals_of scan.head → n ≤ length scan.intervals → CountsRows scan n m
    → (m.sound + m.damaged ≤ length scan.intervals) × ((c : Counts) → c.sound ≡ m.sound → c.damaged ≡ m.damaged → c.sound + c.damaged + c.blank ≡ length scan.intervals → HasCounts scan n c)
all_counted scan n m some more intervals few counts =
    let from = none_first scan.head n some more in
    let to = all_last scan.head n some (omega (arith, few, intervals)) in (
      omega (arith, counts.few, from, to, few),
      λ c s d all b first.
          let rest = λ (i : ℕ) (le : n ≤ i). first.first.blank i le in
          let ms = marks_of b in
          let sound : m.sound ≡ count_by is_sound (take n ms) = omega (arith, counts.sound b first, ap (λ (k : ℕ). count_by is_sound (take k ms)) from, ap (λ (k : ℕ). count_by is_sound (take k ms)) to) in
          let damaged : m.damaged ≡ count_by is_damaged (take n ms) = omega (arith, counts.damaged b first, ap (λ (k : ℕ). count_by is_damaged (take k ms)) from, ap (λ (k : ℕ). count_by is_damaged (take k ms)) to) in
          counts_of scan n b first c.sound c.damaged c.blank (s ∙ sound ∙ count_first is_sound refl ms n rest) (d ∙ damaged ∙ count_first is_damaged refl ms n rest) all,
    )
