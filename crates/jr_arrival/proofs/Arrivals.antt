-- What a file that is still arriving holds, and what a look at it returns.
use Rattle.std.proofs.Common.{◌≡◌, ℕ, ◌+◌, ◌*◌, ◌<◌, ◌≤◌, Option, Some, None, List, ◌++◌, length, length-append, refl, sym, ap, subst, ◌∙◌, take, inl, inr, true, false, arith}
use Rattle.std.specs.Option.{IfSome, is_some}
use Rattle.std.proofs.lemmas.Bool.{cases_lt, lt-ltb}
use Rattle.jr_base.specs.declared.limits.TheConstants.{MAX_FILE_BYTES}
use Rattle.jr_head.specs.HeadValue.{HeadValue}
use Rattle.jr_segments.specs.declared.refusal.Refusal.TheVariants.{TooLong}
use Rattle.jr_head.specs.Heads.{HeadOf, RefusalOf}
use Rattle.jr_paint.specs.Lines.{line_size}
use Rattle.jr_scan.specs.PartialScan.{PartialScanValue, HasCome}
use Rattle.jr_arrival.proofs.LinesOfPictures.{of_picture}
use Rattle.jr_arrival.specs.LongerFile.{HasScan}
use Rattle.jr_arrival.specs.PartialFile.{PartialImageValue, ReturnsFinalLines, HasBegun, HoldsBytes, given_of}
use Rattle.jr_arrival.specs.PartialRows.{AreFinalLines}
use Rattle.jr_arrival.specs.Settled.{AreFinal, ReturnsNext, WantsMore}
use Rattle.jr_arrival.proofs.HeadsStay.{head_stays}
use Rattle.jr_arrival.proofs.ScansGoOn.{file_becomes}

-- with more bytes the file holds the longer file's scan
pub begun_stays : (c d : PartialImageValue) (bytes more : List ℕ) → length (bytes ++ more) ≤ MAX_FILE_BYTES → d.partial_scan.scan.head ≡ c.partial_scan.scan.head → d.bytes ≡ c.bytes + length more → (HasCome c.partial_scan bytes → HasCome d.partial_scan (bytes ++ more))
    → HasBegun c bytes → HasBegun d (bytes ++ more)
begun_stays c d bytes more small head count come (h, has, n) =
    (subst (HeadOf (bytes ++ more)) (sym head) (head_stays bytes more small c.partial_scan.scan.head h), come has, count ∙ ap (λ (k : ℕ). k + length more) n ∙ sym (length-append bytes more))

-- lines of every scan that the scan may become are those of every file that the bytes can become
pub partial_final : (bytes : List ℕ) (part : PartialScanValue) (first count : ℕ) (pixels : List ℕ) → first + count ≤ part.scan.head.height → HeadOf bytes part.scan.head → HasCome part bytes → AreFinalLines part first count pixels → AreFinal bytes first count pixels
partial_final bytes part first count pixels high head come are file t marks f can there shows =
    let becomes = file_becomes bytes file part t can head come there in
    of_picture t marks f first count pixels (subst (λ (h : HeadValue). first + count ≤ h.height) (sym becomes.head) high) shows (are t becomes)

pub given_next : (c : PartialImageValue) (bytes : List ℕ) (first n : ℕ) (pixels : List ℕ) → HasBegun c bytes → ReturnsFinalLines c first n pixels → ReturnsNext bytes first n pixels
given_next c bytes first n pixels begun given =
    let s = c.partial_scan.scan in
    let g = given.settled bytes begun.1 in
    let has : HasScan bytes s = record { head = begun.0; scan = begun.1.scan } in
    let few : 0 < n → first + n ≤ s.head.height = λ some. omega (arith, g.count, some) in
    inr (record {
      settled = record { scan = s; rows = g.rows };
      scan = has;
      rows = g.has;
      count = g.count;
      are = elim (cases_lt 0 n) [
        | inl some ↦ partial_final bytes c.partial_scan first n (take (n * line_size s.head) pixels) (few some) begun.0 begun.1 given.are
        | inr none ↦ subst (λ (k : ℕ). AreFinal bytes first k (take (k * line_size s.head) pixels)) {x = 0} {y = n} (omega (arith, none)) (λ file t marks f can there shows. let zero : 0 * line_size s.head ≡ 0 = omega arith in ap (λ (k : ℕ). take k pixels) zero)
      ];
    })

-- the bytes are all kept if the scan has not begun
pub none_kept : (kept : List ℕ) (o : Option PartialImageValue) (bytes : List ℕ) → is_some o ≡ false → HoldsBytes kept o bytes → kept ≡ bytes
none_kept kept None bytes e h = h
none_kept kept (Some c) bytes e h = absurd (let z : true ≡ false = e in cc)

pub none_given : (o : Option PartialImageValue) → is_some o ≡ false → given_of o ≡ 0
none_given None e = refl
none_given (Some c) e = absurd (let z : true ≡ false = e in cc)

-- a look at a file, by whether its scan has begun
pub look_given : (kept bytes : List ℕ) (o : Option PartialImageValue) (n : ℕ) (pixels : List ℕ) → HoldsBytes kept o bytes → (o ≡ None → n ≡ 0) → (o ≡ None → WantsMore bytes) → IfSome o (λ c. ReturnsFinalLines c (given_of o) n pixels) → ReturnsNext bytes (given_of o) n pixels
look_given kept bytes None n pixels holds none wants given = inl (none refl, wants refl)
look_given kept bytes (Some c) n pixels holds none wants given = given_next c bytes c.row.lines n pixels holds given

-- a file that is too long is refused as such
pub is_too_long : (bytes : List ℕ) → MAX_FILE_BYTES < length bytes → RefusalOf bytes TooLong
is_too_long bytes l = let e = lt-ltb MAX_FILE_BYTES (length bytes) l in inl (rw e refl)

pub begun_scan : (c : PartialImageValue) (bytes : List ℕ) → HasBegun c bytes → HasScan bytes c.partial_scan.scan
begun_scan c bytes begun = record { head = begun.0; scan = begun.1.scan }
