-- What spells the first bytes of data.
use Rattle.std.proofs.Common.{◌≡◌, ℕ, ◌+◌, ◌-◌, ◌<◌, ◌≤◌, List, [], ◌++◌, length, take, drop, sym, ap, subst, ◌∙◌, inl, inr, length-drop, slice_range, arith}
use Rattle.std.proofs.lemmas.Bool.{cases_lt}
use Rattle.std.proofs.lemmas.List.{append-nil, drop-drop, drop-take, length-take-le, take-append-drop, take-take}
use Rattle.std.proofs.Math.Seq.{drop-append_seam, take-append_seam}
use Rattle.jr_cut.specs.Cut.{IsRaw, IsStop}
use Rattle.jr_cut.proofs.Spellings.{further, up_to_stop}
use Rattle.jr_cut.specs.declared.file_segments.CodedSpan.{CodedSpan}
use Rattle.jr_damage.specs.Offsets.{BeginsByte}

-- if the first n bytes of `raw` spell `found`, at most k bytes, and fewer only up to a stop, they spell the first k bytes of all its data
module _ (raw bytes found : List ℕ) (n k : ℕ) (all : IsRaw raw bytes) (is : IsRaw (take n raw) found) (few : length found ≤ k) (stop : length found < k → IsStop (drop n raw)) where
  parts : take n raw ++ drop n raw ≡ raw ++ []
  parts = take-append-drop n raw ∙ sym (append-nil raw)

  exact : k ≤ length bytes → length found ≡ k
  exact there = elim (cases_lt (length found) k) [
    | inl less ↦ absurd (omega (arith, there, less, up_to_stop (take n raw) found raw bytes (drop n raw) [] is all parts (stop less)))
    | inr ge ↦ omega (arith, few, ge)
  ]

  pub first_found : k ≤ length bytes → IsRaw (take n raw) (take k bytes) × IsRaw (drop n raw) (drop k bytes)
  first_found there =
      let long = exact there in
      let f = further (take n raw) found raw bytes (drop n raw) [] is all parts (omega (arith, long, there)) in
      let front : take k bytes ≡ found = ap (λ (j : ℕ). take j bytes) (sym long) ∙ ap (take (length found)) f.is ∙ take-append_seam found f.added in
      let back : drop k bytes ≡ f.added = ap (λ (j : ℕ). drop j bytes) (sym long) ∙ ap (drop (length found)) f.is ∙ drop-append_seam found f.added in
      let rest : drop n raw ≡ f.raw = f.spelled ∙ append-nil f.raw in
      (subst (IsRaw (take n raw)) (sym front) is, subst (λ (x : List ℕ). IsRaw x (drop k bytes)) (sym rest) (subst (IsRaw f.raw) (sym back) f.raw_is))

-- the first n bytes of a segment, which spell the first k of its data
pub begins_byte : (file : List ℕ) (span : CodedSpan) (bytes : List ℕ) (k n : ℕ) → span.start ≤ span.end → span.end ≤ length file → n ≤ length (slice_range file span.start span.end)
    → IsRaw (take n (slice_range file span.start span.end)) (take k bytes) → IsRaw (drop n (slice_range file span.start span.end)) (drop k bytes) → BeginsByte file span bytes k (span.start + n)
begins_byte file span bytes k n order within few before from =
    let s = span.start in
    let m = span.end - s in
    let xs = drop s file in
    let long : length (take m xs) ≡ m = length-take-le m xs (omega (arith, length-drop s file, within)) in
    let fits : n ≤ m = omega (arith, few, long) in
    let front : take n (take m xs) ≡ slice_range file s (s + n) = take-take n m xs fits ∙ ap (λ (j : ℕ). take j xs) (let e : n ≡ s + n - s = omega arith in e) in
    let split : m ≡ n + (m - n) = omega (arith, fits) in
    let left : m - n ≡ span.end - (s + n) = omega (arith, fits, order) in
    let back : drop n (take m xs) ≡ slice_range file (s + n) span.end =
    ap (λ (j : ℕ). drop n (take j xs)) split ∙ drop-take n (m - n) xs ∙ ap (take (m - n)) (drop-drop n s file) ∙ ap (λ (j : ℕ). take j (drop (s + n) file)) left in
    record {
      after_start = omega arith;
      before_end = omega (arith, fits, order);
      before = subst (λ (x : List ℕ). IsRaw x (take k bytes)) front before;
      from = subst (λ (x : List ℕ). IsRaw x (drop k bytes)) back from;
    }
