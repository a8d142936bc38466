-- A header that is accepted, and a fault, are those of more bytes.
use Rattle.std.proofs.Common.{◌≡◌, inl, inr, ℕ, ◌+◌, ◌-◌, ◌≤◌, Bool, true, false, List, [], ◌∷◌, ◌++◌, length, refl, sym, ap, subst, ◌∙◌, append_assoc, length-append, arith}
use Rattle.std.specs.Prelude.{Some, not, ◌&&◌, ◌==◌, nat_lt}
use Rattle.std.specs.List.{flat_map}
use Rattle.std.proofs.lemmas.Bool.{cases_lt, lt-ltb, le-ltb}
use Rattle.jr_base.specs.declared.limits.TheConstants.{MAX_FILE_BYTES}
use Rattle.jr_base.specs.declared.marker.TheConstants.{PREFIX, SOI}
use Rattle.jr_segments.specs.declared.refusal.Refusal.TheVariants.{TooLong, NotJpeg}
use Rattle.jr_segments.specs.Bytes.{byte}
use Rattle.jr_segments.specs.Tests.{Test, ◌when◌, first_fault}
use Rattle.jr_segments.specs.Segments.{segment_bytes}
use Rattle.jr_segments.specs.declared.refusal.Refusal.{Refusal}
use Rattle.jr_head.specs.HeadValue.{HeadValue}
use Rattle.jr_head.specs.Heads.{HeadOf, RefusalOf, start_of_image, start_tests, segment_tests}
pub use Rattle.jr_head.proofs.HeadStays.{head_stays}
use Rattle.jr_arrival.proofs.TestsStay.{segment_stays}
use Rattle.jr_arrival.specs.Arrival.{CanBecome, IsFinalFault}

pub head_is_final : (bytes file : List ℕ) (h : HeadValue) → CanBecome bytes file → HeadOf bytes h → HeadOf file h
head_is_final bytes file h can head = subst (λ (b : List ℕ). HeadOf b h) (sym can.is) (head_stays bytes can.more (subst (λ (b : List ℕ). length b ≤ MAX_FILE_BYTES) can.is can.small) h head)

-- ---- a fault

abbrev both : Bool → Bool → List Test
both a b = (TooLong when a) ∷ (NotJpeg when b) ∷ []

is_not_jpeg : (b : Bool) (f : Refusal) → first_fault (both false b) ≡ Some f → f ≡ NotJpeg
is_not_jpeg true f h = cc
is_not_jpeg false f h = absurd cc

starts_same : (bytes more : List ℕ) → 2 ≤ length bytes → nat_lt MAX_FILE_BYTES (length bytes) ≡ false → nat_lt MAX_FILE_BYTES (length (bytes ++ more)) ≡ false → first_fault (start_tests (bytes ++ more)) ≡ first_fault (start_tests bytes)
starts_same [] more two short small = absurd (omega (arith, two))
starts_same (a ∷ []) more two short small = absurd (omega (arith, two))
starts_same (a ∷ b ∷ r) more two short small = rw (short, small) refl

-- bytes that are not too long, and more of them
module _ (bytes more : List ℕ) (small : length (bytes ++ more) ≤ MAX_FILE_BYTES) where
  long : length (bytes ++ more) ≡ length bytes + length more
  long = length-append bytes more

  longer_small : nat_lt MAX_FILE_BYTES (length (bytes ++ more)) ≡ false
  longer_small = le-ltb MAX_FILE_BYTES (length (bytes ++ more)) small

  bytes_small : nat_lt MAX_FILE_BYTES (length bytes) ≡ false
  bytes_small = le-ltb MAX_FILE_BYTES (length bytes) (omega (arith, long, small))

  fault_stays : (f : Refusal) → IsFinalFault bytes f → RefusalOf bytes f → RefusalOf (bytes ++ more) f
  fault_stays f final (inl start) =
      let name = is_not_jpeg (not (byte 0 bytes == PREFIX && byte 1 bytes == SOI)) f (rw bytes_small at start) in
      inl (starts_same bytes more (final.start name) bytes_small longer_small ∙ start)
  fault_stays f final (inr e) =
      let rest = e.rest ++ more in
      let all = flat_map segment_bytes e.segments in
      let whole : length bytes ≡ 2 + (length all + length e.rest) = ap length e.is ∙ length-append start_of_image (all ++ e.rest) ∙ ap (λ n. 2 + n) (length-append all e.rest) in
      let two : 2 ≤ length bytes = omega (arith, whole) in
      let at : length (bytes ++ more) - length rest ≡ length bytes - length e.rest = omega (arith, long, length-append e.rest more, whole) in
      inr (record {
        segments = e.segments;
        rest = rest;
        starts = starts_same bytes more two bytes_small longer_small ∙ e.starts;
        is = ap (λ (b : List ℕ). b ++ more) e.is ∙ append_assoc start_of_image (all ++ e.rest) more ∙ ap (λ (b : List ℕ). start_of_image ++ b) (append_assoc all e.rest more);
        chain = e.chain;
        fails = ap (λ n. first_fault (segment_tests e.segments n rest)) at ∙ (segment_stays e.segments (length bytes - length e.rest) e.rest more).fails f final.not_early e.fails;
      })

pub fault_is_final : (bytes file : List ℕ) (f : Refusal) → CanBecome bytes file → IsFinalFault bytes f → RefusalOf bytes f → RefusalOf file f
fault_is_final bytes file f can final r =
    subst (λ (b : List ℕ). RefusalOf b f) (sym can.is) (fault_stays bytes can.more (subst (λ (b : List ℕ). length b ≤ MAX_FILE_BYTES) can.is can.small) f final r)

pub too_long_is_final : (bytes more : List ℕ) → RefusalOf bytes TooLong → RefusalOf (bytes ++ more) TooLong
too_long_is_final bytes more r = elim (cases_lt MAX_FILE_BYTES (length (bytes ++ more))) [
  | inl l ↦ let e = lt-ltb MAX_FILE_BYTES (length (bytes ++ more)) l in inl (rw e refl)
  | inr g ↦ fault_stays bytes more g TooLong (record { not_early = λ e. absurd cc; start = λ e. absurd cc }) r
]
