-- Restart markers that are due, found one after the other.
use Rattle.std.proofs.Common.{◌≡◌, ℕ, suc, ◌+◌, ◌%◌, ◌<◌, ◌≤◌, List, [], ◌∷◌, ◌++◌, length, take, drop, refl, sym, ap, subst, ◌∙◌, length-append, arith}
use Rattle.std.proofs.Math.ListN.{length-drop}
use Rattle.std.proofs.Math.Seq.{take-add}
use Rattle.std.proofs.lemmas.List.{take-append-drop, take_at}
use Rattle.jr_base.specs.declared.marker.TheConstants.{EOI, RST0}
use Rattle.jr_cut.specs.declared.scan_end.ScanEnd.TheVariants.{EndOfImage}
use Rattle.jr_cut.specs.declared.stop.Stop.TheVariants.{Restart}
use Rattle.jr_cut.specs.Cut.{HasMarker, IsCut, IsRaw, IsStop, marker}
use Rattle.jr_cut.specs.PartialCut.{AreSegments}
use Rattle.jr_cut.specs.PartialSegments.{IsStopOf}
use Rattle.jr_cut.proofs.Segments.{length_marker, segments_end, segments_grow, segments_next}
use Rattle.jr_mend.proofs.Readings.{Segment}

-- the bytes up to an offset are segments up to number k, with the markers that are due between them
pub record AreDueTo (n : ℕ) (bytes : List ℕ) (at k : ℕ) : Type 0 where
  pub datas : List (List ℕ)
  pub count : length datas ≡ suc k
  pub few : k < n
  pub within : at ≤ length bytes
  pub are : AreSegments 0 (take at bytes) datas
  pub stop : IsStop (drop at bytes)

pub due_first : (n : ℕ) (bytes : List ℕ) (len : ℕ) → 0 < n → len ≤ length bytes → (found : List ℕ) × IsRaw (take len bytes) found → IsStop (drop len bytes) → AreDueTo n bytes len 0
due_first n bytes len some within data' stop = record { datas = data'.0 ∷ []; count = refl; few = some; within = within; are = data'.1; stop = stop }

pub due_next : (n : ℕ) (bytes : List ℕ) (at k count len : ℕ) → AreDueTo n bytes at k → IsStopOf n k 0 (drop at bytes) (Restart count) → Segment bytes (at + count) len → AreDueTo n bytes (at + count + len) (k + 1)
due_next n bytes at k count len due stop s =
    let begins = stop.1 in
    let mark = marker begins.more (RST0 + k % 8) in
    let long : length mark ≡ count = length_marker begins.more (RST0 + k % 8) ∙ sym begins.long in
    let marked : take count (drop at bytes) ≡ mark = ap (take count) begins.spelled ∙ take_at mark (drop count (drop at bytes)) count long in
    let read : take (at + count) bytes ≡ take at bytes ++ mark = take-add at count bytes ∙ ap (λ (x : List ℕ). take at bytes ++ x) marked in
    let after : take (at + count + len) bytes ≡ (take at bytes ++ mark) ++ take len (drop (at + count) bytes) = take-add (at + count) len bytes ∙ ap (λ (x : List ℕ). x ++ take len (drop (at + count) bytes)) read in
    let next = segments_next 0 k begins.more due.datas (take at bytes) due.are (omega (arith, due.count)) in
    let grown = segments_grow 0 due.datas [] (take at bytes ++ mark) (take len (drop (at + count) bytes)) s.found next s.raw in
    record {
      datas = due.datas ++ s.found ∷ [];
      count = omega (arith, due.count, length-append due.datas (s.found ∷ []));
      few = omega (arith, stop.0);
      within = s.within;
      are = subst (λ (x : List ℕ). AreSegments 0 x (due.datas ++ s.found ∷ [])) (sym after) grown;
      stop = s.stop;
    }

pub due_end : (n : ℕ) (bytes : List ℕ) (at k : ℕ) → AreDueTo n bytes at k → HasMarker (drop at bytes) EOI → k + 1 ≡ n → (start : ℕ) → (datas : List (List ℕ)) × IsCut n start bytes datas EndOfImage × (length datas ≡ n)
due_end n bytes at k due m all start = (
  due.datas,
  subst (λ (x : List ℕ). IsCut n start x due.datas EndOfImage) (take-append-drop at bytes)
      (segments_end n 0 k start due.datas (take at bytes) (drop at bytes) EndOfImage due.are (omega (arith, due.count)) due.few m),
  omega (arith, due.count, all),
)

pub marker_within : (n : ℕ) (bytes : List ℕ) (at k count : ℕ) → at ≤ length bytes → IsStopOf n k 0 (drop at bytes) (Restart count) → at + count ≤ length bytes
marker_within n bytes at k count within stop =
    let begins = stop.1 in
    let mark = marker begins.more (RST0 + k % 8) in
    omega (arith, within, begins.long, ap length begins.spelled, length-append mark (drop count (drop at bytes)), length_marker begins.more (RST0 + k % 8), length-drop at bytes)
