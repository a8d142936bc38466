-- Bytes of a file that spell data.
use Rattle.std.proofs.Common.{◌≡◌, ℕ, ◌+◌, ◌<◌, ◌≤◌, List, ◌++◌, length, take, drop, sym, ap, ◌∙◌, inl, inr, length-append, length-drop, arith}
use Rattle.std.proofs.lemmas.Bool.{cases_lt}
use Rattle.std.proofs.lemmas.List.{take-append-drop, take-append-le, drop-append-le}
use Rattle.std.proofs.Math.Seq.{take-append_seam}
use Rattle.jr_cut.specs.Cut.{IsRaw, IsStop}
use Rattle.jr_cut.proofs.Spellings.{further, up_to_stop}

-- ---- bytes that are the first of a file

pub front_whole : (bytes more : List ℕ) (at read : ℕ) → at + read ≤ length bytes → take read (drop at (bytes ++ more)) ≡ take read (drop at bytes)
front_whole bytes more at read within =
    ap (take read) (drop-append-le at bytes more (omega (arith, within)))
    ∙ take-append-le read (drop at bytes) more (omega (arith, within, length-drop at bytes))

-- all bytes that spell this number of bytes of data spell the same
pub same_spelled : (raw found more front : List ℕ) (read all : ℕ) → IsRaw (take read raw) front → length front ≤ length found → (length front < length found → IsStop (drop read raw)) → IsRaw (take all raw) (found ++ more) → front ≡ found
same_spelled raw found more front read all is few stop begin =
    let e : take read raw ++ drop read raw ≡ take all raw ++ drop all raw = take-append-drop read raw ∙ sym (take-append-drop all raw) in
    let le : length found ≤ length front = elim (cases_lt (length front) (length found)) [
      | inr g ↦ g
      | inl l ↦ omega (arith, l, length-append found more, up_to_stop (take read raw) front (take all raw) (found ++ more) (drop read raw) (drop all raw) is begin e (stop l))
    ] in
    let f = further (take read raw) front (take all raw) (found ++ more) (drop read raw) (drop all raw) is begin e (omega (arith, few, length-append found more)) in
    let n : length front ≡ length found = omega (arith, le, few) in
    sym (take-append_seam front f.added) ∙ ap (λ (k : ℕ). take k (front ++ f.added)) n ∙ ap (take (length found)) (sym f.is) ∙ take-append_seam found more
