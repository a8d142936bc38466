-- Data that are written into a buffer, run by run.
use Rattle.std.proofs.Common.{◌≡◌, ◌≢◌, ℕ, ◌+◌, ◌-◌, ◌≤◌, ◌<◌, List, ◌++◌, length, take, drop, get_or, refl, sym, ap, subst, ◌∙◌, length-append, length-take-le, arith}
use Rattle.std.proofs.lemmas.List.{take-append-drop, take-append-le}
use Rattle.std.proofs.lemmas.Slice.{take-put_mid}
use Rattle.std.proofs.Math.Seq.{take-append-add}
use borrow.Rule.Slice.PartMut.{put_mid}
use Rattle.jr_base.specs.declared.marker.TheConstants.{PREFIX}
use Rattle.jr_cut.specs.Cut.{IsRaw}
use Rattle.jr_cut.proofs.Cuts.{rest_is}
use Rattle.jr_cut.proofs.Unstuffed.{raw_run}
use Rattle.jr_cut.proofs.Slices.{plain_each}

taken_more : (space part : List ℕ) (found k count : ℕ) → found ≤ length space → length part ≡ k → count ≤ k → take (found + count) (put_mid found k space part) ≡ take found space ++ take count part
taken_more space part found k count within long few =
    let x = put_mid found k space part in
    let n = found + length part in
    let front : take n x ≡ take found space ++ part = take-put_mid found k space part n refl within in
    let whole : x ≡ (take found space ++ part) ++ drop n x = sym (take-append-drop n x) ∙ ap (λ (l : List ℕ). l ++ drop n x) front in
    let found_long : length (take found space) ≡ found = length-take-le found space within in
    ap (take (found + count)) whole
    ∙ take-append-le (found + count) (take found space ++ part) (drop n x) (omega (arith, length-append (take found space) part, found_long, few, long))
    ∙ ap (λ (m : ℕ). take (m + count) (take found space ++ part)) (sym found_long)
    ∙ take-append-add (take found space) part count

-- a run of plain bytes is written after what was found
pub run_stored : (raw space part : List ℕ) (read found count : ℕ) → read ≤ length raw → found ≤ length space → read + count ≤ length raw → length part ≡ length space - found → count ≤ length part
    → take count part ≡ take count (take (length raw - read) (drop read raw)) → ((k : ℕ) → k < count → get_or (take (length raw - read) (drop read raw)) k 0 ≢ PREFIX)
    → IsRaw (take read raw) (take found space) → IsRaw (take (read + count) raw) (take (found + count) (put_mid found (length space - found) space part))
run_stored raw space part read found count inside within fits long few copied plain is =
    let run = raw_run raw (take found space) read count fits (plain_each raw read count plain) is in
    let copy : take count part ≡ take count (drop read raw) = copied ∙ ap (take count) (rest_is raw read) in
    let there : take (found + count) (put_mid found (length space - found) space part) ≡ take found space ++ take count (drop read raw) =
    taken_more space part found (length space - found) count within long (omega (arith, few, long)) ∙ ap (λ (l : List ℕ). take found space ++ l) copy in
    subst (λ (l : List ℕ). IsRaw (take (read + count) raw) l) (sym there) run
