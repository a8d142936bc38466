-- Each file with a header has a scan.
use Rattle.std.proofs.Common.{◌≡◌, ◌∙◌, ℕ, suc, ◌-◌, ◌%◌, ◌<◌, List, [], ◌∷◌, map, drop, refl, ap, subst, arith}
use Rattle.std.specs.List.{All}
use Rattle.std.proofs.lemmas.List.Elements.{All-cons, All-drop, All-head, All-nil, All-tail}
use Rattle.std.proofs.lemmas.Nat.{mod_below}
use Rattle.jr_cut.specs.Cut.{Cutting, IsCut}
use Rattle.jr_cut.proofs.EachCut.{each_scan_has_a_cut}
use Rattle.jr_head.specs.HeadValue.{HeadValue}
use Rattle.jr_head.specs.Heads.{HeadOf}
use Rattle.jr_scan.specs.ScanValue.{intervals_of, scan_of_segments}
use Rattle.jr_damage.specs.Verdicts.{IsFileScan}

abbrev pub as_byte : ℕ → ℕ
as_byte b = b % 256

all_small : (bytes : List ℕ) → All (λ b. b < 256) (map as_byte bytes)
all_small [] = All-nil (λ b. b < 256)
all_small (b ∷ bs) = All-cons (λ b. b < 256) (as_byte b) (map as_byte bs) (mod_below b 256 (omega arith)) (all_small bs)

bytes_stay : (bytes : List ℕ) → All (λ b. b < 256) bytes → map as_byte bytes ≡ bytes
bytes_stay [] small = refl
bytes_stay (b ∷ bs) small =
    let same : as_byte b ≡ b = omega (arith, All-head (λ b. b < 256) b bs small) in
    ap (λ (c : ℕ). c ∷ map as_byte bs) same ∙ ap (λ (l : List ℕ). b ∷ l) (bytes_stay bs (All-tail (λ b. b < 256) b bs small))

-- what follows the header in any list of numbers, cut as if they were bytes and there were an interval
pub cutting_of : (file : List ℕ) (h : HeadValue) → Cutting (suc (intervals_of h - 1)) h.scan_at (map as_byte (drop h.scan_at file))
cutting_of file h = each_scan_has_a_cut (suc (intervals_of h - 1)) h.scan_at (map as_byte (drop h.scan_at file)) (omega arith) (all_small (drop h.scan_at file))

-- which are those of a file
pub cutting_is : (file : List ℕ) (h : HeadValue) → HeadOf file h → 0 < intervals_of h → All (λ b. b < 256) file → IsFileScan file (scan_of_segments h (cutting_of file h).datas (cutting_of file h).end)
cutting_is file h head some small =
    let c = cutting_of file h in
    let at = h.scan_at in
    let count : suc (intervals_of h - 1) ≡ intervals_of h = omega (arith, some) in
    let bytes = bytes_stay (drop at file) (All-drop (λ b. b < 256) at file small) in
    let is = subst (λ (l : List ℕ). IsCut (suc (intervals_of h - 1)) at l c.datas c.end) bytes c.is in
    record { head = head; cut = record { segments = c.datas; cut = subst (λ (n : ℕ). IsCut n at (drop at file) c.datas c.end) count is; intervals = refl } }
