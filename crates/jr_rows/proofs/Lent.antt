-- A list after a borrowed part of it is written back.
use Rattle.std.proofs.Common.{◌≡◌, ℕ, ◌≤◌, List, ◌++◌, length, take, drop, ap, sym, ◌∙◌}
use Rattle.std.proofs.lemmas.List.{length-take-le}
use Rattle.std.proofs.Math.Seq.{drop-append_seam, take-append_seam}
use borrow.Rule.Slice.PartMut.{post_of, put_mid}

-- all of it
pub all_back : {X : Type 0} (n : ℕ) (new old : List X) → n ≡ length new → take n (new ++ drop (length new) old) ≡ new
all_back n new old long = ap (λ (k : ℕ). take k (new ++ drop (length new) old)) long ∙ take-append_seam new (drop (length new) old)

-- the part itself
pub part_back : {X : Type 0} (a k : ℕ) (xs ys : List X) → a ≤ length xs → length ys ≡ k → take k (drop a (put_mid a k xs ys)) ≡ ys
part_back a k xs ys within long =
    let rest = ys ++ post_of a k xs in
    let after : drop a (put_mid a k xs ys) ≡ rest = ap (λ (j : ℕ). drop j (take a xs ++ rest)) (sym (length-take-le a xs within)) ∙ drop-append_seam (take a xs) rest in
    ap (take k) after ∙ ap (λ (j : ℕ). take j rest) (sym long) ∙ take-append_seam ys (post_of a k xs)

-- the elements before the part
pub front_kept : {X : Type 0} (a k : ℕ) (xs ys : List X) → a ≤ length xs → take a (put_mid a k xs ys) ≡ take a xs
front_kept a k xs ys within =
    let rest = ys ++ post_of a k xs in
    ap (λ (j : ℕ). take j (take a xs ++ rest)) (sym (length-take-le a xs within)) ∙ take-append_seam (take a xs) rest
