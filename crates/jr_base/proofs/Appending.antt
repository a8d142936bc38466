-- One piece of text sent after another.
use Rattle.std.proofs.Common.{◌≡◌, ℕ, ◌+◌, ◌-◌, arith, List, [], ◌++◌, Option, Some, None, Result, Ok, Err, OnErr, take, drop, length, append_assoc, append-nil, ap, sym, ◌∙◌}
use Rattle.std.proofs.lemmas.List.{drop-take, take-append-drop, take-take, take_rest}
use Rattle.std.specs.Io.KnownBytes.{Appends, Keeps}
use Rattle.jr_base.specs.Tally.{AppendsBeginning}

pub then : (a b c : Option (List ℕ)) (xs ys : List ℕ) → Appends a b xs → Appends b c ys → Appends a c (xs ++ ys)
then None b c xs ys p q = tt
then (Some k) None c xs ys p q = absurd p
then (Some k) (Some m) None xs ys p q = absurd q
then (Some k) (Some m) (Some n) xs ys p q = q ∙ ap (λ z. z ++ ys) p ∙ append_assoc k xs ys

pub none_yet : (a : Option (List ℕ)) → Appends a a []
none_yet None = tt
none_yet (Some k) = sym (append-nil k)

pub take_two : (m n : ℕ) (bs : List ℕ) → take m bs ++ take n (drop m bs) ≡ take (m + n) bs
take_two m n bs =
    ap (λ z. z ++ take n (drop m bs)) (sym (take-take m (m + n) bs (omega arith)))
    ∙ ap (λ z. take m (take (m + n) bs) ++ z) (sym (drop-take m n bs))
    ∙ take-append-drop m (take (m + n) bs)

-- the bytes that a write took of what was left
pub sent_more : (a b c : Option (List ℕ)) (m n : ℕ) (bs : List ℕ) → Appends a b (take m bs) → Appends b c (take n (take (length bs - m) (drop m bs))) → Appends a c (take (m + n) bs)
sent_more a b c m n bs p q = rw (← take_two m n bs) (then a b c (take m bs) (take n (drop m bs)) p (rw take_rest at q))

pub kept : (a b c : Option (List ℕ)) (m : ℕ) (bs : List ℕ) → Appends a b (take m bs) → Keeps b c → AppendsBeginning a c bs
kept None b c m bs p q = record { sent = take m bs; left = drop m bs; whole = sym (take-append-drop m bs); appended = tt }
kept (Some k) None c m bs p q = absurd p
kept (Some k) (Some l) None m bs p q = absurd q
kept (Some k) (Some l) (Some n) m bs p q = record { sent = take m bs; left = drop m bs; whole = sym (take-append-drop m bs); appended = q ∙ p }

pub some_sent : (a c : Option (List ℕ)) (k : ℕ) (bs : List ℕ) → Appends a c (take k bs) → AppendsBeginning a c bs
some_sent a c k bs p = record { sent = take k bs; left = drop k bs; whole = sym (take-append-drop k bs); appended = p }

pub on_err : {T E : Type 0} (r : Result T E) (P : Type 0) → P → OnErr r P
on_err (Ok v) P p = tt
on_err (Err e) P p = p

pub from_err : {T E : Type 0} (r : Result T E) (e : E) (P : Type 0) → r ≡ Err e → OnErr r P → P
from_err r e P is p = rw is at p

-- a prefix of the first piece
pub front_first : {a b : Option (List ℕ)} (xs ys : List ℕ) → AppendsBeginning a b xs → AppendsBeginning a b (xs ++ ys)
front_first xs ys f = record {
  sent = f.sent;
  left = f.left ++ ys;
  whole = ap (λ z. z ++ ys) f.whole ∙ append_assoc f.sent f.left ys;
  appended = f.appended;
}

-- the first piece, and a prefix of the second
pub front_after : (a b c : Option (List ℕ)) (xs ys : List ℕ) → Appends a b xs → AppendsBeginning b c ys → AppendsBeginning a c (xs ++ ys)
front_after a b c xs ys p f = record {
  sent = xs ++ f.sent;
  left = f.left;
  whole = ap (λ z. xs ++ z) f.whole ∙ sym (append_assoc xs f.sent f.left);
  appended = then a b c xs f.sent p f.appended;
}

-- a prefix of a text, if the pieces before ys were sent, and then a prefix of ys
pub front_of : (a b c : Option (List ℕ)) (xs ys zs whole : List ℕ) → whole ≡ xs ++ ys ++ zs → Appends a b xs → AppendsBeginning b c ys → AppendsBeginning a c whole
front_of a b c xs ys zs whole e p f = rw e (front_first (xs ++ ys) zs (front_after a b c xs ys p f))

pub on_err_map : {T E : Type 0} (r : Result T E) (P Q : Type 0) → (P → Q) → OnErr r P → OnErr r Q
on_err_map (Ok v) P Q f p = tt
on_err_map (Err e) P Q f p = f p
