-- Markers that end data, in bytes and in more of them.
use Rattle.std.proofs.Common.{◌≡◌, ◌≢◌, ℕ, zero, suc, ◌+◌, ◌-◌, ◌<◌, ◌≤◌, ◌⊎◌, inl, inr, List, [], ◌++◌, length, replicate, take, drop, get_or, refl, sym, ap, subst, ◌∙◌, append_assoc, length-drop, length-take-le, arith}
use Rattle.std.proofs.lemmas.List.{append-nil, drop-append-le, drop-take, drop_all, take-append-drop}
use Rattle.jr_base.specs.declared.marker.TheConstants.{PREFIX}
use Rattle.jr_cut.specs.Cut.{IsStop}
use Rattle.jr_cut.proofs.Cuts.{rest_is}

get-fill : (n k : ℕ) → k < n → get_or (replicate n PREFIX) k 0 ≡ PREFIX
get-fill zero k lt = absurd (omega (arith, lt))
get-fill (suc n) zero lt = refl
get-fill (suc n) (suc k) lt = get-fill n k (omega (arith, lt))

pub length-fill : (n : ℕ) → length (replicate n PREFIX) ≡ n
length-fill zero = refl
length-fill (suc n) = ap suc (length-fill n)

-- a marker that is there stays
pub stop_stays : (tail more : List ℕ) (fill : ℕ) → IsStop tail → (fill < length tail → get_or tail fill 0 ≢ PREFIX) → (more ≡ []) ⊎ (fill < length tail) → IsStop (tail ++ more)
stop_stays tail more fill s next (inl none) = subst IsStop (sym (ap (λ (x : List ℕ). tail ++ x) none ∙ append-nil tail)) s
stop_stays tail more fill s next (inr lt) = elim s.stops [
  | inl e ↦
      let all : tail ≡ replicate s.more PREFIX = s.spelled ∙ ap (λ (x : List ℕ). replicate s.more PREFIX ++ x) e ∙ append-nil (replicate s.more PREFIX) in
      absurd (next lt (ap (λ (x : List ℕ). get_or x fill 0) all ∙ get-fill s.more fill (omega (arith, lt, ap length all, length-fill s.more))))
  | inr o ↦ record {
    more = s.more;
    rest = s.rest ++ more;
    spelled = ap (λ (x : List ℕ). x ++ more) s.spelled ∙ append_assoc (replicate s.more PREFIX) s.rest more;
    stops = inr (o.0, o.1, o.2 ++ more, o.3, o.4, ap (λ (x : List ℕ). x ++ more) o.5);
  }
]

pub stop_whole : (bytes more : List ℕ) (end fill : ℕ) → end ≤ length bytes → IsStop (drop end bytes) → (fill < length (take (length bytes - end) (drop end bytes)) → get_or (take (length bytes - end) (drop end bytes)) fill 0 ≢ PREFIX)
    → (more ≡ []) ⊎ (end + fill < length bytes) → IsStop (drop end (bytes ++ more))
stop_whole bytes more end fill within s next final =
    let there = subst (λ (x : List ℕ). fill < length x → get_or x fill 0 ≢ PREFIX) (rest_is bytes end) next in
    subst IsStop (sym (drop-append-le end bytes more within)) (stop_stays (drop end bytes) more fill s there (elim final [ inl none ↦ inl none | inr lt ↦ inr (omega (arith, lt, length-drop end bytes)) ]))

-- and so does one within some of the first bytes
pub stop_there : (raw : List ℕ) (read most fill : ℕ) → read ≤ most → most ≤ length raw → IsStop (drop read (take most raw)) → (fill < length (take (most - read) (drop read raw)) → get_or (take (most - read) (drop read raw)) fill 0 ≢ PREFIX) → (most ≡ length raw) ⊎ (read + fill < most) → IsStop (drop read raw)
stop_there raw read most fill few within s next final =
    let tail = drop read (take most raw) in
    let long : length (take most raw) ≡ most = length-take-le most raw within in
    let sum : read + (most - read) ≡ most = omega (arith, few) in
    let part : tail ≡ take (most - read) (drop read raw) = ap (λ (k : ℕ). drop read (take k raw)) (sym sum) ∙ drop-take read (most - read) raw in
    let whole : drop read raw ≡ tail ++ drop most raw = ap (drop read) (sym (take-append-drop most raw)) ∙ drop-append-le read (take most raw) (drop most raw) (omega (arith, few, long)) in
    let there = subst (λ (x : List ℕ). fill < length x → get_or x fill 0 ≢ PREFIX) (sym part) next in
    subst IsStop (sym whole) (stop_stays tail (drop most raw) fill s there (elim final [
      | inl all ↦ inl (drop_all most raw (omega (arith, all)))
      | inr lt ↦ inr (omega (arith, lt, long, length-drop read (take most raw)))
    ]))
