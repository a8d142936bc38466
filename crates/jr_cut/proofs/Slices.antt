-- What is found in a slice of bytes is in the bytes, starting at the slice's offset.
use Rattle.std.proofs.Common.{◌≡◌, ◌≢◌, ℕ, ◌+◌, ◌-◌, ◌<◌, ◌≤◌, List, ◌++◌, length, take, drop, get_or, replicate, sym, ap, subst, ◌∙◌, length-drop, length-take-le, arith}
use Rattle.std.proofs.lemmas.List.{get_or-drop, take-append-drop, drop-drop}
use Rattle.jr_base.specs.declared.marker.TheConstants.{PREFIX}
use Rattle.jr_cut.proofs.Cuts.{rest_is}

module _ (bytes : List ℕ) (at n : ℕ) where
  abbrev slice : List ℕ
  slice = take (length bytes - at) (drop at bytes)

  pub fill_full : take n slice ≡ replicate n PREFIX → take n (drop at bytes) ≡ replicate n PREFIX
  fill_full e = subst (λ (xs : List ℕ). take n xs ≡ replicate n PREFIX) (rest_is bytes at) e

  pub fill_next : at + n < length bytes → (n < length slice → get_or slice n 0 ≢ PREFIX) → get_or bytes (at + n) 0 ≢ PREFIX
  fill_next h next =
      let f = subst (λ (xs : List ℕ). n < length xs → get_or xs n 0 ≢ PREFIX) (rest_is bytes at) next in
      subst (λ (b : ℕ). b ≢ PREFIX) (get_or-drop at bytes n 0) (f (omega (arith, length-drop at bytes)))

  pub plain_each : ((k : ℕ) → k < n → get_or slice k 0 ≢ PREFIX) → (k : ℕ) → k < n → get_or (drop at bytes) k 0 ≢ PREFIX
  plain_each plain = subst (λ (xs : List ℕ). (k : ℕ) → k < n → get_or xs k 0 ≢ PREFIX) (rest_is bytes at) plain

  pub plain_next : at + n < length bytes → (n < length slice → get_or slice n 0 ≡ PREFIX) → get_or bytes (at + n) 0 ≡ PREFIX
  plain_next lt next =
      let f = subst (λ (xs : List ℕ). n < length xs → get_or xs n 0 ≡ PREFIX) (rest_is bytes at) next in
      sym (get_or-drop at bytes n 0) ∙ f (omega (arith, length-drop at bytes))

-- ---- bytes starting at an offset, in two parts

pub split_at : (bytes : List ℕ) (at read : ℕ) → drop at bytes ≡ take read (drop at bytes) ++ drop (at + read) bytes
split_at bytes at read = sym (take-append-drop read (drop at bytes)) ∙ ap (λ (x : List ℕ). take read (drop at bytes) ++ x) (drop-drop read at bytes)

pub length_front : (bytes : List ℕ) (at read : ℕ) → at + read ≤ length bytes → length (take read (drop at bytes)) ≡ read
length_front bytes at read within = length-take-le read (drop at bytes) (omega (arith, within, length-drop at bytes))
