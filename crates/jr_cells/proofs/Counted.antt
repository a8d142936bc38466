-- What counts among what notes know.
use Rattle.std.proofs.Common.{◌≡◌, ◌≢◌, ℕ, zero, suc, ◌+◌, List, [], ◌∷◌, Option, Some, None, length, get_or, replicate, sym, refl, ap, ◌∙◌, arith}
use Rattle.std.proofs.lemmas.List.{ext_get_or}
use mathlib.Core.Logic.{dite}
use native.Mathlib.Decide.{ℕ_discrete}
use Rattle.jr_cells.specs.Notes.{counted}

module _ {X V : Type 0} (counts : ℕ → Option X → Option V) (empty : (i : ℕ) → counts i None ≡ None) where
  length-counted : (i : ℕ) (ks : List (Option X)) → length (counted counts i ks) ≡ length ks
  length-counted i [] = refl
  length-counted i (k ∷ ks) = ap suc (length-counted (i + 1) ks)

  from : (i : ℕ) (ks : List (Option X)) (j : ℕ) → get_or (counted counts i ks) j None ≡ counts (i + j) (get_or ks j None)
  from i [] j = sym (empty (i + j))
  from i (k ∷ ks) zero = let e : i ≡ i + 0 = omega arith in ap (λ (m : ℕ). counts m k) e
  from i (k ∷ ks) (suc j) = let e : i + 1 + j ≡ i + suc j = omega arith in from (i + 1) ks j ∙ ap (λ (m : ℕ). counts m (get_or ks j None)) e

  pub there : (ks : List (Option X)) (j : ℕ) → get_or (counted counts 0 ks) j None ≡ counts j (get_or ks j None)
  there ks j = let e : 0 + j ≡ j = omega arith in from 0 ks j ∙ ap (λ (m : ℕ). counts m (get_or ks j None)) e

  -- what is known counts
  pub counts_there : (ks : List (Option X)) (j : ℕ) (x : X) (v : V) → get_or ks j None ≡ Some x → counts j (Some x) ≡ Some v → get_or (counted counts 0 ks) j None ≡ Some v
  counts_there ks j x v e f = there ks j ∙ ap (counts j) e ∙ f

  -- what counts is known
  known_there : (j : ℕ) (m : Option X) (v : V) → counts j m ≡ Some v → (x : X) × (m ≡ Some x) × (counts j (Some x) ≡ Some v)
  known_there j None v e = absurd (let z : None ≡ Some v = sym (empty j) ∙ e in cc)
  known_there j (Some x) v e = (x, refl, e)

  -- if nothing known is lost, nothing that counts is
  pub later : (old new : List (Option X)) → ((i : ℕ) (x : X) → get_or old i None ≡ Some x → get_or new i None ≡ Some x)
      → (i : ℕ) (v : V) → get_or (counted counts 0 old) i None ≡ Some v → get_or (counted counts 0 new) i None ≡ Some v
  later old new keep i v e =
      let k = known_there i (get_or old i None) v (sym (there old i) ∙ e) in
      counts_there new i k.0 v (keep i k.0 k.1) k.2

  -- if notes agree, what counts agrees
  pub agreed : (one two : List (Option X)) → ((i : ℕ) (x y : X) → get_or one i None ≡ Some x → get_or two i None ≡ Some y → x ≡ y)
      → (i : ℕ) (v w : V) → get_or (counted counts 0 one) i None ≡ Some v → get_or (counted counts 0 two) i None ≡ Some w → v ≡ w
  agreed one two same i v w e f =
      let k = known_there i (get_or one i None) v (sym (there one i) ∙ e) in
      let l = known_there i (get_or two i None) w (sym (there two i) ∙ f) in
      let g : counts i (Some l.0) ≡ Some v = ap (λ (x : X). counts i (Some x)) (sym (same i k.0 l.0 k.1 l.1)) ∙ k.2 in
      let h : Some v ≡ Some w = sym g ∙ l.2 in
      cc

  -- notes that know nothing
  pub fresh : (i n : ℕ) → counted counts i (replicate n None) ≡ replicate n None
  fresh i zero = refl
  fresh i (suc n) = ap (λ (k : Option V). k ∷ counted counts (i + 1) (replicate n None)) (empty i) ∙ ap (λ (l : List (Option V)). None ∷ l) (fresh (i + 1) n)

  same_there : (at : ℕ) (x : X) (m n : Option X) → n ≡ Some x → ((y : X) → m ≡ Some y → n ≡ Some y) → counts at (Some x) ≡ None → (counts at n ≡ None) × (counts at m ≡ None)
  same_there at x None n e keep f = (ap (counts at) e ∙ f, empty at)
  same_there at x (Some y) n e keep f = (ap (counts at) e ∙ f, ap (counts at) (sym (keep y refl)) ∙ ap (counts at) e ∙ f)

  -- if what is found does not count, nothing that counts was known there, and what counts elsewhere is unchanged
  pub unseen : (old new : List (Option X)) (at : ℕ) (x : X) → length new ≡ length old
      → ((i : ℕ) (y : X) → get_or old i None ≡ Some y → get_or new i None ≡ Some y)
      → ((i : ℕ) → i ≢ at → get_or new i None ≡ get_or old i None)
      → get_or new at None ≡ Some x → counts at (Some x) ≡ None
      → (counted counts 0 new ≡ counted counts 0 old) × (get_or (counted counts 0 old) at None ≡ None)
  unseen old new at x long keep others e f =
      let s = same_there at x (get_or old at None) (get_or new at None) e (keep at) f in
      let here : get_or (counted counts 0 old) at None ≡ None = there old at ∙ s.1 in (
        ext_get_or None (counted counts 0 new) (counted counts 0 old) (length-counted 0 new ∙ long ∙ sym (length-counted 0 old))
            (λ i h. dite (ℕ_discrete i at)
            (λ is. ap (λ (m : ℕ). get_or (counted counts 0 new) m None) is ∙ there new at ∙ s.0 ∙ sym here ∙ ap (λ (m : ℕ). get_or (counted counts 0 old) m None) (sym is))
            (λ apart. there new i ∙ ap (counts i) (others i apart) ∙ sym (there old i))),
        here,
      )
