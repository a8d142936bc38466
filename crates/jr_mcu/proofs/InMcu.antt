-- Inside an MCU: the blocks of it that are read so far, and what its last block or a missing one means.
use Rattle.std.proofs.Common.{◌≡◌, ◌≢◌, ℕ, suc, ◌+◌, ◌*◌, ◌<◌, ◌≤◌, Bool, cond, inl, inr, List, [], ◌∷◌, ◌++◌, length, get_or, set, take, refl, sym, ap, subst, ◌∙◌, length-append, arith}
use Rattle.std.specs.Prelude.{ℤ, pos}
use Rattle.std.specs.List.{All}
use Rattle.std.proofs.lemmas.Bool.{cases_eq}
use Rattle.std.proofs.lemmas.Bool.Decides.{eqb_tells}
use Rattle.std.proofs.lemmas.Nat.{mod-mul-add}
use Rattle.std.proofs.Math.Seq.{get_or-append_seam}
use Rattle.std.proofs.lemmas.List.{get_or-set_same, get_or-set_other, get_or_append_left, length-set, length-take-le, take-take, take_at}
use Rattle.std.proofs.lemmas.List.Elements.{All-from_get_or}
use Rattle.jr_head.specs.HeadValue.{HeadValue}
use Rattle.jr_segments.specs.declared.kind.Kind.{Kind}
use Rattle.jr_segments.specs.declared.kind.Kind.TheVariants.{Grey, Rgb, Ycc}
use Rattle.jr_head.specs.Geometry.{component_count, order_of, dc_of, ac_of}
use Rattle.jr_mcu.specs.Block.{IsInDcRange}
use Rattle.jr_mcu.specs.Step.{TakesBlock, HasNoBlock}
use Rattle.jr_mcu.specs.Mcus.{component, block_of, prediction, predicted, BeginsNoMcu, TakesMcu}
use Rattle.jr_mcu.proofs.Words.{OneWord}
use Rattle.jr_mcu.proofs.McuLaws.{Reads, prediction_same, reads_more, reads_stuck}
use Rattle.jr_mcu.proofs.Ranges.{block_in_range}

-- the component of the next block, by its position in the MCU
component_at : (h : HeadValue) (mcu place : ℕ) → place < length (order_of h) → component h (mcu * length (order_of h) + place) ≡ get_or (order_of h) place 0
component_at h mcu place lt = ap (λ (k : ℕ). get_or (order_of h) k 0) (mod-mul-add mcu (length (order_of h)) place lt)

register_at : (h : HeadValue) (start : List ℤ) (zs : List (List ℤ)) (z registers : List ℤ) (v : ℤ) (c k : ℕ) → c ≡ component h (length zs) → c < length registers → v ≡ get_or z 0 (pos 0)
    → get_or registers k (pos 0) ≡ prediction h start zs k (length zs) → get_or (set registers c v) k (pos 0) ≡ prediction h start (zs ++ z ∷ []) k (suc (length zs))
register_at h start zs z registers v c k is space is_first before =
    let n = length zs in
    let old : prediction h start zs k n ≡ prediction h start (zs ++ z ∷ []) k n = prediction_same h start zs (zs ++ z ∷ []) k n (λ j g. sym (get_or_append_left zs (z ∷ []) [] j (omega arith))) in
    let at : block_of (zs ++ z ∷ []) n ≡ z = get_or-append_seam zs z [] [] in
    let seen = λ (b : Bool). cond b (get_or (block_of (zs ++ z ∷ []) n) 0 (pos 0)) (prediction h start (zs ++ z ∷ []) k n) in
    elim (eqb_tells (component h n) k) [
      | inl t ↦
          let e : k ≡ c = sym t.1 ∙ sym is in
          ap (λ (j : ℕ). get_or (set registers c v) j (pos 0)) e ∙ get_or-set_same registers c v (pos 0) space ∙ is_first ∙ ap (λ (y : List ℤ). get_or y 0 (pos 0)) (sym at) ∙ ap seen (sym t.0)
      | inr t ↦
          let ne : k ≢ c = λ q. t.1 (sym is ∙ sym q) in
          get_or-set_other registers c k v (pos 0) ne ∙ before ∙ old ∙ ap seen (sym t.0)
    ]

-- the kept predictions
kept_in_range : (ps ps' : List ℤ) (c : ℕ) (v : ℤ) → length ps ≡ 3 → ps' ≡ set ps c v → IsInDcRange v
    → ((k : ℕ) → k < 3 → IsInDcRange (get_or ps k (pos 0))) → (k : ℕ) → k < 3 → IsInDcRange (get_or ps' k (pos 0))
kept_in_range ps ps' c v size wrote here there k lt = elim (cases_eq k c) [
  | inl e ↦ subst IsInDcRange (sym (ap (λ (rs : List ℤ). get_or rs k (pos 0)) wrote ∙ ap (λ (j : ℕ). get_or (set ps c v) j (pos 0)) e ∙ get_or-set_same ps c v (pos 0) (omega (arith, size)))) here
  | inr ne ↦ subst IsInDcRange (sym (ap (λ (rs : List ℤ). get_or rs k (pos 0)) wrote ∙ get_or-set_other ps c k v (pos 0) ne)) (there k lt)
]

pub few_components : (h : HeadValue) (k : Kind) (n c : ℕ) → n ≡ component_count k → c < n → c < 3
few_components h Grey n c e lt = omega arith
few_components h Rgb n c e lt = omega arith
few_components h Ycc n c e lt = omega arith

-- the blocks zs of an MCU are read from all, and these are each component's prediction after them
pub record InMcu (h : HeadValue) (start : List ℤ) (all left : List Bool) (last : List ℤ) (zs : List (List ℤ)) : Type 0 where
  pub reads : Reads h start all left zs
  pub three : length last ≡ 3
  pub each : (c : ℕ) → c < 3 → get_or last c (pos 0) ≡ prediction h start zs c (length zs)
  pub in_range : (c : ℕ) → c < 3 → IsInDcRange (get_or last c (pos 0))

-- the component of block k of an MCU
pub component_in : (h : HeadValue) (k : ℕ) → k < length (order_of h) → component h k ≡ get_or (order_of h) k 0
component_in h k lt = let e : 0 * length (order_of h) + k ≡ k = omega arith in ap (component h) (sym e) ∙ component_at h 0 k lt

-- one more block is read
pub one_more : (h : HeadValue) (start last last' : List ℤ) (all left new : List Bool) (zs : List (List ℤ)) (z : List ℤ) (c k : ℕ) (v : ℤ) → k ≡ length zs → c ≡ component h k → c < 3
    → TakesBlock (dc_of h c) (ac_of h c) (get_or last c (pos 0)) z left new → v ≡ get_or z 0 (pos 0) → last' ≡ set last c v
    → InMcu h start all left last zs → InMcu h start all new last' (zs ++ z ∷ [])
one_more h start last last' all left new zs z c k v is at three t first wrote s =
    let here : c ≡ component h (length zs) = at ∙ ap (component h) is in
    let count : length (zs ++ z ∷ []) ≡ suc (length zs) = omega (arith, length-append zs (z ∷ [])) in
    let range = block_in_range _ _ _ _ _ t.is in
    record {
      reads = reads_more h start all left new zs z (length zs) c (get_or last c (pos 0)) s.reads refl here (s.each c three) t;
      three = ap (λ (x : List ℤ). length x) wrote ∙ length-set last c v ∙ s.three;
      each = λ d lt. ap (λ (rs : List ℤ). get_or rs d (pos 0)) wrote ∙ register_at h start zs z last v c d here (omega (arith, s.three, three)) first (s.each d lt) ∙ ap (prediction h start (zs ++ z ∷ []) d) (sym count);
      in_range = kept_in_range last last' c v s.three wrote (subst IsInDcRange (sym first) range.first) s.in_range;
    }

-- if a block is missing, no whole MCU follows
pub missing : OneWord → (h : HeadValue) (start last : List ℤ) (all left : List Bool) (zs : List (List ℤ)) (c k : ℕ) → k ≡ length zs → c ≡ component h k → c < 3 → k < length (order_of h)
    → HasNoBlock (dc_of h c) (ac_of h c) (get_or last c (pos 0)) left → InMcu h start all left last zs → BeginsNoMcu h start all
missing one h start last all left zs c k is at three space none s = λ ys taken rest u e.
    let here : c ≡ component h (length zs) = at ∙ ap (component h) is in
    let n1 = subst (λ (p : ℤ). HasNoBlock (dc_of h c) (ac_of h c) p left) (s.each c three) none in
    let n2 = subst (λ (k : ℕ). HasNoBlock (dc_of h k) (ac_of h k) (prediction h start zs k (length zs)) left) here n1 in
    reads_stuck h start all left zs one s.reads n2 ys taken rest u.1 e (omega (arith, u.0, space, is))

pub last_in_range : (h : HeadValue) (start last : List ℤ) (all left : List Bool) (zs : List (List ℤ)) → InMcu h start all left last zs → All IsInDcRange last
last_in_range h start last all left zs s = All-from_get_or IsInDcRange last (pos 0) (λ c lt. s.in_range c (omega (arith, lt, s.three)))

three_are : (xs : List ℤ) (a b c : ℤ) → length xs ≡ 3 → get_or xs 0 (pos 0) ≡ a → get_or xs 1 (pos 0) ≡ b → get_or xs 2 (pos 0) ≡ c → xs ≡ a ∷ b ∷ c ∷ []
three_are [] a b c three p q r = absurd (omega (arith, three))
three_are (x ∷ []) a b c three p q r = absurd (omega (arith, three))
three_are (x ∷ y ∷ []) a b c three p q r = absurd (omega (arith, three))
three_are (x ∷ y ∷ z ∷ []) a b c three p q r = cc
three_are (x ∷ y ∷ z ∷ u ∷ us) a b c three p q r = absurd (omega (arith, three))

-- all of its blocks are read
pub predicted_after : (h : HeadValue) (start last : List ℤ) (all left : List Bool) (zs : List (List ℤ)) → InMcu h start all left last zs → last ≡ predicted h start zs
predicted_after h start last all left zs s = three_are last _ _ _ s.three (s.each 0 (omega arith)) (s.each 1 (omega arith)) (s.each 2 (omega arith))

pub mcu_taken : (h : HeadValue) (start last : List ℤ) (all left : List Bool) (zs : List (List ℤ)) → length zs ≡ length (order_of h) → InMcu h start all left last zs → TakesMcu h start zs all left
mcu_taken h start last all left zs count s = record { taken = s.reads.taken; mcu = (omega (arith, count), s.reads.blocks); split = s.reads.split }

-- a prefix of some blocks stays one when more follow it
pub front_kept : (n m : ℕ) (xs ys zs : List (List ℤ)) → n ≤ m → n ≤ length ys → take m xs ≡ take n ys ++ zs → take n xs ≡ take n ys
front_kept n m xs ys zs le space e = sym (take-take n m xs le) ∙ ap (take n) e ∙ take_at (take n ys) zs n (length-take-le n ys space)
