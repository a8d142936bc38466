-- The bits have at most one list of blocks; one more block.
use Rattle.std.proofs.Common.{◌≡◌, ℕ, zero, suc, ◌<◌, ◌≤◌, Bool, cond, eqb, List, [], ◌∷◌, ◌++◌, length, get_or, take, drop, refl, sym, ap, subst, ◌∙◌, inl, inr, append_assoc, length-append, arith}
use Rattle.std.specs.Prelude.{ℤ, pos}
use Rattle.std.proofs.lemmas.List.{append_cancel_left, append-nil, drop_all, get_or_append_left, take-append-drop, length-take-le, get_or-take}
use Rattle.std.proofs.lemmas.Bool.{cases_lt}
use Rattle.std.proofs.lemmas.List.Concat.{flat_map-append}
use Rattle.std.proofs.Math.Seq.{drop-cons, take-append_seam}
use Rattle.std.proofs.Math.Seq.{get_or-append_seam}
use Rattle.jr_head.specs.HeadValue.{HeadValue}
use Rattle.jr_head.specs.Geometry.{dc_of, ac_of}
use Rattle.jr_mcu.specs.Block.{BlockAt}
use Rattle.jr_mcu.specs.Step.{TakesBlock, HasNoBlock}
use Rattle.jr_mcu.specs.Mcus.{component, block_of, prediction, IsBlock, all_bits, Blocks}
use Rattle.jr_mcu.proofs.Words.{OneWord}
use Rattle.jr_mcu.proofs.Coded.{same_block}

-- the bits are those of these blocks, and then what is left
pub record Reads (h : HeadValue) (start : List ℤ) (all left : List Bool) (zs : List (List ℤ)) : Type 0 where
  pub taken : List Bool
  pub blocks : Blocks h start zs taken
  pub split : all ≡ taken ++ left

-- no further block follows
abbrev pub HasNoNext : HeadValue → List ℤ → List (List ℤ) → List Bool → Type 0
HasNoNext h start zs left =
    let c = component h (length zs) in HasNoBlock (dc_of h c) (ac_of h c) (prediction h start zs c (length zs)) left

-- the lists have the same blocks below n
abbrev pub SameBelow : List (List ℤ) → List (List ℤ) → ℕ → Type 0
SameBelow zs ys n = (k : ℕ) → k < n → block_of zs k ≡ block_of ys k

pub prediction_same : (h : HeadValue) (start : List ℤ) (zs ys : List (List ℤ)) (c n : ℕ) → SameBelow zs ys n → prediction h start zs c n ≡ prediction h start ys c n
prediction_same h start zs ys c zero same = refl
prediction_same h start zs ys c (suc m) same =
    let here = same m (omega arith) in
    let before = prediction_same h start zs ys c m (λ k lt. same k (omega arith)) in
    ap (λ (z : List ℤ). cond (eqb (component h m) c) (get_or z 0 (pos 0)) (prediction h start zs c m)) here ∙ ap (λ (q : ℤ). cond (eqb (component h m) c) (get_or (block_of ys m) 0 (pos 0)) q) before

-- a list's block n depends on its blocks up to n alone
pub is_block_same : (h : HeadValue) (start : List ℤ) (zs ys : List (List ℤ)) (n : ℕ) (u v : List Bool) → SameBelow zs ys (suc n) → u ≡ v → IsBlock h start zs n u → IsBlock h start ys n v
is_block_same h start zs ys n u v same e b =
    let c = component h n in
    let p = prediction_same h start zs ys c n (λ k lt. same k (omega arith)) in
    let z = same n (omega arith) in
    let at = λ (q : ℤ) (y : List ℤ) (w : List Bool). BlockAt (dc_of h c) (ac_of h c) q y w in
    let b1 = subst (λ (q : ℤ). BlockAt (dc_of h c) (ac_of h c) q (block_of zs n) u) p b in
    let b2 = subst (λ (y : List ℤ). BlockAt (dc_of h c) (ac_of h c) (prediction h start ys c n) y u) z b1 in
    subst (λ (w : List Bool). BlockAt (dc_of h c) (ac_of h c) (prediction h start ys c n) (block_of ys n) w) e b2

pub all_bits_at : (parts : List (List Bool)) (n : ℕ) (x : List Bool) → n < length parts → all_bits (drop n parts) ++ x ≡ get_or parts n [] ++ (all_bits (drop (suc n) parts) ++ x)
all_bits_at parts n x h = ap (λ (ps : List (List Bool)). all_bits ps ++ x) (drop-cons parts n [] h) ∙ append_assoc (get_or parts n []) (all_bits (drop (suc n) parts)) x

-- two lists of blocks that the same bits begin with have the same blocks up to the end of the shorter
pub same_partial : (h : HeadValue) (start : List ℤ) (zs ys : List (List ℤ)) (u v x y : List Bool) → (b : Blocks h start zs u) → (d : Blocks h start ys v) → u ++ x ≡ v ++ y
    → OneWord → (n : ℕ) → n ≤ length zs → n ≤ length ys
    → SameBelow zs ys n × (all_bits (drop n b.parts) ++ x ≡ all_bits (drop n d.parts) ++ y)
same_partial h start zs ys u v x y b d e one zero hz hy = (λ k lt. absurd (omega arith), ap (λ (w : List Bool). w ++ x) (sym b.spelled) ∙ e ∙ ap (λ (w : List Bool). w ++ y) d.spelled)
same_partial h start zs ys u v x y b d e one (suc n) hz hy =
    let before = same_partial h start zs ys u v x y b d e one n (omega arith) (omega arith) in
    let c = component h n in
    let whole = sym (all_bits_at b.parts n x (omega (arith, b.count))) ∙ before.1 ∙ all_bits_at d.parts n y (omega (arith, d.count)) in
    let p = prediction_same h start zs ys c n before.0 in
    let bz : BlockAt (dc_of h c) (ac_of h c) (prediction h start ys c n) (block_of zs n) (get_or b.parts n []) = subst (λ (q : ℤ). BlockAt (dc_of h c) (ac_of h c) q (block_of zs n) (get_or b.parts n [])) p (b.each n (omega arith)) in
    let s = same_block _ _ (one (dc_of h c)) (one (ac_of h c)) _ _ _ _ _ _ _ bz (d.each n (omega arith)) whole in
    (below_suc n before.0 s.1, append_cancel_left (get_or d.parts n []) _ _ (subst (λ (w : List Bool). w ++ (all_bits (drop (suc n) b.parts) ++ x) ≡ get_or d.parts n [] ++ (all_bits (drop (suc n) d.parts) ++ y)) s.0 whole))
  where
    below_suc : (n : ℕ) → SameBelow zs ys n → block_of zs n ≡ block_of ys n → SameBelow zs ys (suc n)
    below_suc n below here k h = elim (cases_lt k n) [ inl l ↦ below k l | inr g ↦ let e : k ≡ n = omega arith in rw e here ]

pub same_list : (zs ys : List (List ℤ)) → length zs ≡ length ys → SameBelow zs ys (length zs) → zs ≡ ys
same_list [] [] l same = refl
same_list [] (y ∷ ys) l same = absurd (omega arith)
same_list (z ∷ zs) [] l same = absurd (omega arith)
same_list (z ∷ zs) (y ∷ ys) l same =
    let first : z ≡ y = same 0 (omega arith) in
    let rest : zs ≡ ys = same_list zs ys (omega arith) (λ k lt. same (suc k) (omega arith)) in
    cc

pub no_blocks : (h : HeadValue) (start : List ℤ) → Blocks h start [] []
no_blocks h start = record { parts = []; count = refl; spelled = refl; each = λ n lt. absurd (omega arith) }

-- one more block at the end
pub blocks_more : (h : HeadValue) (start : List ℤ) (zs : List (List ℤ)) (z : List ℤ) (u v : List Bool) → (b : Blocks h start zs u) → IsBlock h start (zs ++ z ∷ []) (length zs) v → Blocks h start (zs ++ z ∷ []) (u ++ v)
blocks_more h start zs z u v b here =
    record {
      parts = b.parts ++ v ∷ [];
      count = omega (arith, length-append b.parts (v ∷ []), length-append zs (z ∷ []), b.count);
      spelled = ap (λ (w : List Bool). w ++ v) b.spelled ∙ ap (λ (w : List Bool). all_bits b.parts ++ w) (sym (append-nil v)) ∙ sym (flat_map-append (λ (part : List Bool). part) b.parts (v ∷ []));
      each = λ n lt. elim (cases_lt n (length zs)) [
        | inl l ↦ is_block_same h start zs (zs ++ z ∷ []) n (get_or b.parts n []) (get_or (b.parts ++ v ∷ []) n [])
            (λ k g. sym (get_or_append_left zs (z ∷ []) [] k (omega arith)))
            (sym (get_or_append_left b.parts (v ∷ []) [] n (omega (arith, b.count)))) (b.each n l)
        | inr g ↦
            let e : n ≡ length zs = omega (arith, length-append zs (z ∷ [])) in
            let part : v ≡ get_or (b.parts ++ v ∷ []) n [] = sym (ap (λ (k : ℕ). get_or (b.parts ++ v ∷ []) k []) (e ∙ sym b.count) ∙ get_or-append_seam b.parts v [] []) in
            subst (λ (w : List Bool). IsBlock h start (zs ++ z ∷ []) n w) part (subst (λ (k : ℕ). IsBlock h start (zs ++ z ∷ []) k v) (sym e) here)
      ];
    }

pub reads_none : (h : HeadValue) (start : List ℤ) (all : List Bool) → Reads h start all all []
reads_none h start all = record { taken = []; blocks = no_blocks h start; split = refl }

pub reads_more : (h : HeadValue) (start : List ℤ) (all left new : List Bool) (zs : List (List ℤ)) (z : List ℤ) (n c : ℕ) (p : ℤ) → Reads h start all left zs → n ≡ length zs → c ≡ component h n → p ≡ prediction h start zs c n
    → TakesBlock (dc_of h c) (ac_of h c) p z left new → Reads h start all new (zs ++ z ∷ [])
reads_more h start all left new zs z n c p r e is pred t =
    let same : SameBelow zs (zs ++ z ∷ []) n = λ k g. sym (get_or_append_left zs (z ∷ []) [] k (omega arith)) in
    let q : p ≡ prediction h start (zs ++ z ∷ []) c n = pred ∙ prediction_same h start zs (zs ++ z ∷ []) c n same in
    let at : z ≡ block_of (zs ++ z ∷ []) n = sym (ap (λ (k : ℕ). get_or (zs ++ z ∷ []) k []) e ∙ get_or-append_seam zs z [] []) in
    let b1 = subst (λ (x : ℤ). BlockAt (dc_of h c) (ac_of h c) x z t.bits) q t.is in
    let b2 = subst (λ (y : List ℤ). BlockAt (dc_of h c) (ac_of h c) (prediction h start (zs ++ z ∷ []) c n) y t.bits) at b1 in
    let b3 : IsBlock h start (zs ++ z ∷ []) n t.bits = subst (λ (k : ℕ). BlockAt (dc_of h k) (ac_of h k) (prediction h start (zs ++ z ∷ []) k n) (block_of (zs ++ z ∷ []) n) t.bits) is b2 in
    record {
      taken = r.taken ++ t.bits;
      blocks = blocks_more h start zs z r.taken t.bits r.blocks (subst (λ (k : ℕ). IsBlock h start (zs ++ z ∷ []) k t.bits) e b3);
      split = r.split ∙ ap (λ (w : List Bool). r.taken ++ w) t.split ∙ sym (append_assoc r.taken t.bits new);
    }

blocks_take : (h : HeadValue) (start : List ℤ) (zs : List (List ℤ)) (u : List Bool) (m : ℕ) → (b : Blocks h start zs u) → m ≤ length zs → Blocks h start (take m zs) (all_bits (take m b.parts))
blocks_take h start zs u m b le =
    let lz : length (take m zs) ≡ m = length-take-le m zs le in
    let lp : length (take m b.parts) ≡ m = length-take-le m b.parts (omega (arith, b.count)) in
    record {
      parts = take m b.parts;
      count = lp ∙ sym lz;
      spelled = refl;
      each = λ n g. is_block_same h start zs (take m zs) n (get_or b.parts n []) (get_or (take m b.parts) n [])
          (λ k j. sym (get_or-take m zs k [] (omega (arith, lz)))) (sym (get_or-take m b.parts n [] (omega (arith, lz)))) (b.each n (omega (arith, lz)));
    }

-- if no block follows, no list of blocks that the bits begin with is longer
pub reads_stuck : (h : HeadValue) (start : List ℤ) (all left : List Bool) (zs : List (List ℤ)) → OneWord → Reads h start all left zs → HasNoNext h start zs left
    → (ys : List (List ℤ)) (v y : List Bool) → Blocks h start ys v → all ≡ v ++ y → length zs < length ys → ⊥
reads_stuck h start all left zs one r none ys v y d e past =
    let n = length zs in
    let c = component h n in
    let s = same_partial h start zs ys r.taken v left y r.blocks d (sym r.split ∙ e) one n (omega arith) (omega arith) in
    let all_read : drop n r.blocks.parts ≡ [] = drop_all n r.blocks.parts (omega (arith, r.blocks.count)) in
    let next : left ≡ get_or d.parts n [] ++ (all_bits (drop (suc n) d.parts) ++ y)
    = ap (λ (ps : List (List Bool)). all_bits ps ++ left) (sym all_read) ∙ s.1 ∙ all_bits_at d.parts n y (omega (arith, d.count)) in
    let q : prediction h start ys c n ≡ prediction h start zs c n = sym (prediction_same h start zs ys c n s.0) in
    let b = subst (λ (x : ℤ). BlockAt (dc_of h c) (ac_of h c) x (block_of ys n) (get_or d.parts n [])) q (d.each n past) in
    none (block_of ys n) (get_or d.parts n []) (all_bits (drop (suc n) d.parts) ++ y) b next

-- a list of the same number of blocks as those that were read equals them, and what is left is what follows them
pub reads_all : (h : HeadValue) (start : List ℤ) (all left : List Bool) (zs : List (List ℤ)) → OneWord → Reads h start all left zs
    → (ys : List (List ℤ)) (v y : List Bool) → Blocks h start ys v → all ≡ v ++ y → length zs ≡ length ys → (zs ≡ ys) × (left ≡ y)
reads_all h start all left zs one r ys v y d e l =
    let s = same_partial h start zs ys r.taken v left y r.blocks d (sym r.split ∙ e) one (length zs) (omega arith) (omega arith) in
    let none : drop (length zs) r.blocks.parts ≡ [] = drop_all (length zs) r.blocks.parts (omega (arith, r.blocks.count)) in
    let none' : drop (length zs) d.parts ≡ [] = drop_all (length zs) d.parts (omega (arith, d.count)) in (
      same_list zs ys l s.0,
      ap (λ (ps : List (List Bool)). all_bits ps ++ left) (sym none) ∙ s.1 ∙ ap (λ (ps : List (List Bool)). all_bits ps ++ y) none',
    )

-- the bits begin with at most one list of that number of blocks
pub one_blocks : (h : HeadValue) (start : List ℤ) → OneWord → (zs ys : List (List ℤ)) (u v x y : List Bool) → Blocks h start zs u → Blocks h start ys v → u ++ x ≡ v ++ y → length zs ≡ length ys → (zs ≡ ys) × (x ≡ y)
one_blocks h start one zs ys u v x y b d e l = reads_all h start (u ++ x) x zs one (record { taken = u; blocks = b; split = refl }) ys v y d e l

-- a list of blocks begins with a shorter one
pub blocks_front : (h : HeadValue) (start : List ℤ) (zs : List (List ℤ)) (all u x : List Bool) (m : ℕ) → (b : Blocks h start zs u) → all ≡ u ++ x → m ≤ length zs → (v y : List Bool) × Blocks h start (take m zs) v × (all ≡ v ++ y)
blocks_front h start zs all u x m b e space = (
  all_bits (take m b.parts),
  all_bits (drop m b.parts) ++ x,
  blocks_take h start zs u m b space,
  e ∙ ap (λ (w : List Bool). w ++ x) (b.spelled ∙ ap all_bits (sym (take-append-drop m b.parts)) ∙ flat_map-append (λ (part : List Bool). part) (take m b.parts) (drop m b.parts)) ∙ append_assoc (all_bits (take m b.parts)) (all_bits (drop m b.parts)) x,
)

-- the first blocks of a list, by themselves
pub blocks_before : (h : HeadValue) (start : List ℤ) (zs ys : List (List ℤ)) (w : List Bool) → (b : Blocks h start (zs ++ ys) w) → Blocks h start zs (all_bits (take (length zs) b.parts))
blocks_before h start zs ys w b =
    let t = blocks_take h start (zs ++ ys) w (length zs) b (omega (arith, length-append zs ys)) in
    subst (λ (x : List (List ℤ)). Blocks h start x (all_bits (take (length zs) b.parts))) (take-append_seam zs ys) t
