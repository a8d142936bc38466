-- The contents of a speculative read, as it grows, and as it is taken over.
use Rattle.std.proofs.Common.{◌≡◌, ℕ, zero, suc, ◌+◌, ◌-◌, ◌*◌, ◌<◌, ◌≤◌, Bool, true, false, cond, eqb, List, [], ◌∷◌, ◌++◌, length, get_or, set, take, drop, refl, sym, ap, subst, ◌∙◌, inl, inr, length-append, length-drop, arith}
use Rattle.std.specs.Prelude.{ℤ, pos, ◌+ℤ◌}
use Rattle.std.specs.List.{All}
use Rattle.std.proofs.lemmas.Bool.{cases_lt}
use Rattle.std.proofs.lemmas.Int.{ints}
use Rattle.std.proofs.lemmas.List.{get_or_append_left, drop-take, take-take, length-take-le}
use Rattle.std.proofs.Math.Nat.{mul-le-mul_right}
use Rattle.std.proofs.Math.Seq.{drop-append_seam, get_or-append_seam}
use Rattle.jr_code.specs.Bits.{bits}
use Rattle.jr_head.specs.Geometry.{order_of, IsValid}
use Rattle.jr_scan.specs.declared.speculated.Speculated.{Speculated}
use Rattle.jr_scan.specs.declared.place.Place.{Place}
use Rattle.jr_scan.specs.declared.place.RunEnd.TheVariants.{AllRead}
use Rattle.jr_scan.specs.IntervalValue.{IntervalValue}
use Rattle.jr_head.specs.HeadValue.{HeadValue}
use Rattle.jr_mcu.specs.Block.{IsInDcRange}
use Rattle.jr_mcu.specs.Mcus.{component, block_of, prediction, no_predictions, predicted, TakesMcu}
use Rattle.jr_scan.specs.Run.{left_at, run_from, IsRun, place_with}
use Rattle.jr_mcu.proofs.McuRange.{firsts_in_mcu_range, predicted_in_mcu_range}
use Rattle.jr_mcu.specs.Shift.{of_component, AreGreater, IsShifted, AreShifted, HaveFirstInRange, IsInMcuRange, IsSmall}
use Rattle.jr_scan.specs.Speculation.{unpredicted, IsSpeculated, SpeculationValue, KeepsBlocks, blocks_at, IsMcuOf, IsSpeculationOf, TakesNext, AreLastBits}
use Rattle.jr_scan.proofs.InRange.{run_in_range}
use Rattle.jr_scan.proofs.Runs.{component_low, three_places}
use Rattle.jr_scan.proofs.Shifts.{predicted_shifted, run_shifted}
use Rattle.jr_scan.proofs.McuReaders.{left_after, left_is, one_mcu}

abbrev pub speculation_of : ℕ → List Speculated → List (List ℤ) → SpeculationValue
speculation_of n mcus blocks = record { number = n; mcus = mcus; blocks = blocks }

abbrev pub with_blocks : SpeculationValue → List (List ℤ) → SpeculationValue
with_blocks g blocks = record { number = g.number; mcus = g.mcus; blocks = blocks }

-- without an MCU it is a speculative read of any interval of its number
pub none_yet : (i : IntervalValue) (n : ℕ) (blocks : List (List ℤ)) → n ≡ i.number → IsSpeculationOf i (speculation_of n [] blocks)
none_yet i n blocks is = record { number = is; space = λ keeps. omega arith; each = λ k d lt. absurd (omega (arith, lt)) }

-- the blocks of an MCU are the same if those up to its end are
same_at : (k m per : ℕ) (xs ys : List (List ℤ)) → k < m → take (m * per) ys ≡ take (m * per) xs → take per (drop (k * per) ys) ≡ take per (drop (k * per) xs)
same_at k m per xs ys lt same =
    let le : suc k * per ≤ m * per = mul-le-mul_right {m = suc k} {n = m} per (omega (arith, lt)) in
    let next : suc k * per ≡ k * per + per = omega arith in
    let within : k * per + per ≤ m * per = omega (arith, le, next) in
    let e : take (k * per + per) ys ≡ take (k * per + per) xs = sym (take-take (k * per + per) (m * per) ys within) ∙ ap (take (k * per + per)) same ∙ take-take (k * per + per) (m * per) xs within in
    sym (drop-take (k * per) per ys) ∙ ap (drop (k * per)) e ∙ drop-take (k * per) per xs

-- blocks that are written after the MCUs change none of these
pub kept_before : (i : IntervalValue) (g : SpeculationValue) (new : List (List ℤ)) (m per : ℕ) → IsSpeculationOf i g → m ≡ length g.mcus → per ≡ length (order_of i.head) → length new ≡ length g.blocks → take (m * per) new ≡ take (m * per) g.blocks
    → IsSpeculationOf i (with_blocks g new)
kept_before i g new m per is count size long same = record {
  number = is.number;
  space = λ keeps. omega (arith, is.space (omega (arith, keeps, long)), long);
  each = λ k d lt.
      let e = is.each k d lt in
      record {
        zs = e.zs;
        is = e.is;
        kept = λ keeps.
            let at : take per (drop (k * per) new) ≡ take per (drop (k * per) g.blocks) = same_at k m per g.blocks new (omega (arith, lt, count)) same in
            subst (λ (n : ℕ). take n (drop (k * n) new) ≡ take n (drop (k * n) g.blocks)) size at ∙ e.kept (omega (arith, keeps, long));
      };
}

-- the blocks of an MCU that was appended
pub kept_here : (m per : ℕ) (xs ys zs : List (List ℤ)) → m * per ≤ length xs → length zs ≡ per → take (m * per + per) ys ≡ take (m * per) xs ++ zs → take per (drop (m * per) ys) ≡ zs
kept_here m per xs ys zs space long is =
    let first : length (take (m * per) xs) ≡ m * per = length-take-le (m * per) xs space in
    sym (drop-take (m * per) per ys) ∙ ap (drop (m * per)) is ∙ ap (λ (n : ℕ). drop n (take (m * per) xs ++ zs)) (sym first) ∙ drop-append_seam (take (m * per) xs) zs

-- one more MCU is appended
pub kept_more : (i : IntervalValue) (g : SpeculationValue) (mcu : Speculated) (ps : List ℤ) (old new : List Bool) → IsSpeculationOf i g → (t : TakesNext i g ps old new) → IsSpeculated i mcu t.zs → IsSpeculationOf i (speculation_of g.number (g.mcus ++ mcu ∷ []) g.blocks)
kept_more i g mcu ps old new is t next =
    let m = length g.mcus in
    let more : length (g.mcus ++ mcu ∷ []) ≡ m + 1 = length-append g.mcus (mcu ∷ []) in
    record {
      number = is.number;
      space = λ keeps. subst (λ (n : ℕ). n * length (order_of i.head) ≤ length g.blocks) (sym more) (t.space keeps);
      each = λ k d lt. elim (cases_lt k m) [
        | inl l ↦
            let e : get_or g.mcus k d ≡ get_or (g.mcus ++ mcu ∷ []) k d = sym (get_or_append_left g.mcus (mcu ∷ []) d k l) in
            let was = is.each k d l in
            record { zs = was.zs; is = subst (λ (x : Speculated). IsSpeculated i x was.zs) e was.is; kept = was.kept }
        | inr r ↦
            let at : m ≡ k = omega (arith, lt, more, r) in
            let e : mcu ≡ get_or (g.mcus ++ mcu ∷ []) m d = sym (get_or-append_seam g.mcus mcu [] d) in
            record {
              zs = t.zs;
              is = subst (λ (n : ℕ). IsSpeculated i (get_or (g.mcus ++ mcu ∷ []) n d) t.zs) at (subst (λ (x : Speculated). IsSpeculated i x t.zs) e next);
              kept = λ keeps. subst (λ (n : ℕ). blocks_at i g n ≡ t.zs) at (t.kept keeps);
            }
      ];
    }

-- the number of the last bits is at most that of all
pub last_few : (i : IntervalValue) (left : List Bool) → AreLastBits i left → length left ≤ 8 * length i.bytes
last_few i left is = omega (arith, ap length is, left_is i (unpredicted (8 * length i.bytes - length left)))

taken_last : (i : IntervalValue) (zs : List (List ℤ)) (old new : List Bool) → AreLastBits i old → TakesMcu i.head no_predictions zs old new → TakesMcu i.head no_predictions zs (left_at i (unpredicted (8 * length i.bytes - length old))) new
taken_last i zs old new is t = subst (λ (b : List Bool). TakesMcu i.head no_predictions zs b new) is t

pub last_after : (i : IntervalValue) (zs : List (List ℤ)) (old new : List Bool) → AreLastBits i old → TakesMcu i.head no_predictions zs old new → AreLastBits i new
last_after i zs old new is t = left_after i (unpredicted (8 * length i.bytes - length old)) (8 * length i.bytes - length new) zs new (omega arith) (taken_last i zs old new is t) refl

-- an MCU that is read is one of a speculative read
pub speculated : (i : IntervalValue) (mcu : Speculated) (zs : List (List ℤ)) (old new : List Bool) → AreLastBits i old → mcu.from ≡ 8 * length i.bytes - length old → mcu.to.bit ≡ 8 * length i.bytes - length new
    → length (order_of i.head) ≤ 10 → TakesMcu i.head no_predictions zs old new → mcu.to.predictions ≡ predicted i.head no_predictions zs → IsSpeculated i mcu zs
speculated i mcu zs old new is from to few t last = record {
  within = omega (arith, to);
  run = subst (λ (n : ℕ). IsRun (run_from i (unpredicted n) 1) zs mcu.to AllRead) (sym from) (one_mcu i (unpredicted (8 * length i.bytes - length old)) mcu.to zs new (omega arith) (taken_last i zs old new is t) to last);
  firsts = firsts_in_mcu_range i.head zs t.taken few t.mcu;
}

-- the bits starting at a given bit
pub last_from : (i : IntervalValue) (from : ℕ) (left : List Bool) → from ≤ 8 * length i.bytes → left ≡ drop from (bits i.bytes) → AreLastBits i left
last_from i from left within is =
    let e : from ≡ 8 * length i.bytes - length left = omega (arith, ap length is, left_is i (unpredicted from), within) in
    is ∙ ap (λ (k : ℕ). drop k (bits i.bytes)) e

pub either : (P : List Speculated → Type 0) (b : Bool) (xs ys : List Speculated) → P xs → P ys → P (cond b xs ys)
either P true xs ys p q = p
either P false xs ys p q = q

pub after_in_range : (i : IntervalValue) (mcu : Speculated) (zs : List (List ℤ)) → IsSpeculated i mcu zs → All IsInMcuRange mcu.to.predictions
after_in_range i mcu zs is = subst (All IsInMcuRange) (sym is.run.predictions) (predicted_in_mcu_range i.head zs is.firsts)

-- the predictions are greater than zeros by themselves
from_none : (q : List ℤ) → AreGreater q no_predictions q
from_none q zero lt = omega (arith, ints)
from_none q (suc zero) lt = omega (arith, ints)
from_none q (suc (suc zero)) lt = omega (arith, ints)
from_none q (suc (suc (suc c))) lt = absurd (omega arith)

small_shifted : (d : ℤ) (z y : List ℤ) → IsSmall d → IsInMcuRange (get_or z 0 (pos 0)) → IsShifted d z y → IsInDcRange (get_or y 0 (pos 0))
small_shifted d z y small first s =
    let is : get_or y 0 (pos 0) ≡ s.first +ℤ d = ap (λ (x : List ℤ). get_or x 0 (pos 0)) s.is in
    let was : get_or z 0 (pos 0) ≡ s.first = ap (λ (x : List ℤ). get_or x 0 (pos 0)) s.was in
    (omega (arith, ints, is, was, small, first), omega (arith, ints, is, was, small, first))

at_component : (q : List ℤ) (c : ℕ) → length q ≡ 3 → All IsSmall q → c < 3 → IsSmall (of_component q c)
at_component q c three small lt = small c (pos 0) (omega (arith, lt, three))

same_three : (a b : List ℤ) → length a ≡ 3 → length b ≡ 3 → ((c : ℕ) → c < 3 → of_component a c ≡ of_component b c) → a ≡ b
same_three a b p q same =
    three_places a p
    ∙ ap (λ (x : ℤ). x ∷ get_or a 1 (pos 0) ∷ get_or a 2 (pos 0) ∷ []) (same 0 (omega arith))
    ∙ ap (λ (x : ℤ). get_or b 0 (pos 0) ∷ x ∷ get_or a 2 (pos 0) ∷ []) (same 1 (omega arith))
    ∙ ap (λ (x : ℤ). get_or b 0 (pos 0) ∷ get_or b 1 (pos 0) ∷ x ∷ []) (same 2 (omega arith))
    ∙ sym (three_places b q)

-- a reader at the bit where an MCU of a speculative read starts takes it over
pub taken_over : (i : IntervalValue) (mcu : Speculated) (p to : Place) (zs ys : List (List ℤ)) → IsValid i.head → IsSpeculated i mcu zs → mcu.from ≡ p.bit → length p.predictions ≡ 3 → All IsSmall p.predictions
    → to.bit ≡ mcu.to.bit → length to.predictions ≡ 3 → AreGreater p.predictions mcu.to.predictions to.predictions → AreShifted i.head p.predictions zs ys
    → IsRun (run_from i p 1) ys to AllRead
taken_over i mcu p to zs ys valid is from three small bit three' sums s =
    let q = p.predictions in
    let low = component_low i.head valid in
    let range : HaveFirstInRange ys = λ n lt. small_shifted (of_component q (component i.head n)) (block_of zs n) (block_of ys n) (at_component q (component i.head n) three small (low n)) (is.firsts n (omega (arith, lt, s.count))) (s.each n (omega (arith, lt, s.count))) in
    let run = run_shifted i (unpredicted mcu.from) mcu.to 1 q q zs ys low (from_none q) s range is.run in
    let after : AreGreater q (predicted i.head no_predictions zs) (predicted i.head q ys) = predicted_shifted i.head q no_predictions q zs ys (from_none q) s in
    let last : predicted i.head q ys ≡ to.predictions = same_three (predicted i.head q ys) to.predictions refl three' (λ c lt. after c lt ∙ ap (λ (ps : List ℤ). of_component ps c +ℤ of_component q c) (sym is.run.predictions) ∙ sym (sums c lt)) in
    let run1 = subst (λ (n : ℕ). IsRun (run_from i (record { bit = n; predictions = q }) 1) ys (place_with mcu.to (predicted i.head q ys)) AllRead) from run in
    let run2 = subst (λ (n : ℕ). IsRun (run_from i p 1) ys (record { bit = n; predictions = predicted i.head q ys }) AllRead) (sym bit) run1 in
    subst (λ (ps : List ℤ). IsRun (run_from i p 1) ys (record { bit = to.bit; predictions = ps }) AllRead) last run2

-- the blocks reach to the end of MCU k
pub mcu_within : (i : IntervalValue) (g : SpeculationValue) (k per : ℕ) → KeepsBlocks g → IsSpeculationOf i g → k < length g.mcus → per ≡ length (order_of i.head) → k * per + per ≤ length g.blocks
mcu_within i g k per keeps is lt size =
    let le : suc k * per ≤ length g.mcus * per = mul-le-mul_right {m = suc k} {n = length g.mcus} per (omega (arith, lt)) in
    let next : suc k * per ≡ k * per + per = omega arith in
    let all : length g.mcus * per ≡ length g.mcus * length (order_of i.head) = ap (λ (n : ℕ). length g.mcus * n) size in
    omega (arith, le, next, all, is.space keeps)

-- the blocks of MCU k, as a borrowed slice
pub lent : (i : IntervalValue) (g : SpeculationValue) (xs : List (List ℤ)) (k per : ℕ) → per ≡ length (order_of i.head) → xs ≡ g.blocks → take (k * per + per - k * per) (drop (k * per) xs) ≡ blocks_at i g k
lent i g xs k per size same =
    let n : k * per + per - k * per ≡ per = omega arith in
    ap (λ (j : ℕ). take j (drop (k * per) xs)) n ∙ ap (λ (j : ℕ). take j (drop (k * j) xs)) size ∙ ap (λ (bs : List (List ℤ)). take (length (order_of i.head)) (drop (k * length (order_of i.head)) bs)) same

any_mcu : Speculated
any_mcu = record { from = 0; to = record { bit = 0; predictions = [] } }

pub some_speculated : (i : IntervalValue) (g : SpeculationValue) (k : ℕ) → KeepsBlocks g → IsSpeculationOf i g → k < length g.mcus → (mcu : Speculated) × IsSpeculated i mcu (blocks_at i g k)
some_speculated i g k keeps is lt = let e = is.each k any_mcu lt in (get_or g.mcus k any_mcu, subst (IsSpeculated i (get_or g.mcus k any_mcu)) (sym (e.kept keeps)) e.is)

-- a block has a DC coefficient
pub some_first : (i : IntervalValue) (mcu : Speculated) (zs : List (List ℤ)) → IsSpeculated i mcu zs → (n : ℕ) → n < length zs → 0 < length (get_or zs n [])
some_first i mcu zs is n lt = omega (arith, (run_in_range _ _ _ _ is.run n [] lt).count)

-- shifted blocks
shifted_from : (h : HeadValue) (by : List ℤ) (n : ℕ) (zs : List (List ℤ)) → List (List ℤ)
shifted_from h by n [] = []
shifted_from h by n (z ∷ zs) = set z 0 (get_or z 0 (pos 0) +ℤ of_component by (component h n)) ∷ shifted_from h by (suc n) zs

shifted_long : (h : HeadValue) (by : List ℤ) (n : ℕ) (zs : List (List ℤ)) → length (shifted_from h by n zs) ≡ length zs
unfolding shifted_from
shifted_long h by n [] = refl
shifted_long h by n (z ∷ zs) = ap suc (shifted_long h by (suc n) zs)

shifted_one : (d : ℤ) (z : List ℤ) → 0 < length z → IsShifted d z (set z 0 (get_or z 0 (pos 0) +ℤ d))
shifted_one d [] some = absurd (omega arith)
shifted_one d (x ∷ xs) some = record { first = x; others = xs; was = refl; is = refl }

shifted_each : (h : HeadValue) (by : List ℤ) (m : ℕ) (zs : List (List ℤ)) → ((n : ℕ) → n < length zs → 0 < length (get_or zs n [])) → (n : ℕ) → n < length zs
    → IsShifted (of_component by (component h (m + n))) (block_of zs n) (block_of (shifted_from h by m zs) n)
unfolding shifted_from
shifted_each h by m [] some n lt = absurd (omega arith)
shifted_each h by m (z ∷ zs) some zero lt =
    let e : m ≡ m + 0 = omega arith in
    subst (λ (k : ℕ). IsShifted (of_component by (component h k)) z (set z 0 (get_or z 0 (pos 0) +ℤ of_component by (component h m)))) e (shifted_one (of_component by (component h m)) z (some 0 (omega arith)))
shifted_each h by m (z ∷ zs) some (suc n) lt =
    let e : suc m + n ≡ m + suc n = omega arith in
    subst (λ (k : ℕ). IsShifted (of_component by (component h k)) (block_of zs n) (block_of (shifted_from h by (suc m) zs) n)) e (shifted_each h by (suc m) zs (λ k l. some (suc k) (omega arith)) n (omega arith))

pub shifted_are : (h : HeadValue) (by : List ℤ) (zs : List (List ℤ)) → ((n : ℕ) → n < length zs → 0 < length (get_or zs n [])) → (ys : List (List ℤ)) × AreShifted h by zs ys
shifted_are h by zs some =
    let ys = shifted_from h by 0 zs in (
      ys,
      record {
        count = shifted_long h by 0 zs;
        each = λ n lt. let e : 0 + n ≡ n = omega arith in subst (λ (k : ℕ). IsShifted (of_component by (component h k)) (block_of zs n) (block_of ys n)) e (shifted_each h by 0 zs some n lt);
      },
    )
