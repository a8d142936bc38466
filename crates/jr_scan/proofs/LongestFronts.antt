-- Each interval has a longest prefix, and a decoding or none: its blocks are read one after the other, as far as possible.
use Rattle.std.proofs.Common.{◌≡◌, ℕ, zero, suc, ◌*◌, ◌/◌, ◌<◌, ◌≤◌, Bool, List, [], ◌∷◌, ◌++◌, length, take, refl, ap, inl, inr, length-append, arith}
use Rattle.std.specs.Prelude.{◌⊎◌, ℤ}
use Rattle.std.proofs.lemmas.Bool.{cases_lt}
use Rattle.std.proofs.lemmas.List.{length-take-le}
use Rattle.std.proofs.Math.Nat.{div-mul-le_self, le-div_iff_mul-le, le_of_mul-le-mul_right, mul-le-mul_right}
use Rattle.jr_code.specs.Bits.{bits}
use Rattle.jr_head.specs.HeadValue.{HeadValue}
use Rattle.jr_head.specs.Geometry.{order_of, dc_of, ac_of}
use Rattle.jr_scan.specs.IntervalValue.{IntervalValue}
use Rattle.jr_mcu.specs.Mcus.{component, prediction, no_predictions}
use Rattle.jr_scan.specs.Mcus.{Decodes, HasNoDecoding, Front, LongestFront}
use Rattle.jr_mcu.proofs.Words.{OneWord}
use Rattle.jr_mcu.proofs.FirstBlocks.{first_block}
use Rattle.jr_mcu.proofs.McuLaws.{Reads, HasNoNext, reads_none, reads_more, reads_stuck, reads_all, blocks_front, no_blocks}

-- the blocks at the start of the bits, at most `most`: there are `most`, or no further one follows
record BlocksInFront (h : HeadValue) (start : List ℤ) (all : List Bool) (most : ℕ) : Type 0 where
  pub blocks : List (List ℤ)
  pub left : List Bool
  pub reads : Reads h start all left blocks
  pub ends : (length blocks ≡ most) ⊎ ((length blocks < most) × HasNoNext h start blocks left)

first_blocks : OneWord → (h : HeadValue) (start : List ℤ) (all : List Bool) (most : ℕ) → BlocksInFront h start all most
first_blocks one h start all zero = record { blocks = []; left = all; reads = reads_none h start all; ends = inl refl }
first_blocks one h start all (suc m) = and_next (first_blocks one h start all m)
  where
    one_more : (f : BlocksInFront h start all m) → length f.blocks ≡ m → BlocksInFront h start all (suc m)
    one_more f e =
        let n = length f.blocks in
        let c = component h (length f.blocks) in
        elim (first_block (dc_of h c) (ac_of h c) (one (dc_of h c)) (one (ac_of h c)) (prediction h start f.blocks c n) f.left) [
          | inl b ↦ record {
            blocks = f.blocks ++ b.block ∷ [];
            left = b.left;
            reads = reads_more h start all f.left b.left f.blocks b.block n c (prediction h start f.blocks c n) f.reads refl refl refl b.takes;
            ends = inl (omega (arith, e, length-append f.blocks (b.block ∷ [])));
          }
          | inr none ↦ record { blocks = f.blocks; left = f.left; reads = f.reads; ends = inr (omega (arith, e), none) }
        ]

    and_next : BlocksInFront h start all m → BlocksInFront h start all (suc m)
    and_next f = elim f.ends [
      | inl e ↦ one_more f e
      | inr stuck ↦ record { blocks = f.blocks; left = f.left; reads = f.reads; ends = inr (omega (arith, stuck.0), stuck.1) }
    ]

abbrev BlocksOf : IntervalValue → Type 0
BlocksOf i = BlocksInFront i.head no_predictions (bits i.bytes) (i.mcus * length (order_of i.head))

blocks_of : OneWord → (i : IntervalValue) → BlocksOf i
blocks_of one i = first_blocks one i.head no_predictions (bits i.bytes) (i.mcus * length (order_of i.head))

-- no prefix has more blocks
no_longer : OneWord → (i : IntervalValue) (f : BlocksOf i) (j : ℕ) (ys : List (List ℤ)) → Front i j ys → length ys ≤ length f.blocks
no_longer one i f j ys front = elim (cases_lt (length f.blocks) (length ys)) [
  | inr fits ↦ fits
  | inl past ↦ elim f.ends [
    | inl all ↦
        let most : j * length (order_of i.head) ≤ i.mcus * length (order_of i.head) = mul-le-mul_right (length (order_of i.head)) front.at_most in
        absurd (omega (arith, all, most, past, front.mcus.0))
    | inr stuck ↦ absurd (reads_stuck i.head no_predictions (bits i.bytes) f.left f.blocks one f.reads stuck.1 ys front.taken front.rest front.mcus.1 front.spelled past)
  ]
]

-- the whole MCUs of those blocks are the longest prefix
whole_mcus : OneWord → (i : IntervalValue) → 0 < length (order_of i.head) → (f : BlocksOf i) → (k : ℕ) × (zs : List (List ℤ)) × LongestFront i k zs
whole_mcus one i some f =
    let per = length (order_of i.head) in
    let k = length f.blocks / length (order_of i.head) in
    let space : length f.blocks / length (order_of i.head) * length (order_of i.head) ≤ length f.blocks = div-mul-le_self (length f.blocks) (length (order_of i.head)) in
    let few : length f.blocks ≤ i.mcus * length (order_of i.head) = elim f.ends [ inl all ↦ omega (arith, all) | inr stuck ↦ omega (arith, stuck.0) ] in
    let most : length f.blocks / length (order_of i.head) * length (order_of i.head) ≤ i.mcus * length (order_of i.head) = omega (arith, space, few) in
    let b = blocks_front i.head no_predictions f.blocks (bits i.bytes) f.reads.taken f.left (k * per) f.reads.blocks f.reads.split space in (
      k,
      take (k * per) f.blocks,
      record {
        front = record {
          at_most = le_of_mul-le-mul_right most some;
          taken = b.0;
          rest = b.1;
          mcus = (length-take-le (k * per) f.blocks space, b.2);
          spelled = b.3;
        };
        longest = λ j ys front.
            let fits : j * length (order_of i.head) ≤ length f.blocks = omega (arith, no_longer one i f j ys front, front.mcus.0) in
            (le-div_iff_mul-le some).1 fits;
      },
    )

-- without data units, all MCUs are the longest prefix
empty_mcus : (i : IntervalValue) → length (order_of i.head) ≡ 0 → LongestFront i i.mcus []
empty_mcus i none = record {
  front = record {
    at_most = omega arith;
    taken = [];
    rest = bits i.bytes;
    mcus = (omega (arith, ap (λ n. i.mcus * n) none), no_blocks i.head no_predictions);
    spelled = refl;
  };
  longest = λ j ys front. front.at_most;
}

pub longest_front : OneWord → (i : IntervalValue) → (k : ℕ) × (zs : List (List ℤ)) × LongestFront i k zs
longest_front one i = elim (cases_lt 0 (length (order_of i.head))) [
  | inl some ↦ whole_mcus one i some (blocks_of one i)
  | inr none ↦ (i.mcus, [], empty_mcus i (omega (arith, none)))
]

-- if all blocks are there, with fewer than eight bits after them, they are a decoding; otherwise there is none
decoding_of : OneWord → (i : IntervalValue) → BlocksOf i → ((zs : List (List ℤ)) × Decodes i zs) ⊎ HasNoDecoding i
decoding_of one i f = elim f.ends [
  | inl all ↦ elim (cases_lt (length f.left) 8) [
    | inl short ↦ inl (f.blocks, record { taken = f.reads.taken; padding = f.left; mcus = (all, f.reads.blocks); short = short; spelled = f.reads.split })
    | inr long ↦ inr (λ ys d.
        let same = reads_all i.head no_predictions (bits i.bytes) f.left f.blocks one f.reads ys d.taken d.padding d.mcus.1 d.spelled (omega (arith, all, d.mcus.0)) in
        omega (arith, long, d.short, ap length same.1))
  ]
  | inr stuck ↦ inr (λ ys d. reads_stuck i.head no_predictions (bits i.bytes) f.left f.blocks one f.reads stuck.1 ys d.taken d.padding d.mcus.1 d.spelled (omega (arith, stuck.0, d.mcus.0)))
]

pub decoding_or_none : OneWord → (i : IntervalValue) → ((zs : List (List ℤ)) × Decodes i zs) ⊎ HasNoDecoding i
decoding_or_none one i = decoding_of one i (blocks_of one i)

-- a decoding is the longest prefix
pub whole_longest : (i : IntervalValue) (zs : List (List ℤ)) → Decodes i zs → LongestFront i i.mcus zs
whole_longest i zs d = record {
  front = record { at_most = omega arith; taken = d.taken; rest = d.padding; mcus = d.mcus; spelled = d.spelled };
  longest = λ j ys f. f.at_most;
}
