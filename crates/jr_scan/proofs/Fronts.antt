-- At most one decoding and one prefix of k MCUs, and what a reader reports about an interval.
use Rattle.std.proofs.Common.{◌≡◌, ℕ, ◌*◌, ◌≤◌, Bool, true, false, IsTrue, List, [], length, take, refl, sym, ◌∙◌, arith}
use Rattle.std.specs.Prelude.{ℤ}
use Rattle.std.proofs.Math.Nat.{mul-le-mul_right}
use Rattle.std.proofs.lemmas.List.{length-take-le}
use Rattle.jr_code.specs.Bits.{bits}
use Rattle.jr_code.proofs.CodeLemmas.{one_word}
use Rattle.jr_head.specs.Geometry.{order_of}
use Rattle.jr_mcu.specs.Mcus.{no_predictions}
use Rattle.jr_mcu.proofs.Words.{OneWord}
use Rattle.jr_mcu.proofs.McuLaws.{one_blocks, blocks_front, no_blocks}
use Rattle.jr_scan.specs.IntervalValue.{IntervalValue}
use Rattle.jr_scan.specs.Mcus.{Decodes, HasNoDecoding, Front}

pub one_decoding : OneWord → (i : IntervalValue) (zs ys : List (List ℤ)) → Decodes i zs → Decodes i ys → zs ≡ ys
one_decoding one i zs ys a b = (one_blocks i.head no_predictions one zs ys a.taken b.taken a.padding b.padding a.mcus.1 b.mcus.1 (sym a.spelled ∙ b.spelled) (a.mcus.0 ∙ sym b.mcus.0)).0

pub one_front : OneWord → (i : IntervalValue) (k : ℕ) (zs ys : List (List ℤ)) → Front i k zs → Front i k ys → zs ≡ ys
one_front one i k zs ys a b = (one_blocks i.head no_predictions one zs ys a.taken b.taken a.rest b.rest a.mcus.1 b.mcus.1 (sym a.spelled ∙ b.spelled) (a.mcus.0 ∙ sym b.mcus.0)).0

pub front_less : (i : IntervalValue) (j k : ℕ) (zs : List (List ℤ)) → j ≤ k → Front i k zs → Front i j (take (j * length (order_of i.head)) zs)
front_less i j k zs le f =
    let m = j * length (order_of i.head) in
    let most : m ≤ k * length (order_of i.head) = mul-le-mul_right (length (order_of i.head)) le in
    let space : m ≤ length zs = omega (arith, f.mcus.0) in
    let b = blocks_front i.head no_predictions zs (bits i.bytes) f.taken f.rest m f.mcus.1 f.spelled space in
    record { at_most = omega (arith, f.at_most); taken = b.0; rest = b.1; mcus = (length-take-le m zs space, b.2); spelled = b.3 }

-- the empty list of blocks is a prefix
pub front_none : (i : IntervalValue) → Front i 0 []
front_none i = record { at_most = omega arith; taken = []; rest = bits i.bytes; mcus = (omega arith, no_blocks i.head no_predictions); spelled = refl }

-- if the interval has a decoding, the reader reports it
pub stated : (i : IntervalValue) (ys : List (List ℤ)) (b : Bool) → (b ≡ false → HasNoDecoding i) → Decodes i ys → IsTrue b
stated i ys b damaged d = go b damaged
  where
    go : (b : Bool) → (b ≡ false → HasNoDecoding i) → IsTrue b
    go true h = refl
    go false h = absurd (h refl ys d)

-- and it is the one that was read
pub stated_only : (i : IntervalValue) (zs ys : List (List ℤ)) (b : Bool) → (IsTrue b → Decodes i zs) → (b ≡ false → HasNoDecoding i) → Decodes i ys → ys ≡ zs
stated_only i zs ys b sound damaged d = one_decoding one_word i ys zs d (sound (stated i ys b damaged d))
