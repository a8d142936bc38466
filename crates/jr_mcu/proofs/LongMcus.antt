-- The number of bits of MCUs: each data unit has two or more.
use Rattle.std.proofs.Common.{◌≡◌, ℕ, zero, suc, ◌+◌, ◌*◌, ◌<◌, ◌≤◌, Bool, List, [], ◌∷◌, ◌++◌, length, Some, None, slice_get, ap, inl, inr, length-append, arith}
use Rattle.std.specs.Prelude.{ℤ, slice_index_or}
use Rattle.std.specs.List.{flat_map, AllByRecursion}
use Rattle.jr_code.specs.Code.{Table, IsWord, lengths_from}
use Rattle.jr_head.specs.HeadValue.{HeadValue}
use Rattle.jr_head.specs.Geometry.{order_of}
use Rattle.jr_mcu.specs.Block.{AcCode, ZeroRun, RunAndSize, IsAcCode, code_bits, entries, IsEnd, DifferenceAt, BlockAt}
use Rattle.jr_mcu.specs.Mcus.{all_bits, Mcus}

-- no code is shorter than the first length
word_long : (l : ℕ) (cs : List ℕ) (i n : ℕ) → slice_get (lengths_from l cs) i ≡ Some n → l ≤ n
word_long l [] i n e = absurd (let f : None ≡ Some n = e in cc)
word_long l (zero ∷ cs) i n e = omega (arith, word_long (l + 1) cs i n e)
word_long l (suc c ∷ cs) zero n e = let f : Some l ≡ Some n = e in let g : l ≡ n = cc in omega (arith, g)
word_long l (suc c ∷ cs) (suc i) n e = word_long l (c ∷ cs) i n e

word_some : (t : Table) (w : List Bool) (s : ℕ) → IsWord t w s → 1 ≤ length w
word_some t w s is = word_long 1 t.counts is.place (length w) is.long

code_some : (ac : Table) (i : AcCode) → IsAcCode ac i → 1 ≤ length (code_bits i)
code_some ac (ZeroRun w) h = word_some ac w 240 h
code_some ac (RunAndSize r s w x) h = omega (arith, word_some ac w (16 * r + s) h.3, length-append w x)

-- the others have a bit: an end, or a code
others_some : (ac : Table) (items : List AcCode) (tail : List Bool) → AllByRecursion (IsAcCode ac) items → IsEnd ac (length (flat_map entries items)) tail → 1 ≤ length (flat_map code_bits items ++ tail)
others_some ac [] tail all (inl e) = absurd (omega (arith, e.0))
others_some ac (i ∷ is) tail all (inl e) = omega (arith, code_some ac i all.0, length-append (code_bits i) (flat_map code_bits is), length-append (code_bits i ++ flat_map code_bits is) tail)
others_some ac items tail all (inr e) = omega (arith, word_some ac tail 0 e.1, length-append (flat_map code_bits items) tail)

first_some : (dc : Table) (d : ℤ) (bs : List Bool) → DifferenceAt dc d bs → 1 ≤ length bs
first_some dc d bs f = omega (arith, ap length f.spelled, length-append f.word f.extra, word_some dc f.word f.size f.is_word)

-- a block has two bits or more
block_long : (dc ac : Table) (p : ℤ) (z : List ℤ) (bs : List Bool) → BlockAt dc ac p z bs → 2 ≤ length bs
block_long dc ac p z bs b =
    let c = b.coded in
    let o = c.are_others in
    omega (arith, ap length c.spelled, length-append c.first_bits c.others_bits, first_some dc b.difference c.first_bits c.is_first, ap length o.spelled, others_some ac o.items o.tail o.each o.end)

parts_long : (parts : List (List Bool)) → ((n : ℕ) → n < length parts → 2 ≤ length (slice_index_or parts n [])) → 2 * length parts ≤ length (all_bits parts)
parts_long [] h = omega arith
parts_long (p ∷ ps) h = omega (arith, h zero (omega arith), parts_long ps (λ n l. h (suc n) (omega (arith, l))), length-append p (all_bits ps))

-- k MCUs have two bits or more for each of their data units
pub mcus_long : (h : HeadValue) (start : List ℤ) (k : ℕ) (zs : List (List ℤ)) (taken : List Bool) → Mcus h start k zs taken → 2 * (k * length (order_of h)) ≤ length taken
mcus_long h start k zs taken m =
    let b = m.1 in
    let long = parts_long b.parts (λ n l. block_long _ _ _ _ _ (b.each n (omega (arith, l, b.count)))) in
    omega (arith, long, b.count, m.0, ap length b.spelled)
