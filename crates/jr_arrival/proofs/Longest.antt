-- The maximum number of bits of an MCU (T.81, F.1.2): ten data units, each of a code and eleven bits and 63 codes and ten bits each.
use Rattle.std.proofs.Common.{◌≡◌, ℕ, suc, ◌+◌, ◌*◌, ◌<◌, ◌≤◌, Bool, List, [], ◌∷◌, ◌++◌, length, get_or, take, drop, replicate, inl, inr, sym, ap, ◌∙◌, length-append, arith}
use Rattle.std.specs.Prelude.{ℤ, pos}
use Rattle.std.proofs.lemmas.List.{take-append-drop, take-append-le}
use Rattle.std.proofs.Math.Seq.{take-append_seam}
use Rattle.std.specs.List.{flat_map, AllByRecursion}
use Rattle.jr_code.specs.Bits.{bits, value}
use Rattle.jr_code.specs.Code.{Table}
use Rattle.jr_head.specs.HeadValue.{HeadValue}
use Rattle.jr_head.specs.Geometry.{ac_of, dc_of, order_of}
use Rattle.jr_mcu.specs.Block.{AcCode, IsAcCode, code_bits, entries, OthersAt, BlockAt}
use Rattle.jr_mcu.specs.Block.AcCode.{ZeroRun, RunAndSize}
use Rattle.jr_mcu.specs.Mcus.{Mcus, all_bits, block_of, component, prediction}
use Rattle.jr_scan.specs.declared.place.Place.{Place}
use Rattle.jr_scan.specs.IntervalValue.{IntervalValue}
use Rattle.jr_scan.specs.Run.{HasNoMcu, left_at}
use Rattle.jr_arrival.specs.More.{with_more}
use Rattle.jr_arrival.proofs.MoreData.{left_more}

code_short : (ac : Table) (c : AcCode) → IsAcCode ac c → (length (code_bits c) ≤ 26) × (1 ≤ length (entries c))
code_short ac (ZeroRun word) w = (omega (arith, w.short), omega arith)
code_short ac (RunAndSize run size word extra) (run_few, some, small, w, long) =
    (omega (arith, small, w.short, long, length-append word extra), omega (arith, length-append (replicate run (pos 0)) (value extra ∷ [])))

codes_short : (ac : Table) (items : List AcCode) → AllByRecursion (IsAcCode ac) items → length (flat_map code_bits items) ≤ 26 * length (flat_map entries items)
codes_short ac [] each = omega arith
codes_short ac (c ∷ cs) each =
    let one = code_short ac c each.0 in
    let others = codes_short ac cs each.1 in
    omega (arith, one.0, one.1, others, length-append (code_bits c) (flat_map code_bits cs), length-append (entries c) (flat_map entries cs))

others_short : (ac : Table) (others : List ℤ) (bits : List Bool) → OthersAt ac others bits → length bits ≤ 1638
others_short ac others bits o =
    let codes = codes_short ac o.items o.each in
    let all : length bits ≡ length (flat_map code_bits o.items) + length o.tail = ap length o.spelled ∙ length-append (flat_map code_bits o.items) o.tail in
    elim o.end [
      | inl e ↦ omega (arith, codes, all, e.0, ap length e.1)
      | inr e ↦ omega (arith, codes, all, e.0, e.1.short)
    ]

block_short : (dc ac : Table) (p : ℤ) (z : List ℤ) (bits : List Bool) → BlockAt dc ac p z bits → length bits ≤ 1665
block_short dc ac p z bits b =
    let first = b.coded.is_first in
    let others = others_short ac b.others b.coded.others_bits b.coded.are_others in
    let front : length b.coded.first_bits ≤ 27 = omega (arith, ap length first.spelled, length-append first.word first.extra, first.is_word.short, first.small, first.count) in
    omega (arith, front, others, ap length b.coded.spelled, length-append b.coded.first_bits b.coded.others_bits)

parts_short : (parts : List (List Bool)) → ((n : ℕ) → n < length parts → length (get_or parts n []) ≤ 1665) → length (all_bits parts) ≤ 1665 * length parts
parts_short [] each = omega arith
parts_short (p ∷ ps) each =
    let first = each 0 (omega arith) in
    let others = parts_short ps (λ n lt. each (suc n) (omega (arith, lt))) in
    omega (arith, first, others, length-append p (all_bits ps))

pub mcus_short : (h : HeadValue) (start : List ℤ) (k : ℕ) (zs : List (List ℤ)) (all : List Bool) → Mcus h start k zs all → length all ≤ 1665 * (k * length (order_of h))
mcus_short h start k zs all m =
    let b = m.1 in
    let short = parts_short b.parts (λ n lt. block_short (dc_of h (component h n)) (ac_of h (component h n)) (prediction h start zs (component h n) n) (block_of zs n) (get_or b.parts n []) (b.each n (omega (arith, lt, b.count)))) in
    omega (arith, short, ap length b.spelled, b.count, m.0)

-- the beginning of a longer list begins the list if this is long enough
front_of : (taken rest left more : List Bool) → left ++ more ≡ taken ++ rest → length taken ≤ length left → left ≡ taken ++ drop (length taken) left
front_of taken rest left more e short =
    let front : take (length taken) left ≡ taken =
    sym (take-append-le (length taken) left more short) ∙ ap (take (length taken)) e ∙ take-append_seam taken rest in
    sym (take-append-drop (length taken) left) ∙ ap (λ (b : List Bool). b ++ drop (length taken) left) front

-- if 16650 bits begin with no MCU, none begins them with more data after them
pub none_in_long : (i : IntervalValue) (more : List ℕ) (p : Place) → length (order_of i.head) ≤ 10 → p.bit ≤ 8 * length i.bytes → 16650 ≤ length (left_at i p) → HasNoMcu i p → HasNoMcu (with_more i more) p
none_in_long i more p few within long none ys taken rest m e =
    let short : length taken ≤ 16650 = omega (arith, mcus_short i.head p.predictions 1 ys taken m, few) in
    none ys taken (drop (length taken) (left_at i p)) m (front_of taken rest (left_at i p) (bits more) (sym (left_more i more p within) ∙ e) (omega (arith, short, long)))
