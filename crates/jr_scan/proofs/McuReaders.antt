-- A reader of whole MCUs moves from position to position, and what its end means for the interval.
use Rattle.std.proofs.Common.{◌≡◌, ℕ, ◌+◌, ◌-◌, ◌*◌, ◌/◌, ◌<◌, ◌≤◌, Bool, List, [], ◌++◌, length, take, drop, length-drop, refl, sym, ap, subst, ◌∙◌, inl, inr, length-append, arith}
use Rattle.std.specs.Prelude.{ℤ}
use Rattle.std.proofs.lemmas.Bool.{cases_lt}
use Rattle.std.proofs.lemmas.List.{drop-drop, length-take-le}
use Rattle.std.proofs.Math.Nat.{le-div_iff_mul-le, mul-le-mul_right}
use Rattle.std.proofs.lemmas.Slice.{take-put_mid}
use borrow.Rule.Slice.PartMut.{put_mid}
use Rattle.std.proofs.Math.Seq.{drop-append_seam}
use Rattle.jr_code.specs.Bits.{bits}
use Rattle.jr_code.proofs.BitLemmas.{length-bits}
use Rattle.jr_code.proofs.CodeLemmas.{one_word}
use Rattle.jr_head.specs.Geometry.{order_of, IsValid}
use Rattle.jr_scan.specs.declared.mcu_reader.McuReader.TheInside.{Inside}
use Rattle.jr_scan.specs.declared.place.Place.{Place}
use Rattle.jr_scan.specs.declared.place.RunEnd.TheVariants.{AllRead, NoMcu}
use Rattle.jr_scan.specs.IntervalValue.{IntervalValue}
use Rattle.jr_mcu.specs.Mcus.{Mcus, no_predictions, predicted, TakesMcu}
use Rattle.jr_scan.specs.Mcus.{HasNoDecoding, Front, LongestFront}
use Rattle.jr_scan.specs.Run.{RunOf, start_of_interval, whole_run, run_from, left_at, HasNoMcu, IsRun}
use Rattle.std.specs.List.{All}
use Rattle.jr_mcu.specs.Block.{IsInDcRange, IsInRange}
use Rattle.jr_scan.proofs.InRange.{run_in_range}
use Rattle.jr_scan.specs.McuReader.{per_mcu, McuReaderValue, HasRead, HasEnded, HasReadOf, HasReadAll, IsMcuReader}
use Rattle.jr_mcu.proofs.LongMcus.{mcus_long}
use Rattle.jr_mcu.proofs.McuLaws.{blocks_front, no_blocks}
use Rattle.jr_scan.proofs.Runs.{component_low, decoding_is_run, no_more, one_run, runs_meet, three_places}

pub left_is : (i : IntervalValue) (p : Place) → length (left_at i p) ≡ 8 * length i.bytes - p.bit
left_is i p = length-drop p.bit (bits i.bytes) ∙ ap (λ (k : ℕ). k - p.bit) (length-bits i.bytes)

-- no MCUs
pub no_run : (i : IntervalValue) (p : Place) → length p.predictions ≡ 3 → IsRun (run_from i p 0) [] p AllRead
no_run i p three = record {
  count = 0;
  few = omega arith;
  taken = [];
  mcus = (omega arith, no_blocks i.head p.predictions);
  spelled = refl;
  bit = omega arith;
  predictions = three_places p.predictions three;
  ends = refl;
}

-- the position after the bits that are read starting at a position
after : (i : IntervalValue) (p : Place) (bit : ℕ) (taken new : List Bool) → p.bit ≤ 8 * length i.bytes → left_at i p ≡ taken ++ new → bit ≡ 8 * length i.bytes - length new → (bit ≡ p.bit + length taken) × (drop bit (bits i.bytes) ≡ new)
after i p bit taken new within split at =
    let there : length taken + length new ≡ 8 * length i.bytes - p.bit = omega (arith, ap length split, length-append taken new, left_is i p) in
    let is : bit ≡ p.bit + length taken = omega (arith, there, at, within) in
    (is, ap (λ (k : ℕ). drop k (bits i.bytes)) is ∙ sym (drop-drop (length taken) p.bit (bits i.bytes)) ∙ ap (drop (length taken)) split ∙ drop-append_seam taken new)

-- one MCU is a run
pub one_mcu : (i : IntervalValue) (p q : Place) (zs : List (List ℤ)) (new : List Bool) → p.bit ≤ 8 * length i.bytes → TakesMcu i.head p.predictions zs (left_at i p) new → q.bit ≡ 8 * length i.bytes - length new → q.predictions ≡ predicted i.head p.predictions zs
    → IsRun (run_from i p 1) zs q AllRead
one_mcu i p q zs new within t at last =
    let b = after i p q.bit t.taken new within t.split at in
    record {
      count = 1;
      few = omega arith;
      taken = t.taken;
      mcus = t.mcu;
      spelled = t.split ∙ ap (λ (w : List Bool). t.taken ++ w) (sym b.1);
      bit = b.0;
      predictions = last;
      ends = refl;
    }

pub left_after : (i : IntervalValue) (p : Place) (bit : ℕ) (zs : List (List ℤ)) (new : List Bool) → p.bit ≤ 8 * length i.bytes → TakesMcu i.head p.predictions zs (left_at i p) new → bit ≡ 8 * length i.bytes - length new → new ≡ drop bit (bits i.bytes)
left_after i p bit zs new within t at = sym (after i p bit t.taken new within t.split at).1

-- the value of a reader with these fields
abbrev pub value_of : Inside → McuReaderValue
value_of r = record { run = record { interval = r.interval; from = r.from; mcus = r.mcus }; mcu = r.mcu; place = record { bit = 8 * length r.interval.bytes - length r.bits; predictions = r.predictions } }

-- a reader reads one more MCU
pub next_mcu : (r : McuReaderValue) (left new : List Bool) (ps : List ℤ) (zs : List (List ℤ)) → IsMcuReader r left → r.mcu < r.run.mcus → r.place.bit ≤ 8 * length r.run.interval.bytes
    → TakesMcu r.run.interval.head r.place.predictions zs left new → ps ≡ predicted r.run.interval.head r.place.predictions zs → All IsInDcRange ps
    → IsMcuReader (record { run = r.run; mcu = r.mcu + 1; place = record { bit = 8 * length r.run.interval.bytes - length new; predictions = ps } }) new
    × IsRun (run_from r.run.interval r.place 1) zs (record { bit = 8 * length r.run.interval.bytes - length new; predictions = ps }) AllRead
next_mcu r left new ps zs kept more within t last range =
    let i = r.run.interval in
    let q : Place = record { bit = 8 * length i.bytes - length new; predictions = ps } in
    let t1 = subst (λ (b : List Bool). TakesMcu i.head r.place.predictions zs b new) kept.bits t in (
      record {
        valid = kept.valid;
        few = omega (arith, more);
        small = kept.small;
        bits = left_after i r.place q.bit zs new within t1 refl;
        three = ap (λ (xs : List ℤ). length xs) last;
        in_range = range;
      },
      one_mcu i r.place q zs new within t1 refl last,
    )

-- a reader that reads further MCUs has read both
pub read_on : (r r' : McuReaderValue) (k : ℕ) (zs ys : List (List ℤ)) → IsValid r.run.interval.head → r'.run ≡ r.run → r'.mcu ≡ r.mcu + k → r'.mcu ≤ r'.run.mcus
    → IsRun (run_from r.run.interval r.place k) ys r'.place AllRead → HasRead r zs → HasRead r' (zs ++ ys)
read_on r r' k zs ys valid run mcu few more s =
    let both = runs_meet r.run.interval r.run.from r.place r'.place r.mcu k zs ys AllRead (component_low r.run.interval.head valid) s.run more in
    let here = subst (λ (n : ℕ). IsRun (run_from r.run.interval r.run.from n) (zs ++ ys) r'.place AllRead) (sym mcu) both in
    record { few = few; run = subst (λ (o : RunOf). IsRun (run_from o.interval o.from r'.mcu) (zs ++ ys) r'.place AllRead) (sym run) here }

-- a reader that skips MCUs has read them
pub passed_on : (r r' new : McuReaderValue) (k : ℕ) (zs ys : List (List ℤ)) → IsValid r.run.interval.head → r'.run ≡ r.run → r'.mcu ≡ r.mcu + k → r'.mcu ≤ r'.run.mcus
    → IsRun (run_from r.run.interval r.place k) ys r'.place AllRead → new ≡ r' → HasRead r zs
    → (ys : List (List ℤ)) × (length ys ≡ k * per_mcu r) × All IsInRange ys × HasRead new (zs ++ ys)
passed_on r r' new k zs ys valid run mcu few more same s =
    let count : more.count ≡ k = more.ends in
    let long : length ys ≡ k * per_mcu r = more.mcus.0 ∙ ap (λ (n : ℕ). n * per_mcu r) count in
    (ys, long, run_in_range _ _ _ _ more, subst (λ (x : McuReaderValue). HasRead x (zs ++ ys)) (sym same) (read_on r r' k zs ys valid run mcu few more s))

-- the MCUs that a reader of a whole interval has read are a prefix
pub front_of_run : (i : IntervalValue) (k : ℕ) (zs : List (List ℤ)) (to : Place) → IsRun (run_from i start_of_interval k) zs to AllRead → k ≤ i.mcus → Front i k zs
front_of_run i k zs to r few = record { at_most = few; taken = r.taken; rest = left_at i to; mcus = subst (λ (n : ℕ). Mcus i.head no_predictions n zs r.taken) r.ends r.mcus; spelled = r.spelled }

pub run_of_front : (i : IntervalValue) (k : ℕ) (zs : List (List ℤ)) → Front i k zs → (to : Place) × IsRun (run_from i start_of_interval k) zs to AllRead
run_of_front i k zs f =
    let n = length f.taken in
    let left : drop n (bits i.bytes) ≡ f.rest = ap (drop n) f.spelled ∙ drop-append_seam f.taken f.rest in (
      record { bit = n; predictions = predicted i.head no_predictions zs },
      record { count = k; few = omega arith; taken = f.taken; mcus = f.mcus; spelled = f.spelled ∙ ap (λ (w : List Bool). f.taken ++ w) (sym left); bit = omega arith; predictions = refl; ends = refl },
    )

-- k of m MCUs, after which no whole one follows
pub stopped : (i : IntervalValue) (from to : Place) (k m : ℕ) (zs : List (List ℤ)) → k < m → IsRun (run_from i from k) zs to AllRead → HasNoMcu i to → IsRun (run_from i from m) zs to NoMcu
stopped i from to k m zs lt r none = let count : r.count ≡ k = r.ends in record { count = r.count; few = omega (arith, count, lt); taken = r.taken; mcus = r.mcus; spelled = r.spelled; bit = r.bit; predictions = r.predictions; ends = (omega (arith, count, lt), none) }

-- what a reader of a whole interval has read
own_run : (r : McuReaderValue) (i : IntervalValue) (zs : List (List ℤ)) → HasReadOf r i zs → IsRun (run_from i start_of_interval r.mcu) zs r.place AllRead
own_run r i zs s = subst (λ (o : RunOf). IsRun (run_from o.interval o.from r.mcu) zs r.place AllRead) s.0 s.1.run

own_few : (r : McuReaderValue) (i : IntervalValue) (zs : List (List ℤ)) → HasReadOf r i zs → r.mcu ≤ i.mcus
own_few r i zs s = omega (arith, s.1.few, ap (λ (o : RunOf). o.mcus) s.0)

pub front_read : (r : McuReaderValue) (i : IntervalValue) (zs : List (List ℤ)) → HasReadOf r i zs → Front i r.mcu zs
front_read r i zs s = front_of_run i r.mcu zs r.place (own_run r i zs s) (own_few r i zs s)

own_valid : (r : McuReaderValue) (i : IntervalValue) → IsValid r.run.interval.head → r.run ≡ whole_run i → IsValid i.head
own_valid r i valid e = subst (λ (o : RunOf). IsValid o.interval.head) e valid

pub longest_read : (r : McuReaderValue) (i : IntervalValue) (zs : List (List ℤ)) → IsValid r.run.interval.head → HasReadAll r i zs → LongestFront i r.mcu zs
longest_read r i zs valid all = record { front = front_read r i zs all.0; longest = λ j ys f. most j ys f all.1 }
  where
    most : (j : ℕ) (ys : List (List ℤ)) → Front i j ys → HasEnded r → j ≤ r.mcu
    most j ys f (inl full) = omega (arith, f.at_most, full, ap (λ (o : RunOf). o.mcus) all.0.0)
    most j ys f (inr none) = elim (cases_lt r.mcu j) [
      | inr g ↦ g
      | inl l ↦
          let three = component_low i.head (own_valid r i valid all.0.0) in
          let here = own_run r i zs all.0 in
          let no_mcu = subst (λ (o : RunOf). HasNoMcu o.interval r.place) all.0.0 none in
          let there = run_of_front i j ys f in
          let a = stopped i start_of_interval r.place r.mcu j zs l here no_mcu in
          let count : here.count ≡ r.mcu = here.ends in
          absurd (no_more one_word (run_from i start_of_interval j) zs ys r.place there.0 NoMcu AllRead three a there.1 (omega (arith, count, l)))
    ]

-- otherwise the interval has no decoding
pub damaged_read : (r : McuReaderValue) (left : List Bool) (i : IntervalValue) (zs : List (List ℤ)) → IsMcuReader r left → (r.mcu ≡ r.run.mcus → length left < 8 → ⊥) → HasReadAll r i zs → HasNoDecoding i
damaged_read r left i zs kept far all ys d =
    let three = component_low i.head (own_valid r i kept.valid all.0.0) in
    let there = decoding_is_run i ys d in
    let longest = longest_read r i zs kept.valid all in
    let front : Front i i.mcus ys = front_of_run i i.mcus ys there.0 there.1 (omega arith) in
    let count : r.mcu ≡ i.mcus = omega (arith, longest.longest i.mcus ys front, longest.front.at_most) in
    let mine : IsRun (whole_run i) zs r.place AllRead = subst (λ (n : ℕ). IsRun (run_from i start_of_interval n) zs r.place AllRead) count (own_run r i zs all.0) in
    let same : r.place ≡ there.0 = (one_run one_word (whole_run i) zs ys r.place there.0 AllRead AllRead three mine there.1).1 in
    far (count ∙ ap (λ (o : RunOf). o.mcus) (sym all.0.0)) (omega (arith, there.2, ap (λ (p : Place). length (left_at i p)) same, ap length (kept.bits ∙ ap (λ (o : RunOf). left_at o.interval r.place) all.0.0)))

-- one more MCU, written after those that a slice holds
pub more_held : (i : IntervalValue) (p q s : Place) (k per : ℕ) (xs ys : List (List ℤ)) → IsValid i.head → k * per + per ≤ length xs → length ys ≡ per → IsRun (run_from i p k) (take (k * per) xs) q AllRead → IsRun (run_from i q 1) ys s AllRead
    → IsRun (run_from i p (k + 1)) (take ((k + 1) * per) (put_mid (k * per) (k * per + per - k * per) xs ys)) s AllRead
more_held i p q s k per xs ys valid space long before next =
    let size : (k + 1) * per ≡ k * per + length ys = omega (arith, long) in
    let e : take ((k + 1) * per) (put_mid (k * per) (k * per + per - k * per) xs ys) ≡ take (k * per) xs ++ ys = take-put_mid (k * per) (k * per + per - k * per) xs ys ((k + 1) * per) size (omega (arith, space)) in
    subst (λ (zs : List (List ℤ)). IsRun (run_from i p (k + 1)) zs s AllRead) (sym e) (runs_meet i p q s k 1 (take (k * per) xs) ys AllRead (component_low i.head valid) before next)

-- if no whole MCU follows a position, no run starting there has one
pub no_first : (i : IntervalValue) (p q : Place) (k : ℕ) (zs : List (List ℤ)) → HasNoMcu i p → IsRun (run_from i p k) zs q AllRead → k ≡ 0
no_first i p q k zs none r = elim (cases_lt 0 k) [
  | inl some ↦
      let per = length (order_of i.head) in
      let one : 1 * per ≤ r.count * per = mul-le-mul_right {m = 1} {n = r.count} per (omega (arith, r.ends, some)) in
      let space : 1 * per ≤ length zs = omega (arith, one, r.mcus.0) in
      let b = blocks_front i.head p.predictions zs (left_at i p) r.taken (left_at i q) (1 * per) r.mcus.1 r.spelled space in
      absurd (none (take (1 * per) zs) b.0 b.1 (length-take-le (1 * per) zs space, b.2) b.3)
  | inr none_read ↦ omega (arith, none_read)
]

-- a reader that has ended reads none
pub takes_none : (r : McuReaderValue) (q : Place) (k : ℕ) (zs : List (List ℤ)) → r.mcu + k ≤ r.run.mcus → IsRun (run_from r.run.interval r.place k) zs q AllRead → HasEnded r → k ≡ 0
takes_none r q k zs few run (inl full) = omega (arith, full, few)
takes_none r q k zs few run (inr none) = no_first r.run.interval r.place q k zs none run

-- if the maximum number of MCUs is read, no whole one follows
pub no_space : (i : IntervalValue) (from to : Place) (n m most : ℕ) (zs : List (List ℤ)) → IsValid i.head → to.bit ≤ 8 * length i.bytes → IsRun (run_from i from n) zs to AllRead
    → ((k : ℕ) (ys : List (List ℤ)) (q : Place) → IsRun (run_from i from k) ys q AllRead → k ≤ m → k ≤ most) → most ≤ n → n < m → HasNoMcu i to
no_space i from to n m most zs valid within r enough full lt ys taken rest u e =
    let q : Place = record { bit = 8 * length i.bytes - length rest; predictions = predicted i.head to.predictions ys } in
    let t : TakesMcu i.head to.predictions ys (left_at i to) rest = record { taken = taken; mcu = u; split = e } in
    let both = runs_meet i from to q n 1 zs ys AllRead (component_low i.head valid) r (one_mcu i to q ys rest within t refl refl) in
    omega (arith, enough (n + 1) (zs ++ ys) q both (omega (arith, lt)), full)

-- each data unit of a run has two bits or more
pub run_few : (i : IntervalValue) (from to : Place) (k : ℕ) (zs : List (List ℤ)) → 0 < length (order_of i.head) → IsRun (run_from i from k) zs to AllRead → k ≤ (8 * length i.bytes - from.bit) / (2 * length (order_of i.head))
run_few i from to k zs some r =
    let per = length (order_of i.head) in
    let long = mcus_long i.head from.predictions k zs r.taken (subst (λ (n : ℕ). Mcus i.head from.predictions n zs r.taken) r.ends r.mcus) in
    let all : length r.taken ≤ 8 * length i.bytes - from.bit = omega (arith, left_is i from, ap length r.spelled, length-append r.taken (left_at i to)) in
    let twice : k * (2 * per) ≡ 2 * (k * per) = omega arith in
    (le-div_iff_mul-le (omega (arith, some))).1 (omega (arith, twice, long, all))
