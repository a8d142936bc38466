-- The data units of the MCUs of an interval: those of its longest prefix, and those after the last whole MCU.
use Rattle.std.proofs.Common.{◌≡◌, ℕ, ◌+◌, ◌*◌, ◌<◌, ◌≤◌, inl, inr, List, [], length, get_or, sym, ap, subst, ◌∙◌, arith}
use Rattle.std.specs.Prelude.{ℤ}
use Rattle.std.proofs.lemmas.Bool.{cases_lt}
use Rattle.std.proofs.lemmas.List.{get_or-drop, get_or_default, get_or_past}
use Rattle.std.proofs.Math.Nat.{add-mul, mul-le-mul_right}
use Rattle.jr_head.specs.Geometry.{IsValid, order_of, quantiser_of}
use Rattle.jr_idct.specs.Transform.{samples}
use Rattle.jr_idct.proofs.Zeros.{grey}
use Rattle.jr_mcu.specs.Mcus.{component}
use Rattle.jr_scan.specs.declared.place.Place.{Place}
use Rattle.jr_scan.specs.declared.place.RunEnd.TheVariants.{AllRead}
use Rattle.jr_scan.specs.IntervalValue.{IntervalValue}
use Rattle.jr_scan.specs.Mcus.{AreBlocks, LongestFront, units_before}
use Rattle.jr_scan.specs.Run.{FirstMcus, IsNext, IsRun, run_from}
use Rattle.jr_scan.specs.Cursors.{AreBlocksFrom, zero_block}
use Rattle.jr_scan.proofs.ScanLaws.{one_front, one_run, runs_meet, shorter_front}
use Rattle.jr_scan.proofs.CursorRuns as runs
use Rattle.jr_piece.specs.PieceValue.{PieceValue}
use Rattle.jr_piece.specs.Outcome.{IsOutcome, unit_of}
use Rattle.jr_piece.specs.Units.{CodesUnits, grey_unit, unit_in_piece}
use Rattle.jr_piece.proofs.Strips.{Fronted, component_on, fronted}
use Rattle.jr_piece.proofs.UnitReading.{after, shown, zero_unit}

-- those of whole MCUs
pub blocks_code : (i : IntervalValue) (first n : ℕ) (ys : List (List ℤ)) → AreBlocks i first n ys → (o : PieceValue) → o.interval ≡ i → IsOutcome o
    → (k : ℕ) → k < n * length (order_of i.head) → unit_of i.head ys k ≡ unit_in_piece o (first * length (order_of i.head) + k)
blocks_code i first n ys are o same is k lt =
    let per = length (order_of i.head) in
    let there = first * per + k in
    ap (λ (z : List ℤ). samples z (quantiser_of i.head (component i.head k))) (ap (λ (l : List (List ℤ)). get_or l k []) are.last ∙ get_or-drop (first * per) are.all k [])
    ∙ ap (λ (c : ℕ). samples (get_or are.all there []) (quantiser_of i.head c)) (sym (component_on i.head first k))
    ∙ shown one_front shorter_front i o same is (first + n) are.all are.front there (omega (arith, lt, add-mul first n per))

pub whole_codes : (i : IntervalValue) → IsValid i.head → (first : ℕ) (zs : List (List ℤ)) (p : Place) → IsNext i first zs p → (n : ℕ) (ys : List (List ℤ)) (q : Place) → IsRun (run_from i p n) ys q AllRead → first + n ≤ i.mcus → (o : PieceValue) → o.interval ≡ i → IsOutcome o
    → (k : ℕ) → k < n * length (order_of i.head) → unit_of i.head ys k ≡ unit_in_piece o (first * length (order_of i.head) + k)
whole_codes i valid first zs p next n ys q run few =
    let here : FirstMcus (run_from i p n) n ys = record { to = q; run = run; none = λ lt. absurd (omega (arith, lt)) } in
    blocks_code i first n ys (runs.blocks one_run runs_meet shorter_front i valid first zs p next n n ys here few)

-- those after the last whole MCU
pub grey_codes : (i : IntervalValue) (front mcu : ℕ) (zs : List (List ℤ)) → front ≤ mcu → LongestFront i front zs → (o : PieceValue) → o.interval ≡ i → IsOutcome o → (k : ℕ) → grey_unit ≡ unit_in_piece o (mcu * length (order_of i.head) + k)
grey_codes i front mcu zs le longest o same is k =
    let past : front * length (order_of i.head) ≤ mcu * length (order_of i.head) = mul-le-mul_right {m = front} {n = mcu} (length (order_of i.head)) le in
    after one_front shorter_front i o same is front zs longest (mcu * length (order_of i.head) + k) (omega (arith, past))

-- the blocks of an interval starting at an MCU have the samples of its data units
pub read_codes : (i : IntervalValue) (first : ℕ) (us : List (List ℤ)) → AreBlocksFrom i first us → (o : PieceValue) → IsOutcome o → o.interval ≡ i → CodesUnits o (units_before i first) us
read_codes i first us are o out same k lt =
    let h = i.head in
    let j = units_before i first + k in
    let f : Fronted i o.front o.samples = subst (λ (v : IntervalValue). Fronted v o.front o.samples) same (fronted o out) in
    let block : get_or us k [] ≡ get_or f.blocks j zero_block = are o.front f.blocks f.longest k lt in
    ap (λ (v : IntervalValue). unit_of v.head us k) same ∙ elim (cases_lt j (length f.blocks)) [
      | inl there ↦
          ap (λ (z : List ℤ). samples z (quantiser_of h (component h k))) (block ∙ sym (get_or_default f.blocks j [] zero_block there))
          ∙ ap (λ (c : ℕ). samples (get_or f.blocks j []) (quantiser_of h c)) (sym (component_on h first k))
          ∙ sym (f.samples.each j there) ∙ get_or_default o.samples j [] grey_unit (omega (arith, there, f.samples.count))
      | inr past ↦
          zero_unit grey h us k (block ∙ get_or_past f.blocks j zero_block past) ∙ sym (get_or_past o.samples j grey_unit (omega (arith, past, f.samples.count)))
    ]
