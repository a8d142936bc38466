-- What is read of an interval is what each piece of it contains.
use Rattle.std.proofs.Common.{◌≡◌, ℕ, ◌*◌, ◌<◌, ◌≤◌, Bool, true, false, List, [], length, get_or, take, refl, sym, ap, subst, ◌∙◌, arith}
use Rattle.std.specs.Prelude.{ℤ}
use Rattle.std.proofs.lemmas.List.{get_or-take, get_or_default, get_or_past}
use Rattle.std.proofs.Math.Nat.{mul-le-mul_right}
use Rattle.jr_head.specs.HeadValue.{HeadValue}
use Rattle.jr_head.specs.Geometry.{order_of, quantiser_of}
use Rattle.jr_scan.specs.IntervalValue.{IntervalValue}
use Rattle.jr_mcu.specs.Mcus.{component}
use Rattle.jr_scan.specs.Mcus.{Decodes, HasNoDecoding, Front, LongestFront, ReportsSound}
use Rattle.jr_idct.specs.Transform.{samples}
use Rattle.jr_scan.specs.Cursors.{zero_block}
use Rattle.jr_scan.proofs.ScanLaws.{OneFront, ShorterFront}
use Rattle.jr_piece.specs.PieceValue.{PieceValue}
use Rattle.jr_piece.specs.Outcome.{IsOutcome, unit_of}
use Rattle.jr_piece.specs.Units.{grey_unit, unit_in_piece}
use Rattle.jr_piece.proofs.Strips.{Fronted, fronted}

-- what a piece contains at the data units of a prefix, and after the longest one
module _ (one : OneFront) (shorter : ShorterFront) (i : IntervalValue) (p : PieceValue) (same : p.interval ≡ i) (o : IsOutcome p) (m : ℕ) (zs : List (List ℤ)) where
  abbrev n : ℕ
  n = length (order_of i.head)

  f : Fronted i p.front p.samples
  f = subst (λ (v : IntervalValue). Fronted v p.front p.samples) same (fronted p o)

  pub shown : Front i m zs → (j : ℕ) → j < m * n → unit_of i.head zs j ≡ unit_in_piece p j
  shown front j lt =
      let few : m ≤ p.front = f.longest.longest m zs front in
      let e : take (m * n) f.blocks ≡ zs = one i m (take (m * n) f.blocks) zs (shorter i m p.front f.blocks few f.longest.front) front in
      let most : m * n ≤ p.front * n = mul-le-mul_right n few in
      let there : j < length f.blocks = omega (arith, lt, most, f.longest.front.mcus.0) in
      let block : get_or zs j [] ≡ get_or f.blocks j [] = ap (λ (ys : List (List ℤ)). get_or ys j []) (sym e) ∙ get_or-take (m * n) f.blocks j [] lt in
      ap (λ (z : List ℤ). samples z (quantiser_of i.head (component i.head j))) block ∙ sym (f.samples.each j there) ∙ get_or_default p.samples j [] grey_unit (omega (arith, there, f.samples.count))

  pub after : LongestFront i m zs → (j : ℕ) → m * n ≤ j → grey_unit ≡ unit_in_piece p j
  after longest j le =
      let e : p.front ≡ m = omega (arith, f.longest.longest m zs longest.front, longest.longest p.front f.blocks f.longest.front) in
      let past : length p.samples ≤ j = omega (arith, le, f.samples.count, f.longest.front.mcus.0, ap (λ (k : ℕ). k * n) e) in
      sym (get_or_past p.samples j grey_unit past)

-- each piece of the interval says whether it has a decoding
pub reports : (p : PieceValue) (i : IntervalValue) (zs : List (List ℤ)) (b : Bool) → p.interval ≡ i → IsOutcome p → (b ≡ true → Decodes i zs) → (b ≡ false → HasNoDecoding i) → p.is_sound ≡ b
reports p i zs b same o sound damaged = go p.is_sound b refl refl
  where
    go : (s t : Bool) → p.is_sound ≡ s → b ≡ t → p.is_sound ≡ b
    go true true e f = e ∙ sym f
    go false false e f = e ∙ sym f
    go true false e f = let s = o.sound e in absurd (damaged f s.blocks (subst (λ (v : IntervalValue). Decodes v s.blocks) same s.decodes))
    go false true e f = absurd ((o.damaged e).undecodable zs (subst (λ (v : IntervalValue). Decodes v zs) (sym same) (sound f)))

-- each piece of an interval says whether the interval has a decoding
pub outcome_reports : (i : IntervalValue) (b : Bool) → ReportsSound b i → (p : PieceValue) → IsOutcome p → p.interval ≡ i → p.is_sound ≡ b
outcome_reports i true stated p o e = reports p i stated.0 true e o (λ t. stated.1) (λ f. absurd cc)
outcome_reports i false stated p o e = reports p i [] false e o (λ t. absurd cc) (λ f. stated)

-- the samples of a block of zeros
abbrev pub ZerosAreGrey : Type 0
ZerosAreGrey = (q : List ℕ) → samples zero_block q ≡ grey_unit

-- data unit k of blocks, if block k is of zeros
pub zero_unit : ZerosAreGrey → (h : HeadValue) (zs : List (List ℤ)) (k : ℕ) → get_or zs k [] ≡ zero_block → unit_of h zs k ≡ grey_unit
zero_unit grey h zs k zeros = ap (λ (z : List ℤ). samples z (quantiser_of h (component h k))) zeros ∙ grey (quantiser_of h (component h k))
