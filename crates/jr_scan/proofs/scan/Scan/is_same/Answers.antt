use Rattle.std.proofs.Common.{◌≡◌, ℕ, ◌-◌, ◌≤◌, List, [], ◌++◌, true, false, length, length-append, map, replicate, sym, ap, ◌∙◌, arith}
use Rattle.std.specs.Arc.{arc_value}
use Rattle.std.proofs.lemmas.Bool.{eqb-true}
use Rattle.std.proofs.lemmas.List.{length-map, length-replicate}
use Rattle.jr_cut.specs.Spans.{segment_data}
use Rattle.jr_scan.specs.ScanValue.{ScanValue}
use Rattle.jr_scan.proofs.scan.Scan.is_same.Goals as goal
use Rattle.jr_scan.proofs.scan.Scan.is_same.Goals.{then-is_same, else-is_same}

-- those that have data, and those that have none
padded : {A : Type 0} (f : A → List ℕ) (xs : List A) (n : ℕ) → length xs ≤ n → length (map f xs ++ replicate {A = List ℕ} (n - length xs) []) ≡ n
padded f xs n few = omega (arith, few, length-append (map f xs) (replicate (n - length xs) []), length-map xs f, length-replicate {A = List ℕ} (n - length xs) [])

pub has_same_data-requires : goal.has_same_data-requires
has_same_data-requires c =
    let a = c.self.inside in
    let b = c.other.inside in
    let mine : a.intervals ≡ length c.args.self.now.intervals = sym (padded (segment_data (arc_value a.unstuffed).items) a.spans.items a.intervals c.self.invariant.1) ∙ ap (λ (s : ScanValue). length s.intervals) c.self.view_is in
    let theirs : b.intervals ≡ length c.args.other.now.intervals = sym (padded (segment_data (arc_value b.unstuffed).items) b.spans.items b.intervals c.other.invariant.1) ∙ ap (λ (s : ScanValue). length s.intervals) c.other.view_is in
    let same : a.intervals ≡ b.intervals = elim c.if-is_same.branch [
      | then-is_same w ↦ eqb-true a.intervals b.intervals (sym w.value-is ∙ c.if-self-other.true)
      | else-is_same w ↦ absurd (let z : false ≡ true = sym w.if-is_same.false ∙ sym w.value-is ∙ c.if-self-other.true in cc)
    ] in
    sym mine ∙ same ∙ theirs
