-- What a sight of an interval's strips knows, by its notes.
use Rattle.std.proofs.Common.{◌≡◌, ◌≢◌, ℕ, ◌*◌, ◌⊎◌, inl, inr, Bool, true, false, ◌&&◌, List, Option, Some, None, Ok, Err, Result, IfOk, cond, ◌==◌, length, replicate, sym, refl, ap, subst, ◌∙◌}
use Rattle.std.specs.declared.sync.Arc.{Arc}
use Rattle.std.specs.Arc.{arc_value}
use Rattle.std.specs.declared.alloc.Global.{Global}
use Rattle.std.proofs.lemmas.Bool.{eq-eqb, ne_eqb}
use Rattle.jr_piece.specs.StripValue.{StripValue}
use Rattle.jr_cells.specs.StripCellsValue.{StripCellsValue, StripSightValue}
use Rattle.jr_cells.specs.Notes.{names_of, known_of, KnowAt, KnowNothingAt, KeepAll, KeepOthers, NotesAgree, counted}
use Rattle.jr_cells.specs.StripSights.{StripNote, is_position, strip_in_cell, strips_of, KnowsStrip, KnowsNoStrip, KnowsAllStrips, AgreeOnStrips}
use Rattle.jr_cells.proofs.Noted.{length-known, length-names, as_many}
use Rattle.jr_cells.proofs.Counted.{there, counts_there, later, agreed, fresh, unseen}

module _ (number each : ℕ) where
  abbrev pub cells_seen : List StripNote → StripCellsValue
  cells_seen ns = record { number = number; each = each; cells = names_of ns }

  abbrev pub seen : List StripNote → StripSightValue
  seen ns = record { cells = cells_seen ns; strips = strips_of number each ns }

  abbrev in_cell : ℕ → Option (Arc StripValue Global) → Option StripValue
  in_cell place = strip_in_cell number (place * each)

  empty : (place : ℕ) → in_cell place None ≡ None
  empty place = refl

  pub knows_all : (old new : List StripNote) → KeepAll old new → KnowsAllStrips (seen old) (seen new)
  knows_all old new keep = later in_cell empty (known_of old) (known_of new) keep

  pub agree : (one two : List StripNote) → NotesAgree one two → AgreeOnStrips (seen one) (seen two)
  agree one two same = agreed in_cell empty (known_of one) (known_of two) same

  pub fresh_strips : (ns : List StripNote) (n : ℕ) → known_of ns ≡ replicate n None → strips_of number each ns ≡ replicate n None
  fresh_strips ns n e = ap (λ ks. counted in_cell 0 ks) e ∙ fresh in_cell empty 0 n

  lies : (first : ℕ) (s : StripValue) → s.interval.number ≡ number → s.first ≡ first → is_position number first s ≡ true
  lies first s e f = ap (λ (b : Bool). b && (s.first == first)) (eq-eqb s.interval.number number e) ∙ eq-eqb s.first first f

  lies_not : (first : ℕ) (s : StripValue) → (s.interval.number ≢ number) ⊎ ((s.interval.number ≡ number) × (s.first ≢ first)) → is_position number first s ≡ false
  lies_not first s (inl e) = ap (λ (b : Bool). b && (s.first == first)) (ne_eqb s.interval.number number e)
  lies_not first s (inr e) = ap (λ (b : Bool). b && (s.first == first)) (eq-eqb s.interval.number number e.0) ∙ ne_eqb s.first first e.1

  -- a strip of the interval that notes know is known if it starts at its cell's MCU
  pub known_strip : (ns : List StripNote) (place : ℕ) (s : Arc StripValue Global) → KnowAt ns place s → (arc_value s).interval.number ≡ number → (arc_value s).first ≡ place * each
      → KnowsStrip (seen ns) place (arc_value s)
  known_strip ns place s k e f =
      counts_there in_cell empty (known_of ns) place s (arc_value s) k (ap (λ (b : Bool). cond b (Some (arc_value s)) None) (lies (place * each) (arc_value s) e f))

  -- such a strip that was published (`hang`) is known
  pub hung : {E : Type 0} (ns : List StripNote) (place : ℕ) (s : Arc StripValue Global) (r : Result (Unit {0}) E) → (arc_value s).interval.number ≡ number → (arc_value s).first ≡ place * each
      → IfOk r (λ _. KnowAt ns place s) → IfOk r (λ _. KnowsStrip (seen ns) place (arc_value s))
  hung ns place s (Ok u) e f k = known_strip ns place s k e f
  hung ns place s (Err x) e f k = tt

  -- the sight after a look that found nothing
  pub missed_strip : (old new : List StripNote) (place : ℕ) → names_of new ≡ names_of old → (known_of new ≡ known_of old) × KnowNothingAt old place → (seen new ≡ seen old) × KnowsNoStrip (seen old) place
  missed_strip old new place names m = (
    λ j. record { cells = record { number = number; each = each; cells = names j }; strips = counted in_cell 0 (m.0 j) },
    there in_cell empty (known_of old) place ∙ ap (in_cell place) m.1,
  )

  -- the sight after a look that found another strip
  pub strange_strip : (old new : List StripNote) (place : ℕ) (s : Arc StripValue Global) → names_of new ≡ names_of old → KeepAll old new → KeepOthers place old new → KnowAt new place s
      → ((arc_value s).interval.number ≢ number) ⊎ (((arc_value s).interval.number ≡ number) × ((arc_value s).first ≢ place * each)) → (seen new ≡ seen old) × KnowsNoStrip (seen old) place
  strange_strip old new place s names keep others k e =
      let long : length (known_of new) ≡ length (known_of old) = length-known new ∙ as_many new (names_of old) names ∙ length-names old ∙ sym (length-known old) in
      let not : in_cell place (Some s) ≡ None = ap (λ (b : Bool). cond b (Some (arc_value s)) None) (lies_not (place * each) (arc_value s) e) in
      let u = unseen in_cell empty (known_of old) (known_of new) place s long keep others k not in
      (λ j. record { cells = record { number = number; each = each; cells = names j }; strips = u.0 j }, u.1)

-- the cells of a sight
pub of_cells : (number each : ℕ) (ns : List StripNote) (s : StripSightValue) (v : StripCellsValue) → seen number each ns ≡ s → s.cells ≡ v → (number ≡ v.number) × (each ≡ v.each)
of_cells number each ns s v e f =
    let g : cells_seen number each ns ≡ v = ap (λ (t : StripSightValue). t.cells) e ∙ f in
    (ap (λ (c : StripCellsValue). c.number) g, ap (λ (c : StripCellsValue). c.each) g)

-- sights of the same cells agree if their notes do
pub agree_alike : (n m each e : ℕ) (one two : List StripNote) → n ≡ m → each ≡ e → NotesAgree one two → AgreeOnStrips (seen n each one) (seen m e two)
agree_alike n m each e one two a b same =
    subst (λ (k : ℕ). AgreeOnStrips (seen n each one) (seen k e two)) a (subst (λ (k : ℕ). AgreeOnStrips (seen n each one) (seen n k two)) b (agree n each one two same))
