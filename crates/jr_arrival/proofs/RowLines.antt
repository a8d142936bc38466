-- The lines of rows of MCUs, and the number of rows whose lines fit.
use Rattle.std.proofs.Common.{◌≡◌, ℕ, ◌+◌, ◌-◌, ◌*◌, ◌/◌, ◌<◌, ◌≤◌, min, Bool, cond, inl, inr, sym, subst, ap, ◌∙◌, arith}
use Rattle.std.proofs.lemmas.Bool.{cases_lt}
use Rattle.std.proofs.lemmas.Bool.Decides.{leb_tells}
use Rattle.std.proofs.lemmas.Grind.{div_ceil_times}
use Rattle.std.proofs.Math.Nat.{add-mul, div-mul-le_self, mul-le-mul_right}
use Rattle.jr_head.specs.HeadValue.{HeadValue}
use Rattle.jr_head.specs.Geometry.{mcus_down, vertical_max}
use Rattle.jr_paint.specs.Lines.{line_size}
use Rattle.jr_paint.proofs.Places.{below_div_ceil, in_div_ceil}
use Rattle.jr_rows.specs.Rows.{line_count}
use Rattle.jr_arrival.specs.Places.{lines_above, lines_between, rows_with_space}

module _ (h : HeadValue) (some : 0 < vertical_max h) where
  abbrev deep : ℕ
  deep = 8 * vertical_max h

  positive : 0 < deep
  positive = omega (arith, some)

  -- all rows have all lines
  pub all_lines : (row : ℕ) → mcus_down h ≤ row → h.height ≤ row * deep
  all_lines row le =
      let bound = div_ceil_times h.height deep positive in
      let more : mcus_down h * deep ≤ row * deep = mul-le-mul_right {m = mcus_down h} {n = row} deep le in
      omega (arith, bound.0, more)

  pub lines_before_is : (row : ℕ) → min (min row (mcus_down h) * deep) h.height ≡ lines_above h row
  lines_before_is row = elim (cases_lt row (mcus_down h)) [
    | inl l ↦ let m : min row (mcus_down h) ≡ row = omega (arith, l) in ap (λ (k : ℕ). min (k * deep) h.height) m
    | inr g ↦
        let m : min row (mcus_down h) ≡ mcus_down h = omega (arith, g) in
        let a = all_lines row g in
        let b = all_lines (mcus_down h) (omega arith) in
        ap (λ (k : ℕ). min (k * deep) h.height) m ∙ omega (arith, a, b)
  ]

  pub before_more : (from to : ℕ) → from ≤ to → lines_above h from ≤ lines_above h to
  before_more from to le = let m = mul-le-mul_right {m = from} {n = to} deep le in omega (arith, m)

  pub row_more : (row : ℕ) → row < mcus_down h → lines_above h row ≡ row * deep
  row_more row lt = let b = below_div_ceil row h.height deep positive lt in omega (arith, b)

  -- the lines up to a row, and those of it
  pub next_row : (first row : ℕ) → first ≤ row → row < mcus_down h → lines_between h first (row + 1) ≡ lines_between h first row + line_count h row
  next_row first row le lt =
      let b = below_div_ceil row h.height deep positive lt in
      let m = before_more first row le in
      omega (arith, b, m, add-mul row 1 deep)

  module _ (row bytes : ℕ) (le : row ≤ mcus_down h) where
    abbrev lines : ℕ
    lines = bytes / line_size h

    abbrev count : ℕ
    count = rows_with_space h row bytes

    pub space_few : row + count ≤ mcus_down h
    space_few = elim (leb_tells (h.height - lines_above h row) lines) [
      | inl t ↦ subst (λ (b : Bool). row + cond b (mcus_down h - row) (lines / deep) ≤ mcus_down h) (sym t.0) (omega (arith, le))
      | inr f ↦
          let low = div-mul-le_self lines deep in
          let within : (row + lines / deep) * deep < h.height = omega (arith, low, f.1, add-mul row (lines / deep) deep) in
          let there = in_div_ceil (row + lines / deep) h.height deep positive within in
          subst (λ (b : Bool). row + cond b (mcus_down h - row) (lines / deep) ≤ mcus_down h) (sym f.0) (omega (arith, there))
    ]

    pub space_fits : lines_between h row (row + count) ≤ lines
    space_fits = elim (leb_tells (h.height - lines_above h row) lines) [
      | inl t ↦ omega (arith, t.1)
      | inr f ↦
          let low = div-mul-le_self lines deep in
          let here : lines_between h row (row + lines / deep) ≤ lines = omega (arith, low, f.1, add-mul row (lines / deep) deep) in
          subst (λ (b : Bool). lines_between h row (row + cond b (mcus_down h - row) (lines / deep)) ≤ lines) (sym f.0) here
    ]

    pub fits : (to : ℕ) → to ≤ row + count → lines_between h row to * line_size h ≤ bytes
    fits to few =
        let less = before_more to (row + count) few in
        let lines_few : lines_between h row to ≤ lines = omega (arith, less, space_fits) in
        let product = mul-le-mul_right {m = lines_between h row to} {n = lines} (line_size h) lines_few in
        omega (arith, product, div-mul-le_self bytes (line_size h))
