use Rattle.std.proofs.Common.{◌≡◌, ℕ, ◌+◌, ◌*◌, ◌<◌, ◌≤◌, ◌∙◌, [], List, length, ap, sym, arith, rules, slice_index, slice_index_or}
use Rattle.std.proofs.Math.Nat.{mul-le-mul_right}
use Rattle.jr_head.specs.HeadValue.{HeadValue}
use Rattle.jr_head.specs.Geometry.{IsValid, blocks_of, horizontal_max, horizontal_of, mcus_across}
use Rattle.jr_mcu.specs.Mcus.{component}
use Rattle.jr_rows.specs.declared.row_lines.UnitStart.{UnitStart}
use Rattle.jr_rows.specs.Groups.{group_of, groups_across}
use Rattle.jr_rows.specs.RowLines.{HasGroups, IsStartOf}
use Rattle.jr_rows.proofs.GroupNumbers.{apart, inside, last_row}
use Rattle.jr_rows.proofs.GroupLists.{further, unit_kept, unit_stored}
use Rattle.jr_rows.proofs.row_lines.store_unit.Goals as goal

abbrev none : UnitStart
none = record { first = 0; step = 0 }

-- a line of an image that has an MCU has a group
some_across : (h : HeadValue) (m : ℕ) → IsValid h → m < mcus_across h → 0 < groups_across h
some_across h m l lt =
    let one : 1 * horizontal_max h ≤ mcus_across h * horizontal_max h = mul-le-mul_right {m = 1} {n = mcus_across h} (horizontal_max h) (omega (arith, lt)) in
    omega (arith, one, l.components.across)

-- the group of its first row
lies : (h : HeadValue) (m j : ℕ) (p : UnitStart) → IsStartOf h j p → p.first + m * p.step ≡ group_of h m j 0
lies h m j p is =
    let step : m * p.step ≡ m * horizontal_of h (component h j) = ap (λ k. m * k) is.step_is in
    omega (arith, is.first_is, step, further h m j 0)

-- the others are within the lines
fits : (h : HeadValue) (across : ℕ) (groups : List (List ℕ)) (m j : ℕ) (p : UnitStart) → IsValid h → HasGroups h across groups → IsStartOf h j p → m < mcus_across h → j < blocks_of h → p.first + m * p.step + 7 * across < length groups
fits h across groups m j p l space is lm lj =
    let seven : 7 * across ≡ 7 * groups_across h = ap (λ k. 7 * k) space.across_is in
    omega (arith, lies h m j p is, seven, last_row h m j 7, inside h m j 7 l lm lj (omega arith), space.long)

pub overflow_mul-mcu : goal.overflow_mul-mcu
overflow_mul-mcu c =
    let all = fits c.args.head.now c.args.across c.args.groups.now c.args.mcu c.args.j (slice_index_or c.args.starts.now c.args.j none) c.assert_invariant.ensures c.requires.space (c.requires.starts.each c.args.j none c.requires.unit) c.requires.mcu c.requires.unit in
    search (rules, arith, all)

pub overflow_add-start : goal.overflow_add-start
overflow_add-start c =
    let all = fits c.args.head.now c.args.across c.args.groups.now c.args.mcu c.args.j (slice_index_or c.args.starts.now c.args.j none) c.assert_invariant.ensures c.requires.space (c.requires.starts.each c.args.j none c.requires.unit) c.requires.mcu c.requires.unit in
    search (rules, arith, all)

pub store_rows-requires-clause-some : goal.store_rows-requires-clause-some
store_rows-requires-clause-some c = search (rules, arith, some_across c.args.head.now c.args.mcu c.assert_invariant.ensures c.requires.mcu)

pub store_rows-requires-clause-space : goal.store_rows-requires-clause-space
store_rows-requires-clause-space c =
    let all = fits c.args.head.now c.args.across c.args.groups.now c.args.mcu c.args.j (slice_index_or c.args.starts.now c.args.j none) c.assert_invariant.ensures c.requires.space (c.requires.starts.each c.args.j none c.requires.unit) c.requires.mcu c.requires.unit in
    search (rules, arith, all)

-- row r of the data unit is there
row_there : (h : HeadValue) (across : ℕ) (groups : List (List ℕ)) (m j : ℕ) (p : UnitStart) → HasGroups h across groups → IsStartOf h j p → (r : ℕ) → p.first + m * p.step + r * across ≡ group_of h m j r
row_there h across groups m j p space is r =
    let lines : r * across ≡ r * groups_across h = ap (λ k. r * k) space.across_is in
    omega (arith, lies h m j p is, lines, last_row h m j r)

pub returns-clause-here : goal.returns-clause-here
returns-clause-here c =
    let h = c.args.head.now in
    let new = c.store_rows.new.groups in
    let is = c.requires.starts.each c.args.j none c.requires.unit in
    unit_stored h new c.args.mcu c.args.j c.args.unit.now c.told-unit (λ r k lr lk.
    ap (λ n. slice_index (slice_index_or new n []) k) (sym (row_there h c.args.across c.args.groups.now c.args.mcu c.args.j (slice_index_or c.args.starts.now c.args.j none) c.requires.space is r)) ∙ c.store_rows.ensures.rows r k lr lk)

pub returns-clause-others : goal.returns-clause-others
returns-clause-others c m i lm li other =
    let h = c.args.head.now in
    let is = c.requires.starts.each c.args.j none c.requires.unit in
    unit_kept h c.store_rows.new.groups m i c.args.groups.now (λ r lr.
    c.store_rows.ensures.others (group_of h m i r) (λ q lq e.
    let same = apart h m i r c.args.mcu c.args.j q c.assert_invariant.ensures lm c.requires.mcu li c.requires.unit lr lq (e ∙ row_there h c.args.across c.args.groups.now c.args.mcu c.args.j (slice_index_or c.args.starts.now c.args.j none) c.requires.space is q) in
    other same.0 same.1.0))
