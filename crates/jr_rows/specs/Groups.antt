-- The samples of a row of MCUs as lines of its components, eight samples a group (T.81, A.1.1 and A.2.3): the lines of
-- component 0 from the top, then those of component 1, and so on, each with space for the same number of groups.
use Rattle.std.specs.Prelude.{ℕ, ◌+◌, ◌-◌, ◌*◌, ◌/◌, ◌%◌, List, [], length, map, sum_by, take, slice_index, slice_index_or}
use Rattle.std.specs.List.{range_with_len}
use Rattle.jr_head.specs.declared.component.Component.{Component}
use Rattle.jr_head.specs.HeadValue.{HeadValue}
use Rattle.jr_head.specs.Geometry.{blocks_before, blocks_of, horizontal_max, horizontal_of, mcus_across}
use Rattle.jr_mcu.specs.Mcus.{component}

-- the lines of the components before c, and of all
abbrev pub lines_before_component : HeadValue → ℕ → ℕ
lines_before_component h c = 8 * sum_by (λ (k : Component). k.vertical) (take c h.components)

abbrev pub all_lines : HeadValue → ℕ
all_lines h = lines_before_component h (length h.components)

-- a line has space for that number of groups
abbrev pub groups_across : HeadValue → ℕ
groups_across h = mcus_across h * horizontal_max h

-- data unit i of component c in an MCU: the line of its first row, and its group there in MCU m
abbrev pub group_in : HeadValue → (c i m r : ℕ) → ℕ
group_in h c i m r = (lines_before_component h c + 8 * (i / horizontal_of h c) + r) * groups_across h + (m * horizontal_of h c + i % horizontal_of h c)

-- the position of row r of data unit j of MCU m of the row
abbrev pub group_of : HeadValue → (m j r : ℕ) → ℕ
group_of h m j r = let c = component h j in group_in h c (j - blocks_before h c) m r

-- data unit j of MCU m, and those of all MCUs in their order
abbrev pub unit_in : HeadValue → List (List ℕ) → (m j : ℕ) → List ℕ
unit_in h groups m j = map (λ n. slice_index (slice_index_or groups (group_of h m j (n / 8)) []) (n % 8)) (range_with_len 0 64)

abbrev pub units_in : HeadValue → List (List ℕ) → List (List ℕ)
units_in h groups = map (λ k. unit_in h groups (k / blocks_of h) (k % blocks_of h)) (range_with_len 0 (mcus_across h * blocks_of h))
