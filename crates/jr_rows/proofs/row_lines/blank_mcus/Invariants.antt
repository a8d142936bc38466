use Rattle.std.proofs.Common.{◌≡◌, ℕ, ◌<◌, ◌≤◌, None}
use Rattle.jr_head.specs.Geometry.{blocks_of, mcus_across}
use Rattle.jr_rows.specs.Bands.{unit_shown_of}
use Rattle.jr_rows.specs.Groups.{unit_in}
use Rattle.jr_rows.specs.RowLines.{HasGroups}
use Rattle.jr_rows.proofs.row_lines.blank_mcus.Given as goal

abbrev pub invariant-loop-mcu : goal.invariant-loop-mcu
invariant-loop-mcu l = record {
  space : HasGroups l.head l.across l.groups;
  here : (m j : ℕ) → l.first ≤ m → m < l.mcu → m < mcus_across l.head → j < blocks_of l.head → unit_in l.head l.groups m j ≡ unit_shown_of l.head j None 0;
  kept : (m j : ℕ) → m < l.first → m < mcus_across l.head → j < blocks_of l.head → unit_in l.head l.groups m j ≡ unit_in l.head l.initial.groups m j;
}
