use Rattle.std.proofs.Common.{◌≡◌, ◌≢◌, ℕ, ◌<◌, None}
use Rattle.jr_head.specs.Geometry.{blocks_of, mcus_across}
use Rattle.jr_rows.specs.Bands.{unit_shown_of}
use Rattle.jr_rows.specs.Groups.{unit_in}
use Rattle.jr_rows.specs.RowLines.{HasGroups}
use Rattle.jr_rows.proofs.row_lines.blank_mcu.Given as goal

abbrev pub invariant-loop-j : goal.invariant-loop-j
invariant-loop-j l = record {
  space : HasGroups l.head l.across l.groups;
  here : (i : ℕ) → i < l.j → unit_in l.head l.groups l.mcu i ≡ unit_shown_of l.head i None 0;
  others : (m i : ℕ) → m < mcus_across l.head → i < blocks_of l.head → m ≢ l.mcu → unit_in l.head l.groups m i ≡ unit_in l.head l.initial.groups m i;
}
