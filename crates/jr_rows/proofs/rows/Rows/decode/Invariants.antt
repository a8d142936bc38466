use Rattle.std.proofs.Common.{◌≡◌, ◌+◌, ◌-◌, ◌≤◌, length}
use Rattle.jr_rows.specs.Cursors.{IsCursorOf, mcus_to}
use Rattle.jr_rows.specs.MarkBytes.{HasMarkSpace, StoresMcus}
use Rattle.jr_rows.specs.Groups.{units_in}
use Rattle.jr_rows.specs.RowLines.{HasLines}
use Rattle.jr_rows.specs.Rows.{CountsMcus, ShowsFirstUnits}
use Rattle.jr_rows.proofs.rows.Rows.decode.Given as goal

abbrev pub invariant-parts : goal.invariant-parts
invariant-parts l =
    let t = l.fn.part.scan in
    let n = l.fn.part.limit in
    let from = mcus_to t.head l.initial.self.cursor in record {
      within : l.done ≤ l.coded;
      near : length l.blocks ≡ length l.initial.blocks;
      space : HasLines t.head l.lines;
      row : l.self.row ≡ l.initial.self.row;
      lies : IsCursorOf t l.self.cursor;
      moved : mcus_to t.head l.self.cursor ≡ from + l.done;
      shows : ShowsFirstUnits t n from l.done (units_in t.head l.lines.groups);
      counts : CountsMcus t n from (mcus_to t.head l.self.cursor) l.marked;
      places : HasMarkSpace t l.marks;
      stores : StoresMcus t n from (mcus_to t.head l.self.cursor) l.initial.marks l.marks;
    }

abbrev pub decreases-parts : goal.decreases-parts
decreases-parts l = l.coded - l.done
