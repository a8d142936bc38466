use Rattle.std.proofs.Common.{◌≡◌, ◌+◌, ◌-◌, ◌≤◌, length}
use Rattle.jr_rows.specs.Cursors.{IsCursorOf, mcus_to}
use Rattle.jr_rows.specs.MarkBytes.{HasMarkSpace, StoresMcus}
use Rattle.jr_rows.specs.Rows.{CountsMcus, ReturnsMcus}
use Rattle.jr_rows.proofs.intervals.read_mcus.Given as goal

abbrev pub invariant-intervals : goal.invariant-intervals
invariant-intervals l =
    let t = l.fn.part.scan in
    let n = l.fn.part.limit in
    let from = mcus_to t.head l.initial.cursor in record {
      within : l.done ≤ l.fn.mcus;
      long : length l.blocks ≡ length l.initial.blocks;
      lies : IsCursorOf t l.cursor;
      moved : mcus_to t.head l.cursor ≡ from + l.done;
      returned : ReturnsMcus t n from l.done l.blocks;
      counts : CountsMcus t n from (mcus_to t.head l.cursor) l.marked;
      places : HasMarkSpace t l.marks;
      stores : StoresMcus t n from (mcus_to t.head l.cursor) l.initial.marks l.marks;
    }

abbrev pub decreases-intervals : goal.decreases-intervals
decreases-intervals l = l.fn.mcus - l.done
