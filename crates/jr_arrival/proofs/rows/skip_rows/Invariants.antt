use Rattle.std.proofs.Common.{◌≡◌, ◌+◌, ◌-◌, ◌≤◌}
use Rattle.jr_head.specs.Geometry.{mcus_across}
use Rattle.jr_arrival.proofs.BetweenRows.{HasCome}
use Rattle.jr_arrival.proofs.rows.skip_rows.Given as goal

abbrev pub invariant-rows : goal.invariant-rows
invariant-rows l = record {
  come : HasCome l.head l.file l.place l.next l.source;
  space : l.skipped.across ≡ mcus_across l.head;
  few : l.next.row ≤ l.place.row + l.most;
}

abbrev pub decreases-rows : goal.decreases-rows
decreases-rows l = l.place.row + l.most - l.next.row
