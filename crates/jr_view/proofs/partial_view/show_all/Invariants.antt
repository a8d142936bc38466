use Rattle.std.proofs.Common.{◌≢◌, ℕ, ◌-◌, ◌^◌, ◌≤◌, List, []}
use Rattle.jr_arrival.specs.PartialFile.{given_of}
use Rattle.jr_view.specs.PartialViews.{IsSeen, KeepsLines, view_of}
use Rattle.jr_view.proofs.partial_view.show_all.Given as goal

abbrev pub invariant-rows : goal.invariant-rows
invariant-rows l = record {
  some : l.pixels ≢ [];
  seen : (bytes : List ℕ) → IsSeen (view_of l.initial.partial_file l.initial.pixels l.initial.row) bytes → IsSeen (view_of l.partial_file l.pixels l.row) bytes;
  lines : given_of l.initial.partial_file.partial_image ≤ given_of l.partial_file.partial_image;
  kept : KeepsLines (view_of l.initial.partial_file l.initial.pixels l.initial.row) (view_of l.partial_file l.pixels l.row);
}

abbrev pub decreases-rows : goal.decreases-rows
decreases-rows l = 2 ^ 32 - given_of l.partial_file.partial_image
