use Rattle.std.proofs.Common.{◌≡◌, ℕ, ◌<◌, List, None}
use Rattle.rows.specs.declared.entry.Entry.{Entry}
use Rattle.guided.specs.Indexed.{lists_of}
use Rattle.guided.specs.Offers.{segment_difference}
use Rattle.guided.specs.Loads.{RightRows}
use Rattle.guided.proofs.indexed.IndexedRoads.check_rows.Given as goal

abbrev pub invariant-loop-segment : goal.invariant-loop-segment
invariant-loop-segment l = let x = lists_of l.self in (rows : ℕ → ℕ → List Entry) → RightRows x rows → (i : ℕ) → i < l.segment → segment_difference x rows i ≡ None
