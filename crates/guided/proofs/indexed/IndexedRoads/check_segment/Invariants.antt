use Rattle.std.proofs.Common.{◌≡◌, ℕ, ◌<◌, List, None}
use Rattle.rows.specs.declared.entry.Entry.{Entry}
use Rattle.guided.specs.Indexed.{lists_of}
use Rattle.guided.specs.Offers.{row_difference}
use Rattle.guided.specs.Loads.{RightRows}
use Rattle.guided.proofs.indexed.IndexedRoads.check_segment.Given as goal

abbrev pub invariant-loop-junction : goal.invariant-loop-junction
invariant-loop-junction l = let x = lists_of l.self in (rows : ℕ → ℕ → List Entry) → RightRows x rows → (v : ℕ) → v < l.junction → row_difference x l.segment v (rows l.segment v) ≡ None
