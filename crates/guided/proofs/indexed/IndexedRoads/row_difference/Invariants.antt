use Rattle.std.proofs.Common.{◌≡◌, ℕ, ◌<◌, None}
use Rattle.guided.specs.Indexed.{lists_of}
use Rattle.guided.proofs.Differences.{entry_difference}
use Rattle.guided.proofs.indexed.IndexedRoads.row_difference.Given as goal

abbrev pub invariant-loop-entry : goal.invariant-loop-entry
invariant-loop-entry l = (r : ℕ) → r < l.entry → entry_difference (lists_of l.self) l.segment l.junction l.right r ≡ None
