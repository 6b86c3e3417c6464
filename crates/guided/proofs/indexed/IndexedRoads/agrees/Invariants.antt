use Rattle.std.proofs.Common.{◌≡◌, ℕ, ◌<◌, None}
use Rattle.guided.specs.Indexed.{lists_of}
use Rattle.guided.specs.Offers.{offered_of, row_difference, segment_difference}
use Rattle.guided.proofs.indexed.IndexedRoads.agrees.Given as goal

abbrev pub invariant-loop-segment : goal.invariant-loop-segment
invariant-loop-segment l = let x = lists_of l.self in (i : ℕ) → i < l.segment → segment_difference x (offered_of x) i ≡ None

abbrev pub invariant-loop-junction : goal.invariant-loop-junction
invariant-loop-junction l = let x = lists_of l.self in (v : ℕ) → v < l.junction → row_difference x l.segment v (offered_of x l.segment v) ≡ None
