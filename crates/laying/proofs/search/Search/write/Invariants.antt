use Rattle.std.proofs.Common.{ℕ, ◌<◌}
use Rattle.rows.specs.Index.{place_at}
use Rattle.laying.specs.Search.{rows_of}
use Rattle.laying.specs.Places.{Stands, SameOutside}
use Rattle.laying.proofs.search.Search.write.Given as goal

-- the rows of the junctions so far stand in their places, and nothing else has changed
abbrev pub invariant-loop-junction : goal.invariant-loop-junction
invariant-loop-junction l =
    ((v : ℕ) → v < l.junction → Stands (rows_of l.self v) l.self.most (place_at l.junctions l.self.most l.segment v 0) l.sites l.times)
    × SameOutside (place_at l.junctions l.self.most l.segment 0 0) (place_at l.junctions l.self.most l.segment l.junction 0) l.initial.sites l.initial.times l.sites l.times
