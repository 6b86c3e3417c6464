use Rattle.std.proofs.Common.{◌≡◌, ℕ, ◌<◌, [], length}
use Rattle.laying.specs.Search.{IsIdle, IsSized, rows_of, settled_of}
use Rattle.laying.proofs.search.Search.clear.Given as goal

-- the rows so far have no entry
abbrev pub invariant-loop-junction : goal.invariant-loop-junction
invariant-loop-junction l =
    IsSized (length l.initial.self.rows.items) l.self
    × (l.self.most ≡ l.initial.self.most)
    × ((v : ℕ) → v < l.junction → rows_of l.self v ≡ [])
    × ((v : ℕ) → settled_of l.self v ≡ 0)
    × IsIdle l.self
