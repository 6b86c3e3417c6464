use Rattle.std.proofs.Common.{◌≡◌, ℕ, ◌≤◌}
use Rattle.rows.specs.Index.{entry_at}
use Rattle.laying.specs.Costs.{cost_by}
use Rattle.laying.specs.Incoming.{last_into}
use Rattle.laying.specs.Search.{IsQueued, IsSized, rows_of, settled_of}
use Rattle.laying.proofs.Linking.{up_to}
use Rattle.laying.proofs.Settlings.{IsRelaxing}
use Rattle.laying.proofs.search.Search.settle.Given as goal

-- the entry is relaxed along the arcs so far, and stays where it is
abbrev pub invariant-loop-next : goal.invariant-loop-next
invariant-loop-next g l =
    let m = g.N.Network.roads l.roads in
    IsSized m.junctions l.self
    × (l.self.most ≡ l.initial.self.most)
    × (l.self.settled ≡ l.initial.self.settled)
    × (entry_at (rows_of l.self l.junction) l.settled ≡ l.entry)
    × IsQueued l.self
    × ((b : ℕ) × (b ≤ m.arcs) × (l.next ≡ last_into m.head l.junction b) × IsRelaxing m (cost_by l.costs) l.self.most 172800 (rows_of l.self) (settled_of l.self) l.junction b)

-- how many arcs there are up to the next
abbrev pub decreases-loop-next : goal.decreases-loop-next
decreases-loop-next g l = up_to l.next
