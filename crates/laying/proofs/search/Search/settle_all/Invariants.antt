use Rattle.std.proofs.Common.{◌≡◌, ◌-◌, ◌*◌}
use Rattle.laying.specs.Costs.{cost_by}
use Rattle.laying.specs.Search.{IsQueued, IsSized, rows_of, settled_of}
use Rattle.laying.specs.Settling.{IsAtRest}
use Rattle.laying.proofs.Tallies.{settled_below}
use Rattle.laying.proofs.search.Search.settle_all.Given as goal

-- all that is settled was relaxed
abbrev pub invariant-loop-key : goal.invariant-loop-key
invariant-loop-key g l =
    let m = g.N.Network.roads l.roads in
    IsSized m.junctions l.self
    × (l.self.most ≡ l.initial.self.most)
    × IsAtRest m (cost_by l.costs) l.self.most 172800 (rows_of l.self) (settled_of l.self)
    × IsQueued l.self

-- how many entries could still be settled
abbrev pub decreases-loop-key : goal.decreases-loop-key
decreases-loop-key g l = (g.N.Network.roads l.roads).junctions * l.self.most - settled_below (settled_of l.self) (g.N.Network.roads l.roads).junctions
