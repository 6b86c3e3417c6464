use Rattle.std.proofs.Common.{◌-◌, ◌≤◌, ℕ}
use Rattle.finder.specs.Labels.{guidance, Becomes, Sized, SameSites}
use Rattle.network.specs.Sets.{has}
use Rattle.soonest.specs.Stages.{try_all}
use Rattle.finder.proofs.labels.Labels.try_arcs.Given as goal

abbrev pub invariant-loop-arc : goal.invariant-loop-arc
invariant-loop-arc g l =
    let m = g.G.Network.roads l.guide in
    let height = g.G.Network.height l.guide in
    (l.from ≤ m.arcs) × Sized m.junctions l.self × SameSites l.initial.self l.self × ((k : ℕ) → Becomes height (has l.wanted) (try_all (guidance m (g.G.Guide.guess l.guide)) k l.junction (height l.reading) l.from) l.initial.self l.self l.initial.ways l.ways)

abbrev pub decreases-loop-arc : goal.decreases-loop-arc
decreases-loop-arc g l = (g.G.Network.roads l.guide).arcs - l.from
