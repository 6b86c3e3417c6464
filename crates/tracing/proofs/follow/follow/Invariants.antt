use Rattle.std.proofs.Common.{◌≡◌, ◌-◌, ◌<◌, ◌≤◌, length}
use Rattle.soonest.specs.Ways.{back}
use Rattle.tracing.specs.Traces.{way_in}
use Rattle.tracing.proofs.Backwards.{so_far}
use Rattle.tracing.proofs.follow.follow.Given as goal

abbrev pub invariant-loop-at : goal.invariant-loop-at
invariant-loop-at g l =
    let m = g.N.Network.roads l.network in
    (length l.trail.items ≤ l.most) × (l.at < m.junctions) × (so_far m (way_in l.ways) l.from l.trail.items (l.most - length l.trail.items) l.at ≡ back m (way_in l.ways) l.from l.most l.initial.at)

abbrev pub decreases-loop-at : goal.decreases-loop-at
decreases-loop-at g l = l.most - length l.trail.items
