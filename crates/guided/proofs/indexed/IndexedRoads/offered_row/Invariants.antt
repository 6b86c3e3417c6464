use Rattle.std.proofs.Common.{◌≡◌, ◌-◌, ◌≤◌}
use Rattle.rows.specs.Offering.{offer_arcs}
use Rattle.guided.specs.Indexed.{lists_of}
use Rattle.guided.specs.Lists.{network_of, arc_times, row_of}
use Rattle.guided.proofs.indexed.IndexedRoads.offered_row.Given as goal

abbrev pub invariant-loop-arc : goal.invariant-loop-arc
invariant-loop-arc l =
    let x = lists_of l.self in
    (l.from ≤ (network_of x).arcs) × (l.row.most ≡ x.nearest) × (l.row.entries.items ≡ offer_arcs (network_of x) (arc_times x l.segment) x.nearest (row_of x l.segment) l.junction l.from)

abbrev pub decreases-loop-arc : goal.decreases-loop-arc
decreases-loop-arc l = (network_of (lists_of l.self)).arcs - l.from
