use Rattle.std.proofs.Common.{vec_items}
use Rattle.console.proofs.Driving.{Sofar}
use Rattle.console.proofs.drives.drive.Given as goal

abbrev pub invariant-loop-arc : goal.invariant-loop-arc
invariant-loop-arc g l = Sofar (g.N.Network.height l.network) (g.N.Network.roads l.network) l.initial.reading l.arcs (vec_items l.arrivals) l.reading l.arc-index
