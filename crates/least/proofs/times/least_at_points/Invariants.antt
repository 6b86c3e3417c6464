use Rattle.std.proofs.Common.{length}
use Rattle.least.specs.Points.{LeastAtPoints}
use Rattle.least.proofs.times.least_at_points.Given as goal

abbrev pub invariant-loop-departure : goal.invariant-loop-departure
invariant-loop-departure l = LeastAtPoints l.departures l.arrivals l.first l.last l.start (length l.yielded) l.least
