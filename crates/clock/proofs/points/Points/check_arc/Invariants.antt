use Rattle.std.proofs.Common.{◌≡◌, ℕ, ◌<◌, ◌≤◌, None}
use Rattle.clock.specs.Points.{point_refusal}
use Rattle.clock.proofs.points.Points.check_arc.Given as goal

abbrev pub invariant-loop-place : goal.invariant-loop-place
invariant-loop-place l = (p : ℕ) → l.first ≤ p → p < l.place → point_refusal l.self.departures.now l.self.arrivals.now l.arc l.first l.end p ≡ None
