use Rattle.std.proofs.Common.{◌≡◌, ℕ, ◌<◌, None}
use Rattle.clock.specs.Points.{arc_refusal}
use Rattle.clock.proofs.points.Points.check.Given as goal

abbrev pub invariant-loop-arc : goal.invariant-loop-arc
invariant-loop-arc l = (a : ℕ) → a < l.arc → arc_refusal l.self.starts.now l.self.departures.now l.self.arrivals.now a ≡ None
