use Rattle.std.proofs.Common.{◌≡◌, map}
use Rattle.std.specs.List.{range_with_len}
use Rattle.clock.specs.Held.{road_lists}
use Rattle.least.specs.Held.{day_firsts}
use Rattle.least.specs.Times.{least_in_segment}
use Rattle.laying.proofs.costs.Costs.of.Given as goal

-- the times of the arcs so far
abbrev pub invariant-loop-arc : goal.invariant-loop-arc
invariant-loop-arc l = l.list.items ≡ map (least_in_segment (road_lists l.roads) (day_firsts l.day) l.segment) (range_with_len 0 l.arc)
