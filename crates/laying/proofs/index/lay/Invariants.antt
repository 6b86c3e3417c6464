use Rattle.std.proofs.Common.{◌≡◌}
use Rattle.clock.specs.Held.{road_lists}
use Rattle.clock.specs.Model.{clock_roads}
use Rattle.least.specs.Held.{day_firsts}
use Rattle.least.specs.Times.{least_in_segment}
use Rattle.laying.specs.Search.{IsIdle, IsSized}
use Rattle.laying.proofs.Layouts.{LaidBelow}
use Rattle.laying.proofs.index.lay.Given as goal

-- the rows of the segments so far stand in their places
abbrev pub invariant-loop-segment : goal.invariant-loop-segment
invariant-loop-segment l =
    let m = clock_roads (road_lists l.roads) in
    IsSized m.junctions l.search
    × (l.search.most ≡ l.most)
    × IsIdle l.search
    × LaidBelow m l.most (least_in_segment (road_lists l.roads) (day_firsts l.day)) l.segment l.sites l.times
