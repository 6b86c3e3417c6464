-- The lists of roads with an index, as they are held. Assumes nothing.
use Rattle.std.specs.Prelude.{vec_items}
use Rattle.clock.specs.Held.{road_lists}
use Rattle.guided.specs.Lists.{Lists}
use Rattle.guided.specs.declared.indexed.IndexedRoads.{IndexedRoads}

-- the lists that they hold
abbrev pub lists_of : IndexedRoads → Lists
lists_of r = record {
  tables = road_lists r.roads;
  segments = vec_items r.segments;
  nearest = r.nearest;
  sites = vec_items r.sites;
  times = vec_items r.times;
}
