-- The lists that raw tables and guided roads hold. Assumes nothing.
use Rattle.std.specs.Prelude.{vec_items}
use Rattle.clock.specs.Held.{table_lists}
use Rattle.guided.specs.Indexed.{lists_of}
use Rattle.guided.specs.Lists.{Lists}
use Rattle.guided.specs.declared.raw.IndexTables.{IndexTables}
use Rattle.guided.specs.declared.roads.GuidedRoads.{GuidedRoads}

-- those of raw tables
abbrev pub index_lists : IndexTables → Lists
index_lists t = record {
  tables = table_lists t.tables;
  segments = vec_items t.segments;
  nearest = t.nearest;
  sites = vec_items t.sites;
  times = vec_items t.times;
}

-- those of guided roads
abbrev pub guided_lists : GuidedRoads → Lists
guided_lists r = lists_of r.indexed
