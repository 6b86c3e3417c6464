-- The lists that raw tables and clock roads hold, and what examining answers. Assumes nothing.
use Rattle.std.specs.Prelude.{ℕ, vec_items, Result, Vec}
use Rattle.std.specs.declared.alloc.Global.{Global}
use Rattle.network.specs.declared.lists.Streets.{Streets}
use Rattle.network.specs.Refused.{answered}
use Rattle.network.specs.declared.refusals.Refusal.{Refusal}
use Rattle.network.specs.declared.returned.Returned.{Returned}
use Rattle.clock.specs.Faults.{table_fault}
use Rattle.clock.specs.declared.faults.TableFault.{TableFault}
use Rattle.clock.specs.Points.{table_refusal}
use Rattle.clock.specs.Tables.{Tables}
use Rattle.clock.specs.declared.roads.ClockRoads.{ClockRoads}
use Rattle.clock.specs.declared.tables.ClockTables.{ClockTables}

abbrev pub table_lists : ClockTables → Tables
table_lists t = record {
  starts = vec_items t.starts;
  heads = vec_items t.heads;
  points = vec_items t.points;
  departures = vec_items t.departures;
  arrivals = vec_items t.arrivals;
  sites = vec_items t.sites;
}

-- streets and points together
abbrev pub held : Streets → (points departures arrivals : Vec ℕ Global) → Tables
held s points departures arrivals = record {
  starts = vec_items s.starts;
  heads = vec_items s.heads;
  points = vec_items points;
  departures = vec_items departures;
  arrivals = vec_items arrivals;
  sites = vec_items s.sites;
}

abbrev pub road_lists : ClockRoads → Tables
road_lists r = held r.streets r.points r.departures r.arrivals

-- a refusal, with the tables handed back
abbrev pub handed_back : Returned ClockTables TableFault → Refusal × Tables
handed_back r = (table_fault r.fault, table_lists r.value)

-- what examining answers: the tables, as roads where nothing refuses them
abbrev pub examined : Tables → Result Tables (Refusal × Tables)
examined t = answered t (table_refusal t)
