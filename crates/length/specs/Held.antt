-- The lists that raw tables and length roads hold, and what examining answers. Assumes nothing.
use Rattle.std.specs.Prelude.{ℕ, vec_items, Result, Vec}
use Rattle.std.specs.declared.alloc.Global.{Global}
use Rattle.network.specs.Refused.{answered}
use Rattle.network.specs.declared.refusals.Refusal.{Refusal}
use Rattle.network.specs.declared.returned.Returned.{Returned}
use Rattle.length.specs.Faults.{length_fault}
use Rattle.length.specs.declared.faults.LengthFault.{LengthFault}
use Rattle.length.specs.Metres.{table_refusal}
use Rattle.length.specs.Tables.{Tables}
use Rattle.length.specs.declared.roads.LengthRoads.{LengthRoads}
use Rattle.length.specs.declared.tables.LengthTables.{LengthTables}

-- four lists as tables
abbrev pub listed : (starts heads metres sites : Vec ℕ Global) → Tables
listed starts heads metres sites = record {
  starts = vec_items starts;
  heads = vec_items heads;
  metres = vec_items metres;
  sites = vec_items sites;
}

abbrev pub table_lists : LengthTables → Tables
table_lists t = listed t.starts t.heads t.metres t.sites

abbrev pub road_lists : LengthRoads → Tables
road_lists r = listed r.streets.starts r.streets.heads r.metres r.streets.sites

-- a refusal, with the tables handed back
abbrev pub handed_back : Returned LengthTables LengthFault → Refusal × Tables
handed_back r = (length_fault r.fault, table_lists r.value)

-- what examining answers: the tables, as roads where nothing refuses them
abbrev pub examined : Tables → Result Tables (Refusal × Tables)
examined t = answered t (table_refusal t)
