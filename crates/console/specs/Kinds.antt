-- The tables of each kind of roads, among the lists of a depot. Assumes nothing.
use Rattle.clock.specs.Tables as clocks
use Rattle.length.specs.Tables as lengths
use Rattle.depot.specs.Depots.{Lists}

abbrev pub clock_tables : Lists → clocks.Tables
clock_tables d = record {
  starts = d.arc_starts;
  heads = d.heads;
  points = d.point_starts;
  departures = d.departures;
  arrivals = d.arrivals;
  sites = d.sites;
}

abbrev pub length_tables : Lists → lengths.Tables
length_tables d = record {
  starts = d.arc_starts;
  heads = d.heads;
  metres = d.metres;
  sites = d.sites;
}
