-- The depot that is built in: four junctions, four arcs, two sites. Assumes nothing.
use Rattle.std.specs.Prelude.{ℕ, List, [], ◌∷◌}
use Rattle.clock.specs.Tables.{Tables}
use Rattle.console.specs.Kinds.{clock_tables}
use Rattle.depot.specs.Depots.{Lists}

-- its lists, with so many entries kept in the index and a board of this number
abbrev pub four_with : (nearest board : ℕ) → Lists
four_with nearest board = record {
  arc_starts = 0 ∷ 2 ∷ 3 ∷ 4 ∷ 4 ∷ [];
  heads = 1 ∷ 2 ∷ 3 ∷ 1 ∷ [];
  point_starts = 0 ∷ 2 ∷ 4 ∷ 6 ∷ 11 ∷ [];
  departures = 0 ∷ 86400 ∷ 0 ∷ 86400 ∷ 0 ∷ 86400 ∷ 0 ∷ 28800 ∷ 32400 ∷ 82800 ∷ 86400 ∷ [];
  arrivals = 300 ∷ 86700 ∷ 100 ∷ 86500 ∷ 50 ∷ 86450 ∷ 100 ∷ 28900 ∷ 33100 ∷ 83500 ∷ 86500 ∷ [];
  sites = 1 ∷ 3 ∷ [];
  metres = 900 ∷ 400 ∷ 100 ∷ 500 ∷ [];
  segments = 0 ∷ 32400 ∷ 82800 ∷ [];
  nearest = nearest;
  bays = 2 ∷ 1 ∷ [];
  board = board;
}

abbrev pub four_junctions : Lists
four_junctions = four_with 2 1

-- its clock tables
abbrev pub town : Tables
town = clock_tables four_junctions

-- one arc from junction 0 to junction 1 with three points
abbrev pub one_arc : (departures arrivals : List ℕ) → Tables
one_arc departures arrivals = record {
  starts = 0 ∷ 1 ∷ 1 ∷ [];
  heads = 1 ∷ [];
  points = 0 ∷ 3 ∷ [];
  departures = departures;
  arrivals = arrivals;
  sites = [];
}
