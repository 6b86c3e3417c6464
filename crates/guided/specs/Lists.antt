-- The lists of clock roads with an index, and what they say. Assumes nothing.
use Rattle.std.specs.Prelude.{ℕ, ◌+◌, ◌&&◌, List, length, Option, nat_lt, slice_range}
use Rattle.clock.specs.Model.{clock_roads}
use Rattle.clock.specs.Tables.{Tables}
use Rattle.least.specs.Segments.{segment_at, segment_end}
use Rattle.least.specs.Times.{least_in_segment}
use Rattle.network.specs.Estimates.{Estimate}
use Rattle.network.specs.First.{provided}
use Rattle.network.specs.Model.{Roads}
use Rattle.rows.specs.Guided.{guided_estimate}
use Rattle.rows.specs.Index.{LeastIndex, first_difference, place_at, row_in}
use Rattle.rows.specs.declared.entry.Entry.{Entry}

-- The tables of clock roads, the first seconds of the day's segments, how many entries the index keeps for each junction of
-- each segment, and the index: the entries' sites and times.
pub record Lists : Type 0 where
  pub tables : Tables
  pub segments : List ℕ
  pub nearest : ℕ
  pub sites : List ℕ
  pub times : List ℕ

-- the network of the tables
abbrev pub network_of : Lists → Roads
network_of x = clock_roads x.tables

-- the least time of each arc in a segment
abbrev pub arc_times : Lists → ℕ → ℕ → ℕ
arc_times x i = least_in_segment x.tables x.segments i

-- the row of a junction in a segment
abbrev pub row_of : Lists → ℕ → ℕ → List Entry
row_of x = row_in (network_of x).junctions x.nearest x.sites x.times

-- whether the sites and times are the index of least times
abbrev pub HoldsIndex : Lists → Type 0
HoldsIndex x = LeastIndex (network_of x) (length x.segments) x.nearest (arc_times x) x.sites x.times

-- where the index differs from rows, if anywhere
abbrev pub difference_from : Lists → (ℕ → ℕ → List Entry) → Option (ℕ × ℕ × ℕ)
difference_from x rows = first_difference (length x.segments) (network_of x).junctions x.nearest rows x.sites x.times

-- the estimate by the index
abbrev pub index_estimate : Lists → Estimate
index_estimate x = guided_estimate (network_of x) (segment_at x.segments) (segment_end x.segments) x.nearest (row_of x)

-- n entries of two lists from a place on: their sites and their times
abbrev pub part_at : (sites times : List ℕ) → (n p : ℕ) → List ℕ × List ℕ
part_at sites times n p = (slice_range sites p (p + n), slice_range times p (p + n))

-- a row as it stands in the lists, if there are such a segment and such a junction
abbrev pub row_lists : Lists → (i v : ℕ) → Option (List ℕ × List ℕ)
row_lists x i v = provided (nat_lt i (length x.segments) && nat_lt v (network_of x).junctions) (part_at x.sites x.times x.nearest (place_at (network_of x).junctions x.nearest i v 0))
