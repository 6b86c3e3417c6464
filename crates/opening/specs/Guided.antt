-- Guided roads of a depot: its clock tables, its segments, and the index of so many entries that is laid for them. Assumes nothing.
use Rattle.std.specs.Prelude.{◌≡◌, ℕ, ◌&&◌, List, length, None, Option, nat_le}
use Rattle.std.specs.Option.{option_or}
use Rattle.clock.specs.Points.{table_refusal}
use Rattle.depot.specs.Depots.{Lists}
use Rattle.guided.specs.Lists as guideds
use Rattle.guided.specs.Lists.{network_of, arc_times}
use Rattle.guided.specs.Loads.{early_refusal}
use Rattle.least.specs.Segments.{day_refusal}
use Rattle.network.specs.First.{unless}
use Rattle.network.specs.Refused.{refusal}
use Rattle.network.specs.declared.refusals.Places.TheVariants.{Call}
use Rattle.network.specs.declared.refusals.Refusal.{Refusal}
use Rattle.rows.specs.Index.{LeastIndex}
use Rattle.console.specs.Kinds.{clock_tables}

-- what an index is refused by, if anything: segments that cut no day, then entries that are not 1 to 8
abbrev pub index_refusal : (firsts : List ℕ) → (nearest : ℕ) → Option Refusal
index_refusal firsts nearest = option_or (day_refusal firsts) (unless (nat_le 1 nearest && nat_le nearest 8) (refusal 10 Call))

-- what a depot's guided roads are refused by, if anything: first its clock tables
abbrev pub guided_refusal : Lists → Option Refusal
guided_refusal d = option_or (table_refusal (clock_tables d)) (index_refusal d.segments d.nearest)

-- lists of guided roads that have what a depot says
pub record OfDepot (d : Lists) (x : guideds.Lists) : Type 0 where
  pub tables : x.tables ≡ clock_tables d
  pub segments : x.segments ≡ d.segments
  pub nearest : x.nearest ≡ d.nearest

-- they have the index of least times too, and loading refuses nothing before it looks at it
pub record Laid (d : Lists) (x : guideds.Lists) (room : ℕ) : Type 0 where
  pub of_depot : OfDepot d x
  pub quiet : early_refusal x room ≡ None
  pub index : LeastIndex (network_of x) (length x.segments) x.nearest (arc_times x) x.sites x.times
