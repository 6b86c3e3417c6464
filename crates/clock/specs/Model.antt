-- Clock roads as a network: a reading is 0 to 172,800 seconds and its own height. Assumes nothing.
use Rattle.std.specs.Prelude.{ℕ, ◌+◌, ◌-◌, cond, ◌&&◌, length, None, Option, nat_le, nat_lt, slice_index}
use Rattle.network.specs.Estimates.{Estimate, reading_itself}
use Rattle.network.specs.First.{provided}
use Rattle.network.specs.Lists.{on_streets}
use Rattle.network.specs.Model.{Roads}
use Rattle.clock.specs.Arrivals.{entered}
use Rattle.clock.specs.Tables.{Tables}

-- above 86,400 nothing is carried
unfoldable pub clock_carry : Tables → ℕ → ℕ → Option ℕ
clock_carry t a h = cond (nat_lt a (length t.heads) && nat_le h 86400) (entered t.departures t.arrivals (slice_index t.points a) (slice_index t.points (a + 1) - slice_index t.points a) h) None

abbrev pub clock_roads : Tables → Roads
clock_roads t = on_streets t.starts t.heads t.sites (λ h. nat_le h 172800) (λ n. provided (nat_le n 86400) n) (clock_carry t) (λ u h. provided (nat_le (h + u) 172800) (h + u))

-- bare clock roads estimate the reading itself
abbrev pub clock_estimate : Tables → Estimate
clock_estimate t = reading_itself (clock_roads t)
