-- Length roads as a network. Assumes nothing.
use Rattle.std.specs.Prelude.{◌/◌, nat_le}
use Rattle.network.specs.Estimates.{Estimate, reading_itself}
use Rattle.network.specs.First.{provided}
use Rattle.network.specs.Lists.{on_streets}
use Rattle.network.specs.Model.{Roads}
use Rattle.length.specs.Readings.{height_of, longer, carried, by_heights}
use Rattle.length.specs.Tables.{Tables}

-- a start number is metres with no arc passed
abbrev pub length_roads : Tables → Roads
length_roads t = on_streets t.starts t.heads t.sites (λ h. nat_le (h / 65536) 4000000000) (λ n. provided (nat_le n 1000000) (height_of (n, 0))) (λ a h. by_heights (carried t.metres a) h) (λ u h. by_heights (longer u) h)

-- length roads estimate the reading itself
abbrev pub length_estimate : Tables → Estimate
length_estimate t = reading_itself (length_roads t)
