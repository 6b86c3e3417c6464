-- Where lists differ from what they offer themselves, by which the index of least times is told in one pass. Assumes nothing.
use Rattle.std.specs.Prelude.{ℕ, List, Option}
use Rattle.network.specs.First.{first_of, unless}
use Rattle.rows.specs.Index.{entry_at, listed_at, place_at, same}
use Rattle.rows.specs.Offering.{offered_row}
use Rattle.rows.specs.declared.entry.Entry.{Entry}
use Rattle.guided.specs.Lists.{Lists, network_of, arc_times, row_of, difference_from}

-- the row of what the rows at the heads of a junction's arcs offer there
abbrev pub offered_of : Lists → ℕ → ℕ → List Entry
offered_of x i v = offered_row (network_of x) (arc_times x i) x.nearest (row_of x i) v

-- Where the index differs from what its own rows offer: nowhere in the index of least times, and somewhere in all other lists.
unfoldable pub own_difference : Lists → Option (ℕ × ℕ × ℕ)
own_difference x = difference_from x (offered_of x)

-- where a row of the index differs from another row, if anywhere
abbrev pub row_difference : Lists → (i v : ℕ) → List Entry → Option (ℕ × ℕ × ℕ)
row_difference x i v row = first_of (λ r. unless (same (listed_at x.sites x.times (place_at (network_of x).junctions x.nearest i v r)) (entry_at row r)) (i, v, r)) x.nearest

-- where the rows of one segment differ from others, if anywhere
abbrev pub segment_difference : Lists → (ℕ → ℕ → List Entry) → (i : ℕ) → Option (ℕ × ℕ × ℕ)
segment_difference x rows i = first_of (λ v. row_difference x i v (rows i v)) (network_of x).junctions
