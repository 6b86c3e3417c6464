-- A reading of length roads: metres, then arcs passed, compared in that order. Assumes nothing.
use Rattle.std.specs.Prelude.{ℕ, ◌+◌, ◌*◌, ◌/◌, ◌%◌, min, cond, List, length, None, Option, nat_le, nat_lt, slice_index}
use Rattle.std.specs.Option.{option_map}
use Rattle.network.specs.First.{provided}

abbrev pub Reading : Type 0
Reading = ℕ × ℕ

-- its height, and the reading of a height
abbrev pub height_of : Reading → ℕ
height_of r = r.0 * 65536 + r.1

abbrev pub reading_of : ℕ → Reading
reading_of h = (h / 65536, h % 65536)

-- longer by some metres, and nothing above 4,000,000,000
abbrev pub longer : ℕ → Reading → Option Reading
longer u r = provided (nat_le (r.0 + u) 4000000000) (r.0 + u, r.1)

-- one arc more; the count stays at 65,535 once there
abbrev pub one_more : Reading → Reading
one_more r = (r.0, min (r.1 + 1) 65535)

-- along an arc: its metres and one arc more, under the same ceiling
abbrev pub carried : (metres : List ℕ) → ℕ → Reading → Option Reading
carried metres a r = cond (nat_lt a (length metres)) (longer (slice_index metres a) (one_more r)) None

-- the same by heights
unfoldable pub by_heights : (Reading → Option Reading) → ℕ → Option ℕ
by_heights f h = option_map height_of (f (reading_of h))
