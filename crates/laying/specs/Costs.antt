-- The least times of all arcs in one segment of the day. Assumes nothing.
use Rattle.std.specs.Prelude.{◌≡◌, ℕ, ◌<◌, ◌≤◌, Bool, ◌&&◌, List, length, map, Option, nat_le, nat_lt, slice_index}
use Rattle.std.specs.List.{range_with_len}
use Rattle.clock.specs.Tables.{Tables}
use Rattle.least.specs.Times.{least_in_segment}
use Rattle.network.specs.First.{every, provided}

-- whether all times are 1 to 172,800
unfoldable pub costs_within : List ℕ → Bool
costs_within list = every (λ a. nat_le 1 (slice_index list a) && nat_le (slice_index list a) 172800) (length list)

-- an arc's time, of those in a list
abbrev pub cost_by : List ℕ → ℕ → ℕ
cost_by costs a = slice_index costs a

-- each arc's least time, where there is such a segment
abbrev pub costs_of : Tables → (firsts : List ℕ) → (segment : ℕ) → Option (List ℕ)
costs_of roads firsts segment = provided (nat_lt segment (length firsts)) (map (least_in_segment roads firsts segment) (range_with_len 0 (length roads.heads)))

-- times for so many arcs, each 1 to 172,800
pub record TimesWithin (n : ℕ) (costs : List ℕ) : Type 0 where
  pub long : length costs ≡ n
  pub within : (a : ℕ) → a < n → (1 ≤ slice_index costs a) × (slice_index costs a ≤ 172800)
