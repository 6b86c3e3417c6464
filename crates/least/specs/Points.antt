-- What a walk over an arc's points finds. Assumes nothing.
use Rattle.std.specs.Prelude.{◌≡◌, ℕ, ◌-◌, ◌<◌, ◌≤◌, ◌⊎◌, List, slice_index}

-- the least of `start` and of what those of the first n points take that depart from `first` to `last`
pub record LeastAtPoints (departures arrivals : List ℕ) (first last start n least : ℕ) : Type 0 where
  pub met : (least ≡ start) ⊎ ((k : ℕ) × (k < n) × (first ≤ slice_index departures k) × (slice_index departures k ≤ last) × (least ≡ slice_index arrivals k - slice_index departures k))
  pub start_not_less : least ≤ start
  pub points_not_less : (k : ℕ) → k < n → first ≤ slice_index departures k → slice_index departures k ≤ last → least ≤ slice_index arrivals k - slice_index departures k
