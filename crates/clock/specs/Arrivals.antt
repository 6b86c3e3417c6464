-- Arrivals along an arc through the day. Assumes nothing.
use Rattle.std.specs.Prelude.{ℕ, ◌+◌, ◌-◌, ◌*◌, ◌/◌, List, Option, nat_le, slice_index}
use Rattle.network.specs.First.{first_of, provided}

-- entering at t between the points (d, a) and (e, b), the fraction dropped
abbrev pub between : (d a e b t : ℕ) → ℕ
between d a e b t = a + (t - d) * (b - a) / (e - d)

-- entering at t by the pair of points at p and p + 1
abbrev pub by_pair : (departures arrivals : List ℕ) (p t : ℕ) → ℕ
by_pair departures arrivals p t = between (slice_index departures p) (slice_index arrivals p) (slice_index departures (p + 1)) (slice_index arrivals (p + 1)) t

-- entering at t an arc with so many points from `first` on: by the first pair whose second departure t does not pass
unfoldable pub entered : (departures arrivals : List ℕ) (first count t : ℕ) → Option ℕ
entered departures arrivals first count t =
    first_of (λ i. provided (nat_le t (slice_index departures (first + i + 1))) (by_pair departures arrivals (first + i) t)) (count - 1)
