-- The lists of clock roads. Junction v's arcs run from arc start v to before arc start v + 1, and arc a's points from
-- point start a to before point start a + 1. Assumes nothing.
use Rattle.std.specs.Prelude.{ℕ, ◌+◌, List, [], cond, length, nat_lt, slice_index, slice_range}

pub record Tables : Type 0 where
  pub starts : List ℕ
  pub heads : List ℕ
  pub points : List ℕ
  pub departures : List ℕ
  pub arrivals : List ℕ
  pub sites : List ℕ

-- an arc's own part of a list of points; none where there is no such arc
abbrev pub own_points : Tables → List ℕ → ℕ → List ℕ
own_points t list a = cond (nat_lt a (length t.heads)) (slice_range list (slice_index t.points a) (slice_index t.points (a + 1))) []
