-- What clock tables are refused by. Assumes nothing.
use Rattle.std.specs.Prelude.{◌≡◌, ℕ, ◌+◌, ◌-◌, ◌<◌, ◌≤◌, Bool, true, cond, ◌&&◌, List, length, None, Option, ◌==◌, nat_le, nat_lt, slice_index, slice_index_or}
use Rattle.std.specs.Option.{option_or}
use Rattle.network.specs.First.{first_of, unless}
use Rattle.network.specs.Lists.{runs, arcs_refusal, sites_refusal}
use Rattle.network.specs.Refused.{refusal}
use Rattle.network.specs.declared.refusals.Places.TheVariants.{Call, Two}
use Rattle.network.specs.declared.refusals.Refusal.{Refusal}
use Rattle.clock.specs.Tables.{Tables}

-- one point start for each arc and one more, from 0 to the count of points in steps of at least 2, and as many
-- arrivals as departures, at most 65,536
unfoldable pub cut : (arcs : ℕ) (points departures arrivals : List ℕ) → Bool
cut arcs points departures arrivals = length points == arcs + 1 && runs points 2 (length departures) && length arrivals == length departures && nat_le (length departures) 65536

-- of the points of one arc, from place `first` to before `end`: the departures rise from 0 to 86,400
unfoldable pub departs : (departures : List ℕ) (first end p : ℕ) → Bool
departs departures first end p =
    nat_le (slice_index departures p) 86400 && cond (p == first) (slice_index departures p == 0) (nat_lt (slice_index departures (p - 1)) (slice_index departures p)) && cond (p + 1 == end) (nat_le 86400 (slice_index departures p)) true

-- an arrival is at least its departure plus 1 and at most 172,800
unfoldable pub arrives : (departures arrivals : List ℕ) (p : ℕ) → Bool
arrives departures arrivals p = nat_le (slice_index departures p + 1) (slice_index arrivals p) && nat_le (slice_index arrivals p) 172800

-- an arrival is not below the arrival before it in its arc
unfoldable pub kept : (arrivals : List ℕ) (first p : ℕ) → Bool
kept arrivals first p = cond (p == first) true (nat_le (slice_index arrivals (p - 1)) (slice_index arrivals p))

-- what one point of an arc is refused by, if anything
unfoldable pub point_refusal : (departures arrivals : List ℕ) (arc first end p : ℕ) → Option Refusal
point_refusal departures arrivals arc first end p =
    option_or (unless (departs departures first end p) (refusal 5 (Two arc p)))
    (option_or (unless (arrives departures arrivals p) (refusal 6 (Two arc p)))
    (unless (kept arrivals first p) (refusal 7 (Two arc p))))

-- the points of one arc, in turn
unfoldable pub arc_refusal : (points departures arrivals : List ℕ) → ℕ → Option Refusal
arc_refusal points departures arrivals arc =
    first_of (λ j. point_refusal departures arrivals arc (slice_index points arc) (slice_index points (arc + 1)) (slice_index points arc + j)) (slice_index points (arc + 1) - slice_index points arc)

-- what the points of all arcs are refused by, if anything
unfoldable pub points_refusal : (arcs : ℕ) (points departures arrivals : List ℕ) → Option Refusal
points_refusal arcs points departures arrivals =
    option_or (unless (cut arcs points departures arrivals) (refusal 4 Call)) (first_of (arc_refusal points departures arrivals) arcs)

-- what clock tables are refused by, if anything: arcs, then points, then sites
unfoldable pub table_refusal : Tables → Option Refusal
table_refusal t =
    option_or (arcs_refusal t.starts t.heads)
    (option_or (points_refusal (length t.heads) t.points t.departures t.arrivals)
    (sites_refusal (length t.starts - 1) t.sites))

-- an arc whose points can be entered: they stand within the lists, and none is refused
pub record Open (points departures arrivals : List ℕ) (arc : ℕ) : Type 0 where
  pub inside : arc + 1 < length points
  pub two : slice_index_or points arc 0 + 2 ≤ slice_index points (arc + 1)
  pub within : slice_index_or points (arc + 1) 0 ≤ length departures
  pub alike : length arrivals ≡ length departures
  pub sound : arc_refusal points departures arrivals arc ≡ None
