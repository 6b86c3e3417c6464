-- The least time that an arc takes in a segment of the day. Assumes nothing.
use Rattle.std.specs.Prelude.{ℕ, zero, suc, ◌+◌, ◌-◌, ◌&&◌, min, List, length, Option, nat_lt, slice_index}
use Rattle.std.specs.Option.{unwrap_or}
use Rattle.clock.specs.Model.{clock_carry}
use Rattle.clock.specs.Tables.{Tables}
use Rattle.network.specs.First.{provided}
use Rattle.least.specs.Segments.{segment_end}

-- how long an arc takes that is entered at t: arrival minus departure
abbrev pub travel_time : Tables → (a t : ℕ) → ℕ
travel_time roads a t = unwrap_or (clock_carry roads a t) 0 - t

-- the least of f at `from` and at the n numbers after it
unfoldable pub least_over : (ℕ → ℕ) → (from n : ℕ) → ℕ
least_over f from zero = f from
least_over f from (suc n) = min (least_over f from n) (f (from + suc n))

-- the least of an arc's travel times over every second of a segment
unfoldable pub least_in_segment : Tables → (firsts : List ℕ) → (s a : ℕ) → ℕ
least_in_segment roads firsts s a = least_over (travel_time roads a) (slice_index firsts s) (segment_end firsts s - 1 - slice_index firsts s)

-- the same where there are such a segment and such an arc, and nothing elsewhere
abbrev pub least_travel_time : Tables → (firsts : List ℕ) → (s a : ℕ) → Option ℕ
least_travel_time roads firsts s a = provided (nat_lt s (length firsts) && nat_lt a (length roads.heads)) (least_in_segment roads firsts s a)
