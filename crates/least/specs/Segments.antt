-- The day cut into segments, given by their first seconds. Assumes nothing.
use Rattle.std.specs.Prelude.{ℕ, ◌+◌, ◌-◌, Bool, ◌&&◌, List, length, Option, ◌==◌, nat_le, nat_lt, slice_index, slice_index_or}
use Rattle.network.specs.First.{first_of, every, unless, provided}
use Rattle.network.specs.Refused.{refusal}
use Rattle.network.specs.declared.refusals.Places.TheVariants.{Call}
use Rattle.network.specs.declared.refusals.Refusal.{Refusal}

-- whether seconds cut a day: 1 to 8 of them, from 0, rising strictly, none past 86,400
unfoldable pub cuts_day : List ℕ → Bool
cuts_day firsts = nat_le 1 (length firsts) && nat_le (length firsts) 8 && slice_index firsts 0 == 0 && every (λ s. nat_lt (slice_index firsts s) (slice_index firsts (s + 1))) (length firsts - 1) && every (λ s. nat_le (slice_index firsts s) 86400) (length firsts)

-- what a day's segments are refused by, if anything
abbrev pub day_refusal : List ℕ → Option Refusal
day_refusal firsts = unless (cuts_day firsts) (refusal 9 Call)

-- a segment's end: the first second of the next, and 86,401 for the last
abbrev pub segment_end : List ℕ → ℕ → ℕ
segment_end firsts s = slice_index_or firsts (s + 1) 86401

-- whether a segment holds a second: the end itself lies outside
abbrev pub in_segment : List ℕ → (s t : ℕ) → Bool
in_segment firsts s t = nat_le (slice_index firsts s) t && nat_lt t (segment_end firsts s)

-- the segment that holds a second, if there is one
unfoldable pub segment_at : List ℕ → ℕ → Option ℕ
segment_at firsts t = first_of (λ s. provided (in_segment firsts s t) s) (length firsts)

-- a segment's first second and its end, if there is such a segment
abbrev pub segment_span : List ℕ → ℕ → Option (ℕ × ℕ)
segment_span firsts s = provided (nat_lt s (length firsts)) (slice_index firsts s, segment_end firsts s)
