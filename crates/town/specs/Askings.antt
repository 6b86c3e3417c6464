-- Worked askings on the built-in depot, as theorems of the definitions. Assumes nothing.
use Rattle.std.specs.Prelude.{◌≡◌, ℕ, Bool, List, [], ◌∷◌, Ok, Err, Result}
use Rattle.std.specs.Result.{result_map_both}
use Rattle.board.specs.Tables.{first_state, has_free}
use Rattle.clock.specs.Model.{clock_roads, clock_estimate}
use Rattle.console.specs.Kinds.{length_tables}
use Rattle.length.specs.Model.{length_estimate}
use Rattle.length.specs.Readings.{height_of}
use Rattle.network.specs.Refused.{refusal}
use Rattle.network.specs.declared.refusals.Places.TheVariants.{Call}
use Rattle.network.specs.declared.refusals.Refusal.{Refusal}
use Rattle.soonest.specs.Asking.{Asking, asked}
use Rattle.soonest.specs.Guidance.{Guidance, Sound}
use Rattle.soonest.specs.Stages.{Stage}
use Rattle.town.specs.FourJunctions.{four_junctions, town}
use Rattle.town.specs.Worked.{lengths}

-- the built-in depot as guides: by the clock, and by lengths
abbrev pub by_clock : Guidance
by_clock = record { roads = clock_roads town; estimate = clock_estimate town }

abbrev pub by_length : Guidance
by_length = record { roads = lengths; estimate = length_estimate (length_tables four_junctions) }

-- both of its sites are free on its board in its first state
abbrev pub both_free : ℕ → Bool
both_free = has_free (first_state four_junctions.board four_junctions.bays)

-- from junction 0, with room for everything
abbrev pub from_0 : (number k : ℕ) → Asking
from_0 number k = record { junction = 0; number = number; k = k; answers = 33; ways = 4; marks = 4; queue = 4 }

-- what is seen of a stage: the sites with their readings, how many steps there were, and the four ways
abbrev pub Seen : Type 0
Seen = List (ℕ × ℕ) × ℕ × List ℕ

abbrev pub seen_of : Stage → Seen
seen_of s = (s.listed, s.steps, s.way 0 ∷ s.way 1 ∷ s.way 2 ∷ s.way 3 ∷ [])

abbrev pub asked_of : Guidance → (number k : ℕ) → Result Seen Refusal
asked_of g number k = result_map_both seen_of (λ r. r) (asked g both_free 2 (from_0 number k))

pub record WorkedAskings : Type 0 where
  -- both kinds of roads keep the rules, so what is promised is promised of them
  pub clock_keeps_the_rules : Sound by_clock
  pub length_keeps_the_rules : Sound by_length
  pub at_28000 : asked_of by_clock 28000 2 ≡ Ok ((0, 28200) ∷ (1, 28250) ∷ [], 4, 65535 ∷ 3 ∷ 1 ∷ 2 ∷ [])
  -- arc 3 has slowed down under way
  pub at_28800 : asked_of by_clock 28800 2 ≡ Ok ((0, 29016) ∷ (1, 29066) ∷ [], 4, 65535 ∷ 3 ∷ 1 ∷ 2 ∷ [])
  -- and now arc 0 is the sooner way
  pub at_30500 : asked_of by_clock 30500 2 ≡ Ok ((0, 30800) ∷ (1, 30850) ∷ [], 4, 65535 ∷ 0 ∷ 1 ∷ 2 ∷ [])
  -- the last second of the day, and past it
  pub at_86400 : asked_of by_clock 86400 2 ≡ Ok ((0, 86700) ∷ [], 3, 65535 ∷ 0 ∷ 1 ∷ 65535 ∷ [])
  pub at_86401 : asked_of by_clock 86401 2 ≡ Err (refusal 15 Call)
  -- at most 32 sites are asked for
  pub for_32 : asked_of by_clock 28000 32 ≡ Ok ((0, 28200) ∷ (1, 28250) ∷ [], 4, 65535 ∷ 3 ∷ 1 ∷ 2 ∷ [])
  pub for_33 : asked_of by_clock 28000 33 ≡ Err (refusal 16 Call)
  -- by lengths: 900 metres after 1 arc, and 1,000 after 2
  pub metres_from_0 : asked_of by_length 0 2 ≡ Ok ((0, height_of (900, 1)) ∷ (1, height_of (1000, 2)) ∷ [], 4, 65535 ∷ 0 ∷ 1 ∷ 2 ∷ [])
