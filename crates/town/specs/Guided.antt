-- Worked estimates and askings by the index of the built-in depot, as theorems of the definitions. Assumes nothing.
use Rattle.std.specs.Prelude.{◌≡◌, ℕ, Bool, [], ◌∷◌, Some, None, Ok, Err, ◌==◌}
use Rattle.clock.specs.Model.{clock_roads}
use Rattle.least.specs.Segments.{segment_at, segment_end}
use Rattle.network.specs.Model.{arrival}
use Rattle.network.specs.Refused.{refusal}
use Rattle.network.specs.declared.refusals.Places.TheVariants.{Call}
use Rattle.rows.specs.Guided.{guided_estimate}
use Rattle.rows.specs.Index.{row_in}
use Rattle.soonest.specs.Guidance.{Guidance, Sound}
use Rattle.town.specs.Askings.{asked_of}
use Rattle.town.specs.FourJunctions.{town}
use Rattle.town.specs.Indexed.{Index, firsts, one_kept, two_kept}

-- the built-in depot as a guide: by the clock, and by an index
abbrev pub guided_by : Index → Guidance
guided_by x = record {
  roads = clock_roads town;
  estimate = guided_estimate (clock_roads town) (segment_at firsts) (segment_end firsts) x.nearest (row_in (clock_roads town).junctions x.nearest x.sites x.times);
}

-- by the index that keeps two entries
abbrev pub by_index : Guidance
by_index = guided_by two_kept

-- the site s alone is wanted
abbrev pub only : (s i : ℕ) → Bool
only s i = i == s

pub record WorkedEstimates : Type 0 where
  -- an estimate is no arrival: 32350 and 100 pass the segment's end, and by arc 3 it is 33041
  pub at_32350 : (guided_by one_kept).estimate 2 32350 (only 0) ≡ Some 32400
  pub arrives_at_33041 : arrival (clock_roads town) 3 32350 ≡ Some 33041
  -- a full row without a wanted site says the time of its last entry
  pub full_row : (guided_by one_kept).estimate 0 28000 (only 1) ≡ Some 28200
  -- a row with an entry missing and without a wanted site says nothing, at every reading
  pub row_not_full : (h : ℕ) → by_index.estimate 3 h (only 0) ≡ None

pub record WorkedGuided : Type 0 where
  -- by either index the rules are kept, so what is promised is promised of them
  pub one_keeps_the_rules : Sound (guided_by one_kept)
  pub two_keeps_the_rules : Sound by_index
  -- the askings of the bare roads list the same sites at the same readings
  pub at_28000 : asked_of by_index 28000 2 ≡ Ok ((0, 28200) ∷ (1, 28250) ∷ [], 4, 65535 ∷ 3 ∷ 1 ∷ 2 ∷ [])
  pub at_28800 : asked_of by_index 28800 2 ≡ Ok ((0, 29016) ∷ (1, 29066) ∷ [], 4, 65535 ∷ 3 ∷ 1 ∷ 2 ∷ [])
  pub at_30500 : asked_of by_index 30500 2 ≡ Ok ((0, 30800) ∷ (1, 30850) ∷ [], 4, 65535 ∷ 0 ∷ 1 ∷ 2 ∷ [])
  -- one step fewer: past the day junction 2, where no site stands, does not wait
  pub at_86400 : asked_of by_index 86400 2 ≡ Ok ((0, 86700) ∷ [], 2, 65535 ∷ 0 ∷ 1 ∷ 65535 ∷ [])
  pub at_86401 : asked_of by_index 86401 2 ≡ Err (refusal 15 Call)
  pub for_32 : asked_of by_index 28000 32 ≡ Ok ((0, 28200) ∷ (1, 28250) ∷ [], 4, 65535 ∷ 3 ∷ 1 ∷ 2 ∷ [])
  pub for_33 : asked_of by_index 28000 33 ≡ Err (refusal 16 Call)
