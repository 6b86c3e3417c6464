-- The worked estimates and askings by the index. Assumes nothing.
use Rattle.std.proofs.Common.{◌≡◌, ℕ, ◌+◌, min, Bool, true, false, leb, get_or, None, Option, refl}
use Rattle.std.specs.Option.{option_map, option_or}
use Rattle.network.specs.First.{first_of, provided, onward}
use Rattle.network.specs.Lists.{tail_of}
use Rattle.clock.specs.Arrivals.{entered}
use Rattle.clock.specs.ClockLaws.{carry_too_late}
use Rattle.clock.specs.Model.{clock_carry, clock_roads}
use Rattle.least.specs.Segments.{segment_at, segment_end, in_segment}
use Rattle.least.specs.Times.{least_in_segment}
use Rattle.least.proofs.Cuts.{span_within, held, found_at, found_holds}
use Rattle.least.proofs.LeastTimes.{no_sooner}
use Rattle.rows.specs.Guided.{least_to, wanted_at, guided_estimate}
use Rattle.rows.specs.Index.{read_row, row_in}
use Rattle.rows.proofs.Answering.{index_admissible}
use Rattle.rows.proofs.Guiding.{Cuts}
use Rattle.soonest.specs.Asking.{ask_refusal, asked}
use Rattle.soonest.specs.Guidance.{Sound}
use Rattle.soonest.specs.Stages.{least, list_one, list_all, try_one, try_all, step, next, run, sum_below, potential, finish}
use Rattle.town.specs.FourJunctions.{town}
use Rattle.town.specs.Guided.{guided_by, by_index, only, WorkedEstimates, WorkedGuided}
use Rattle.town.specs.Indexed.{Index, firsts, IsRight, one_kept, two_kept}
use Rattle.town.proofs.LeastTimes.{day, can_enter}
use Rattle.town.proofs.Offered.{one_right, two_right}
use Rattle.town.proofs.Sound.{clock_sound}

-- the segments of the built-in day, for the estimate
day_cuts : Cuts 3 (λ i. get_or firsts i 0) (segment_end firsts) (segment_at firsts)
day_cuts = record {
  holds = λ t i e. found_holds firsts day i t e;
  covers = λ t l. let h = held firsts day t l in (h.0, found_at firsts day h.0 t h.1 h.2 h.3);
  ends = λ i l. (span_within firsts day i l).1;
}

guided_sound : (x : Index) → IsRight x → Sound (guided_by x)
guided_sound x right = record {
  wellformed = clock_sound.wellformed;
  lawful = clock_sound.lawful;
  admissible =
      index_admissible (clock_roads town) clock_sound.wellformed clock_sound.lawful (λ h. refl) (carry_too_late town)
      3 (λ i. get_or firsts i 0) (segment_end firsts) (segment_at firsts) day_cuts (least_in_segment town firsts)
      (λ i a t q l k m n e. no_sooner town a k (can_enter a k) firsts day i l t q m n e)
      x.nearest x.sites x.times right;
}

-- by day, whichever of the segments holds the reading, and by night
module _ (h : ℕ) where
  nothing_there : (by_day first between last : Bool) → elim by_day as (λ _. Option ℕ) [
    | true ↦ onward (option_or (option_or (option_or None (provided first 0)) (provided between 1)) (provided last 2)) (λ i. option_map (λ t. min (h + t) (segment_end firsts i)) (least_to 2 (only 0) (row_in 4 2 two_kept.sites two_kept.times i 3)))
    | false ↦ provided (wanted_at (clock_roads town) (only 0) 3) h
  ] ≡ None
  unfolding least_to wanted_at read_row first_of
  nothing_there false first between last = refl
  nothing_there true true between last = refl
  nothing_there true false true last = refl
  nothing_there true false false true = refl
  nothing_there true false false false = refl

  row_not_full : by_index.estimate 3 h (only 0) ≡ None
  unfolding guided_estimate segment_at first_of
  row_not_full = nothing_there (leb h 86400) (in_segment firsts 0 h) (in_segment firsts 1 h) (in_segment firsts 2 h)

pub estimates_hold : WorkedEstimates
unfolding guided_estimate segment_at first_of least_to read_row clock_carry entered
estimates_hold = record {
  at_32350 = refl;
  arrives_at_33041 = refl;
  full_row = refl;
  row_not_full = row_not_full;
}

pub guided_hold : WorkedGuided
unfolding ask_refusal asked least list_one list_all try_one try_all step next run sum_below potential finish tail_of first_of clock_carry entered guided_estimate segment_at least_to wanted_at read_row
guided_hold = record {
  one_keeps_the_rules = guided_sound one_kept one_right;
  two_keeps_the_rules = guided_sound two_kept two_right;
  at_28000 = refl;
  at_28800 = refl;
  at_30500 = refl;
  at_86400 = refl;
  at_86401 = refl;
  for_32 = refl;
  for_33 = refl;
}
