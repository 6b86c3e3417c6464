-- The worked askings compute. Assumes nothing.
use Rattle.std.proofs.Common.{refl}
use Rattle.clock.specs.Arrivals.{entered}
use Rattle.clock.specs.Model.{clock_carry}
use Rattle.length.specs.Readings.{by_heights}
use Rattle.network.specs.First.{first_of}
use Rattle.network.specs.Lists.{tail_of}
use Rattle.soonest.specs.Asking.{ask_refusal, asked}
use Rattle.soonest.specs.Stages.{least, list_one, list_all, try_one, try_all, step, next, run, sum_below, potential, finish}
use Rattle.town.specs.Askings.{WorkedAskings}
use Rattle.town.proofs.Sound.{clock_sound, length_sound}

pub askings_hold : WorkedAskings
unfolding ask_refusal asked least list_one list_all try_one try_all step next run sum_below potential finish tail_of first_of clock_carry entered by_heights
askings_hold = record {
  clock_keeps_the_rules = clock_sound;
  length_keeps_the_rules = length_sound;
  at_28000 = refl;
  at_28800 = refl;
  at_30500 = refl;
  at_86400 = refl;
  at_86401 = refl;
  for_32 = refl;
  for_33 = refl;
  metres_from_0 = refl;
}
