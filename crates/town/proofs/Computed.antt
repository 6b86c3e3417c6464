-- The worked examples compute. Assumes nothing.
use Rattle.std.proofs.Common.{refl}
use Rattle.clock.specs.Arrivals.{entered}
use Rattle.clock.specs.Model.{clock_carry}
use Rattle.clock.specs.Points.{cut, departs, arrives, kept, point_refusal, arc_refusal, points_refusal, table_refusal}
use Rattle.length.specs.Readings.{by_heights}
use Rattle.network.specs.First.{first_of, every}
use Rattle.network.specs.Lists.{runs, arcs_refusal, sites_refusal}
use Rattle.town.specs.Worked.{WorkedArrivals, WorkedRefusals, WorkedLengths}

pub arrivals_hold : WorkedArrivals
unfolding table_refusal arcs_refusal points_refusal sites_refusal arc_refusal point_refusal departs arrives kept cut runs first_of every clock_carry entered
arrivals_hold = record {
  accepted = refl;
  arc_3_at_32350 = refl;
  arcs_1_3_from_28800 = refl;
  frozen_from_28800 = refl;
  at_86400 = refl;
  at_86401 = refl;
}

pub refusals_hold : WorkedRefusals
unfolding table_refusal arcs_refusal points_refusal sites_refusal arc_refusal point_refusal departs arrives kept cut runs first_of every
refusals_hold = record { standing = refl; early = refl; falling = refl }

pub lengths_hold : WorkedLengths
unfolding by_heights
lengths_hold = record { arcs_1_3 = refl; arc_3_closed = refl; detour_on_arc_1 = refl }
