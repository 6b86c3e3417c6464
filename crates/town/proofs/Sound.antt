-- The built-in roads keep the rules. Assumes nothing.
use Rattle.std.proofs.Common.{refl}
use Rattle.clock.specs.ClockLaws.{clock_wellformed, clock_lawful, clock_admissible}
use Rattle.clock.specs.Points.{cut, departs, arrives, kept, point_refusal, arc_refusal, points_refusal}
use Rattle.clock.specs.Timed.{Timed, points_say}
use Rattle.console.specs.Kinds.{length_tables}
use Rattle.length.specs.LengthLaws.{length_wellformed, length_lawful, length_admissible}
use Rattle.length.specs.Measured.{measured_says}
use Rattle.length.specs.Metres.{measured}
use Rattle.network.proofs.Refusing.{Arcs, Sited, arcs_say, sites_say}
use Rattle.network.specs.First.{first_of, every}
use Rattle.network.specs.Lists.{runs, arcs_refusal, sites_refusal}
use Rattle.soonest.specs.Guidance.{Sound}
use Rattle.town.specs.Askings.{by_clock, by_length}
use Rattle.town.specs.FourJunctions.{town, four_junctions}

pub town_arcs : Arcs town.starts town.heads
unfolding arcs_refusal runs first_of every
town_arcs = arcs_say town.starts town.heads refl

pub town_sites : Sited 4 town.sites
unfolding sites_refusal first_of
town_sites = sites_say 4 town.sites refl

pub town_timed : Timed 4 town.points town.departures town.arrivals
unfolding points_refusal arc_refusal point_refusal departs arrives kept cut runs first_of every
town_timed = points_say 4 town.points town.departures town.arrivals refl

pub clock_sound : Sound by_clock
clock_sound = record {
  wellformed = clock_wellformed town town_arcs town_sites town_timed;
  lawful = clock_lawful town town_arcs town_sites town_timed;
  admissible = clock_admissible town town_arcs town_sites town_timed;
}

pub length_sound : Sound by_length
unfolding measured every
length_sound =
    let t = length_tables four_junctions in
    let long = measured_says 4 t.metres refl in
    record {
      wellformed = length_wellformed t town_arcs town_sites long;
      lawful = length_lawful t town_arcs town_sites long;
      admissible = length_admissible t town_arcs town_sites long;
    }
