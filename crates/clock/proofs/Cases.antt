-- Which refusal tables get, case by case. Nothing rests on these: the check unfolds the definitions. Assumes nothing.
use Rattle.std.proofs.Common.{◌≡◌, ℕ, ◌+◌, ◌-◌, ◌<◌, ◌≤◌, true, false, List, length, get_or, Some, None, arith}
use Rattle.std.proofs.lemmas.Bool.Decides.{nat_tests}
use Rattle.network.specs.Lists.{runs, arcs_refusal, sites_refusal}
use Rattle.network.specs.Refused.{refusal}
use Rattle.network.specs.declared.refusals.Places.TheVariants.{Call}
use Rattle.network.specs.declared.refusals.Refusal.{Refusal}
use Rattle.network.proofs.Refusing.{runs_from}
use Rattle.network.specs.First.{first_of}
use Rattle.clock.specs.Points.{cut, arc_refusal, points_refusal, table_refusal}
use Rattle.clock.specs.Tables.{Tables}
use Rattle.clock.specs.Timed.{Cut}
use Rattle.clock.specs.Timed as timed

pub cut_from : (arcs : ℕ) (points departures arrivals : List ℕ) → Cut arcs points departures arrivals → cut arcs points departures arrivals ≡ true
unfolding cut
cut_from arcs points departures arrivals k = let r = runs_from points 2 (length departures) k.run in grind (arith, nat_tests)

pub points_then : (arcs : ℕ) (points departures arrivals : List ℕ) → Cut arcs points departures arrivals → points_refusal arcs points departures arrivals ≡ first_of (arc_refusal points departures arrivals) arcs
points_then arcs points departures arrivals k = timed.points_then arcs points departures arrivals (cut_from arcs points departures arrivals k)

pub cut_within : (arcs : ℕ) (points departures arrivals : List ℕ) → Cut arcs points departures arrivals → (a : ℕ) → a < arcs → (a + 1 < length points) × ((get_or points a 0 ≤ get_or points (a + 1) 0) × ((get_or points (a + 1) 0 ≤ length departures) × (length arrivals ≡ length departures)))
cut_within arcs points departures arrivals k a l = let w = timed.cut_within arcs points departures arrivals k a l in (w.0, (w.1, (w.2, w.3)))

pub points_misfit : (arcs : ℕ) (points departures arrivals : List ℕ) → cut arcs points departures arrivals ≡ false → points_refusal arcs points departures arrivals ≡ Some (refusal 4 Call)
unfolding points_refusal
points_misfit arcs points departures arrivals e = rw e

module _ (t : Tables) (x : Refusal) where
  pub table_arcs : arcs_refusal t.starts t.heads ≡ Some x → table_refusal t ≡ Some x
  unfolding table_refusal
  table_arcs e = rw e

  pub table_points : arcs_refusal t.starts t.heads ≡ None → points_refusal (length t.heads) t.points t.departures t.arrivals ≡ Some x → table_refusal t ≡ Some x
  unfolding table_refusal
  table_points d e = rw (d, e)

pub table_sites : (t : Tables) → arcs_refusal t.starts t.heads ≡ None → points_refusal (length t.heads) t.points t.departures t.arrivals ≡ None → table_refusal t ≡ sites_refusal (length t.starts - 1) t.sites
unfolding table_refusal
table_sites t d e = rw (d, e)
