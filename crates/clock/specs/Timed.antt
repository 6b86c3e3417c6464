-- What points that are not refused keep. Assumes nothing.
use Rattle.std.specs.Prelude.{◌≡◌, ℕ, ◌+◌, ◌-◌, ◌<◌, ◌≤◌, true, false, List, length, is_some, None, vec_items, Option, slice_index, slice_index_or, refl}
use Rattle.std.proofs.Common.{sym, subst, ◌∙◌, arith}
use Rattle.std.proofs.lemmas.Bool.Decides.{nat_tests}
use Rattle.network.specs.First.{first_of}
use Rattle.network.specs.Lists.{arcs_refusal, sites_refusal}
use Rattle.network.specs.declared.refusals.Refusal.{Refusal}
use Rattle.network.proofs.First.{none_below}
use Rattle.network.proofs.Refusing.{Runs, runs_says}
use Rattle.network.proofs.Tails.{rises}
use Rattle.clock.specs.declared.roads.ClockRoads.{ClockRoads}
use Rattle.clock.specs.Points.{cut, departs, arrives, kept, point_refusal, arc_refusal, points_refusal, table_refusal}
use Rattle.clock.specs.Tables.{Tables}

-- one point of an arc whose points stand from `first` to before `end`
pub record Point (departures arrivals : List ℕ) (first end p : ℕ) : Type 0 where
  pub low : slice_index_or departures p 0 ≤ 86400
  pub at_first : p ≡ first → slice_index departures p ≡ 0
  pub rise : first < p → slice_index departures (p - 1) < slice_index departures p
  pub at_last : p + 1 ≡ end → 86400 ≤ slice_index departures p
  pub later : slice_index_or departures p 0 + 1 ≤ slice_index arrivals p
  pub few : slice_index_or arrivals p 0 ≤ 172800
  pub in_order : first < p → slice_index arrivals (p - 1) ≤ slice_index arrivals p

pub point_says : (departures arrivals : List ℕ) (arc first end p : ℕ) → point_refusal departures arrivals arc first end p ≡ None → Point departures arrivals first end p
unfolding point_refusal departs arrives kept
point_says departures arrivals arc first end p e =
    record {
      low = grind (arith, nat_tests);
      at_first = λ h. grind (arith, nat_tests);
      rise = λ h. grind (arith, nat_tests);
      at_last = λ h. grind (arith, nat_tests);
      later = grind (arith, nat_tests);
      few = grind (arith, nat_tests);
      in_order = λ h. grind (arith, nat_tests);
    }

-- a well-cut list of points
pub record Cut (arcs : ℕ) (points departures arrivals : List ℕ) : Type 0 where
  pub count : length points ≡ arcs + 1
  pub run : Runs points 2 (length departures)
  pub alike : length arrivals ≡ length departures
  pub few : length departures ≤ 65536

-- the points of all arcs
pub record Timed (arcs : ℕ) (points departures arrivals : List ℕ) : Type 0 where
  pub whole : Cut arcs points departures arrivals
  pub sound : (a : ℕ) → a < arcs → arc_refusal points departures arrivals a ≡ None
  pub each : (a p : ℕ) → a < arcs → slice_index points a ≤ p → p < slice_index points (a + 1) → Point departures arrivals (slice_index points a) (slice_index points (a + 1)) p

pub cut_says : (arcs : ℕ) (points departures arrivals : List ℕ) → cut arcs points departures arrivals ≡ true → Cut arcs points departures arrivals
unfolding cut
cut_says arcs points departures arrivals e =
    record {
      count = grind (arith, nat_tests);
      run = runs_says points 2 (length departures) (grind (arith, nat_tests));
      alike = grind (arith, nat_tests);
      few = grind (arith, nat_tests);
    }

-- what the j-th point of an arc is refused by
abbrev pub place_refusal : (points departures arrivals : List ℕ) (arc j : ℕ) → Option Refusal
place_refusal points departures arrivals arc j = point_refusal departures arrivals arc (slice_index points arc) (slice_index points (arc + 1)) (slice_index points arc + j)

pub arc_is : (points departures arrivals : List ℕ) (arc : ℕ) → arc_refusal points departures arrivals arc ≡ first_of (place_refusal points departures arrivals arc) (slice_index points (arc + 1) - slice_index points arc)
unfolding arc_refusal
arc_is points departures arrivals arc = refl

-- one place of an arc's points
pub arc_point : (points departures arrivals : List ℕ) (b p : ℕ) → slice_index points b ≤ p → p < slice_index points (b + 1) → arc_refusal points departures arrivals b ≡ None → Point departures arrivals (slice_index points b) (slice_index points (b + 1)) p
arc_point points departures arrivals b p m n q =
    let first : ℕ = slice_index_or points b 0 in
    let end : ℕ = slice_index_or points (b + 1) 0 in
    let here = none_below (place_refusal points departures arrivals b) (end - first) (sym (arc_is points departures arrivals b) ∙ q) (p - first) (omega arith) in
    let e : first + (p - first) ≡ p = omega arith in
    point_says departures arrivals b first end p (subst (λ k. point_refusal departures arrivals b first end k ≡ None) e here)

pub points_say : (arcs : ℕ) (points departures arrivals : List ℕ) → is_some (points_refusal arcs points departures arrivals) ≡ false → Timed arcs points departures arrivals
unfolding points_refusal
points_say arcs points departures arrivals e =
    let sound = none_below (arc_refusal points departures arrivals) arcs (grind arith) in
    record {
      whole = cut_says arcs points departures arrivals (grind arith);
      sound = sound;
      each = λ b p l m n. arc_point points departures arrivals b p m n (sound b l);
    }

-- the points of a well-cut list are refused by what its arcs are refused by
pub points_then : (arcs : ℕ) (points departures arrivals : List ℕ) → cut arcs points departures arrivals ≡ true → points_refusal arcs points departures arrivals ≡ first_of (arc_refusal points departures arrivals) arcs
unfolding points_refusal
points_then arcs points departures arrivals e = rw e

-- each arc of a well-cut list has two points or more, within the lists
pub cut_two : (arcs : ℕ) (points departures arrivals : List ℕ) → Cut arcs points departures arrivals → (a : ℕ) → a < arcs → (a + 1 < length points) × (slice_index points a + 2 ≤ slice_index points (a + 1)) × (slice_index points (a + 1) ≤ length departures)
cut_two arcs points departures arrivals k a l =
    let n = k.count in
    let e = k.run.to in
    let r = rises points 2 (length departures) k.run (a + 1) (length points - 1) (omega arith) (omega arith) in
    (omega arith, k.run.steps a (omega arith), omega arith)

pub cut_within : (arcs : ℕ) (points departures arrivals : List ℕ) → Cut arcs points departures arrivals → (a : ℕ) → a < arcs → (a + 1 < length points) × (slice_index points a ≤ slice_index points (a + 1)) × (slice_index points (a + 1) ≤ length departures) × (length arrivals ≡ length departures)
cut_within arcs points departures arrivals k a l =
    let t = cut_two arcs points departures arrivals k a l in
    let u = t.1 in
    (t.0, omega arith, t.2, k.alike)

pub roads_timed : (r : ClockRoads) → Timed (length (vec_items r.streets.heads)) (vec_items r.points) (vec_items r.departures) (vec_items r.arrivals)
roads_timed r = points_say (length (vec_items r.streets.heads)) (vec_items r.points) (vec_items r.departures) (vec_items r.arrivals) r.timed

-- tables that are not refused pass all three
pub table_says : (t : Tables) → table_refusal t ≡ None → (arcs_refusal t.starts t.heads ≡ None) × (points_refusal (length t.heads) t.points t.departures t.arrivals ≡ None) × (sites_refusal (length t.starts - 1) t.sites ≡ None)
unfolding table_refusal
table_says t e = (grind arith, grind arith, grind arith)
