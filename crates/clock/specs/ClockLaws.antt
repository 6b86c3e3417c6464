-- Examined clock tables keep the laws of a network. Assumes nothing.
use Rattle.std.specs.Prelude.{◌≡◌, ℕ, ◌+◌, ◌-◌, ◌<◌, ◌≤◌, length, Some, None, vec_items, slice_index}
use Rattle.std.proofs.Common.{sym, ◌∙◌, arith}
use Rattle.std.proofs.lemmas.Bool.Decides.{nat_tests}
use Rattle.std.proofs.lemmas.Bool.{le-leb}
use Rattle.network.specs.Estimates.{Admissible}
use Rattle.network.specs.Laws.{WellFormed, Lawful}
use Rattle.network.proofs.Following.{some_same, reading_admissible}
use Rattle.network.proofs.Refusing.{Arcs, Sited, streets_arcs, streets_sites}
use Rattle.network.proofs.Tails.{tail_says}
use Rattle.clock.specs.Arrivals.{entered}
use Rattle.clock.specs.Held.{road_lists}
use Rattle.clock.specs.declared.roads.ClockRoads.{ClockRoads}
use Rattle.clock.specs.Model.{clock_carry, clock_roads, clock_estimate}
use Rattle.clock.specs.Points.{Open}
use Rattle.clock.specs.Tables.{Tables}
use Rattle.clock.specs.Entering.{entered_for, entered_order}
use Rattle.clock.specs.Timed.{Timed, cut_two, roads_timed}

-- where an arc's points start and end
abbrev pub first : Tables → ℕ → ℕ
first t a = slice_index t.points a

abbrev pub end : Tables → ℕ → ℕ
end t a = slice_index t.points (a + 1)

pub carry_there : (t : Tables) (a h : ℕ) → a < length t.heads → h ≤ 86400 → clock_carry t a h ≡ entered t.departures t.arrivals (first t a) (end t a - first t a) h
unfolding clock_carry
carry_there t a h l m = grind (arith, nat_tests)

pub carry_no_arc : (t : Tables) (a h : ℕ) → length t.heads ≤ a → clock_carry t a h ≡ None
unfolding clock_carry
carry_no_arc t a h l = grind (arith, nat_tests)

pub carry_too_late : (t : Tables) (a h : ℕ) → 86400 < h → clock_carry t a h ≡ None
unfolding clock_carry
carry_too_late t a h l = grind (arith, nat_tests)

module _ (t : Tables) (arcs : Arcs t.starts t.heads) (sited : Sited (length t.starts - 1) t.sites) (timed : Timed (length t.heads) t.points t.departures t.arrivals) where
  two_points : (a : ℕ) → a < length t.heads → first t a + 2 ≤ end t a
  two_points a l = (cut_two (length t.heads) t.points t.departures t.arrivals timed.whole a l).1

  -- an arc that is there can be entered
  pub arc_open : (a : ℕ) → a < length t.heads → Open t.points t.departures t.arrivals a
  arc_open a l =
      let k = cut_two (length t.heads) t.points t.departures t.arrivals timed.whole a l in
      record { inside = k.0; two = k.1; within = k.2; alike = timed.whole.alike; sound = timed.sound a l }

  -- what is carried is carried along an arc that is there, from no later than 86,400
  carry_says : (a h q : ℕ) → clock_carry t a h ≡ Some q → (a < length t.heads) × (h ≤ 86400)
  unfolding clock_carry
  carry_says a h q e = (grind (arith, nat_tests), grind (arith, nat_tests))

  carry_within : (a h q : ℕ) → clock_carry t a h ≡ Some q → (h < q) × (q ≤ 172800)
  carry_within a h q e =
      let s = carry_says a h q e in
      let r = entered_for t.departures t.arrivals (first t a) (end t a) (two_points a s.0) (λ p. timed.each a p s.0) h s.1 in
      let x = some_same (clock_carry t a h) r.0 q (carry_there t a h s.0 s.1 ∙ r.1) e in
      let y = r.2 in
      let z = r.3 in
      (omega arith, omega arith)

  carry_order : (a g h q : ℕ) → g ≤ h → clock_carry t a h ≡ Some q → (p : ℕ) × (clock_carry t a g ≡ Some p) × (p ≤ q)
  carry_order a g h q l e =
      let s = carry_says a h q e in
      let m = s.1 in
      let r = entered_for t.departures t.arrivals (first t a) (end t a) (two_points a s.0) (λ p. timed.each a p s.0) g (omega arith) in
      (r.0, carry_there t a g s.0 (omega arith) ∙ r.1, entered_order t.departures t.arrivals (first t a) (end t a) (two_points a s.0) (λ p. timed.each a p s.0) g h l s.1 r.0 q r.1 (sym (carry_there t a h s.0 s.1) ∙ e))

  pub clock_wellformed : WellFormed (clock_roads t)
  clock_wellformed =
      let two = arcs.two in
      let few = arcs.few in
      record {
        some_junction = omega arith;
        few_junctions = omega arith;
        few_arcs = arcs.few_heads;
        few_sites = sited.few;
        tail_within = λ a l. (tail_says t.starts t.heads arcs a l).0;
        head_within = arcs.within;
        place_within = sited.within;
        no_such_arc = carry_no_arc t;
        low = λ h e. grind (arith, nat_tests);
        start_reads = λ n h e. grind (arith, nat_tests);
        carry_reads = λ a h q r e. le-leb q 172800 (carry_within a h q e).1;
        lengthen_reads = λ u h q r e. grind (arith, nat_tests);
      }

  pub clock_lawful : Lawful (clock_roads t)
  clock_lawful = record {
    rises = λ a h q l r e. (carry_within a h q e).0;
    keeps_order = λ a g h q l rg rh m e. carry_order a g h q m e;
    lengthens = λ u h q r e. grind (arith, nat_tests);
    lengthens_in_order = λ u g h q rg rh l e. (g + u, grind (arith, nat_tests), grind (arith, nat_tests));
  }

  pub clock_admissible : Admissible (clock_roads t) (clock_estimate t)
  clock_admissible = reading_admissible (clock_roads t) clock_wellformed clock_lawful

-- the same of clock roads as they are held
pub roads_wellformed : (r : ClockRoads) → WellFormed (clock_roads (road_lists r))
roads_wellformed r = clock_wellformed (road_lists r) (streets_arcs r.streets) (streets_sites r.streets) (roads_timed r)

pub roads_lawful : (r : ClockRoads) → Lawful (clock_roads (road_lists r))
roads_lawful r = clock_lawful (road_lists r) (streets_arcs r.streets) (streets_sites r.streets) (roads_timed r)

pub roads_admissible : (r : ClockRoads) → Admissible (clock_roads (road_lists r)) (clock_estimate (road_lists r))
roads_admissible r = clock_admissible (road_lists r) (streets_arcs r.streets) (streets_sites r.streets) (roads_timed r)

pub roads_open : (r : ClockRoads) (a : ℕ) → a < length (vec_items r.streets.heads) → Open (vec_items r.points) (vec_items r.departures) (vec_items r.arrivals) a
roads_open r = arc_open (road_lists r) (streets_arcs r.streets) (streets_sites r.streets) (roads_timed r)

-- what an arc's entering gives is a reading
pub roads_carry : (r : ClockRoads) (a h q : ℕ) → a < length (vec_items r.streets.heads) → h ≤ 86400 → entered (vec_items r.departures) (vec_items r.arrivals) (first (road_lists r) a) (end (road_lists r) a - first (road_lists r) a) h ≡ Some q → (clock_carry (road_lists r) a h ≡ Some q) × (q ≤ 172800)
roads_carry r a h q l m e =
    let k = carry_there (road_lists r) a h l m ∙ e in
    (k, (carry_within (road_lists r) (streets_arcs r.streets) (streets_sites r.streets) (roads_timed r) a h q k).1)
