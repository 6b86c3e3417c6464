-- The least time that each built-in arc takes in each segment. Assumes nothing.
use Rattle.std.proofs.Common.{◌≡◌, ℕ, ◌+◌, ◌*◌, ◌-◌, ◌<◌, min, Bool, true, not, eqb, leb, ◌&&◌, ◌||◌, List, [], ◌∷◌, length, get_or, refl, sym, inl, arith}
use Rattle.std.proofs.lemmas.Bool.{and_parts, eqb-true}
use Rattle.std.proofs.lemmas.Bool.Decides.{nat_tests}
use Rattle.network.specs.First.{every, first_of}
use Rattle.network.proofs.First.{every_below}
use Rattle.clock.specs.Arrivals.{entered}
use Rattle.clock.specs.ClockLaws.{arc_open}
use Rattle.clock.specs.Model.{clock_carry}
use Rattle.clock.specs.Points.{Open}
use Rattle.clock.specs.Tables.{own_points}
use Rattle.least.specs.Points.{LeastAtPoints}
use Rattle.least.specs.Segments.{cuts_day, segment_end}
use Rattle.least.specs.Times.{travel_time, least_in_segment}
use Rattle.least.proofs.Cuts.{Whole, whole_says}
use Rattle.least.proofs.LeastTimes.{ends_give, least_says}
use Rattle.town.specs.FourJunctions.{town}
use Rattle.town.specs.Indexed.{firsts}
use Rattle.town.proofs.Sound.{town_arcs, town_sites, town_timed}

pub day : Whole firsts
unfolding cuts_day every
day = whole_says firsts refl

pub can_enter : (a : ℕ) → a < 4 → Open town.points town.departures town.arrivals a
can_enter = arc_open town town_arcs town_sites town_timed

-- what the least times come to
abbrev pub known : (segment arc : ℕ) → ℕ
known i a = get_or (300 ∷ 100 ∷ 50 ∷ 100 ∷ 300 ∷ 100 ∷ 50 ∷ 700 ∷ 300 ∷ 100 ∷ 50 ∷ 100 ∷ []) (i * 4 + a) 0

module _ (departures arrivals : List ℕ) (lo hi x : ℕ) where
  -- whether point k, where it departs from lo to hi, takes x or more
  abbrev not_sooner : ℕ → Bool
  not_sooner k = not (leb lo (get_or departures k 0) && leb (get_or departures k 0) hi) || leb x (get_or arrivals k 0 - get_or departures k 0)

  none_sooner : (n : ℕ) → every not_sooner n ≡ true → LeastAtPoints departures arrivals lo hi x n x
  none_sooner n e = record {
    met = inl refl;
    start_not_less = omega arith;
    points_not_less = λ k l from to. let here = every_below not_sooner n e k l in grind (arith, nat_tests);
  }

-- whether it is what is taken at one of the segment's ends, and no point between takes less
abbrev right : (i a : ℕ) → Bool
right i a =
    eqb (known i a) (min (travel_time town a (get_or firsts i 0)) (travel_time town a (segment_end firsts i - 1)))
    && every (not_sooner (own_points town town.departures a) (own_points town town.arrivals a) (get_or firsts i 0) (segment_end firsts i - 1) (known i a)) (length (own_points town town.departures a))

all_right : every (λ i. every (right i) 4) 3 ≡ true
unfolding every clock_carry entered first_of
all_right = refl

pub least_known : (i a : ℕ) → i < 3 → a < 4 → least_in_segment town firsts i a ≡ known i a
least_known i a l m =
    let one = every_below (right i) 4 (every_below (λ i. every (right i) 4) 3 all_right i l) a m in
    let departures = own_points town town.departures a in
    let arrivals = own_points town town.arrivals a in
    let lo = get_or firsts i 0 in
    let hi = segment_end firsts i - 1 in
    let x = known i a in
    let both = and_parts (eqb x (min (travel_time town a lo) (travel_time town a hi))) (every (not_sooner departures arrivals lo hi x) (length departures)) one in
    let given = ends_give town a m (can_enter a m) firsts day i l departures arrivals refl refl lo hi x x refl refl (eqb-true x (min (travel_time town a lo) (travel_time town a hi)) both.0) (none_sooner departures arrivals lo hi x (length departures) both.1) in
    sym (least_says town firsts i a x given).2
