-- An arc's least time in a segment, told by the ends of its lines; and what it says of each second. Assumes nothing.
use Rattle.std.proofs.Common.{◌≡◌, ℕ, ◌+◌, ◌-◌, ◌<◌, ◌≤◌, min, ltb, ◌&&◌, List, length, get_or, vec_items, Some, None, Option, refl, sym, ap, ◌∙◌, ⊎_elim, arith}
use Rattle.std.specs.Option.{unwrap_or, option_map}
use Rattle.std.proofs.lemmas.Bool.{cases_lt, lt-ltb, ltb-true, and_from, and_parts}
use Rattle.std.proofs.lemmas.Bool.Decides.{nat_tests}
use Rattle.network.proofs.First.{clash, provided_true}
use Rattle.network.proofs.Following.{some_same, provided_says}
use Rattle.clock.specs.ClockLaws.{first, end, carry_no_arc, carry_too_late, roads_open}
use Rattle.clock.specs.Held.{road_lists}
use Rattle.clock.specs.Model.{clock_carry}
use Rattle.clock.specs.Points.{Open}
use Rattle.clock.specs.Tables.{Tables, own_points}
use Rattle.clock.specs.declared.roads.ClockRoads.{ClockRoads}
use Rattle.least.specs.Held.{day_firsts}
use Rattle.least.specs.Points.{LeastAtPoints}
use Rattle.least.specs.Segments.{segment_end, segment_at}
use Rattle.least.specs.Times.{travel_time, least_over, least_in_segment, least_travel_time}
use Rattle.least.specs.declared.day.Day.{Day}
use Rattle.least.proofs.Cuts.{Whole, whole_says, span_within, found_holds}
use Rattle.least.proofs.Entered.{carried, at_point, ends_tell, own_at, own_long}
use Rattle.least.proofs.Minimum.{least_below, least_met, least_is}

least_is_over : (t : Tables) (firsts : List ℕ) (s a : ℕ) → least_in_segment t firsts s a ≡ least_over (travel_time t a) (get_or firsts s 0) (segment_end firsts s - 1 - get_or firsts s 0)
unfolding least_in_segment
least_is_over t firsts s a = refl

-- where both are there and where not
pub least_where : (t : Tables) (firsts : List ℕ) (s a : ℕ) → s < length firsts → a < length t.heads → least_travel_time t firsts s a ≡ Some (least_in_segment t firsts s a)
least_where t firsts s a l m = provided_true _ _ (and_from _ _ (lt-ltb s (length firsts) l) (lt-ltb a (length t.heads) m))

pub least_says : (t : Tables) (firsts : List ℕ) (s a x : ℕ) → least_travel_time t firsts s a ≡ Some x → (s < length firsts) × (a < length t.heads) × (x ≡ least_in_segment t firsts s a)
least_says t firsts s a x e =
    let k = provided_says (ltb s (length firsts) && ltb a (length t.heads)) (least_in_segment t firsts s a) x e in
    let both = and_parts (ltb s (length firsts)) (ltb a (length t.heads)) k.0 in
    (ltb-true s (length firsts) both.0, ltb-true a (length t.heads) both.1, sym k.1)

pub no_segment : (t : Tables) (firsts : List ℕ) (s a : ℕ) → length firsts ≤ s → least_travel_time t firsts s a ≡ None
no_segment t firsts s a l = grind (arith, nat_tests)

pub no_arc : (t : Tables) (firsts : List ℕ) (s a : ℕ) → length t.heads ≤ a → least_travel_time t firsts s a ≡ None
no_arc t firsts s a l = grind (arith, nat_tests)

-- of an arc that can be entered, in a segment of a day
module _ (t : Tables) (a : ℕ) (there : a < length t.heads) (can : Open t.points t.departures t.arrivals a) (firsts : List ℕ) (w : Whole firsts) (s : ℕ) (here : s < length firsts) where
  abbrev from : ℕ
  from = get_or firsts s 0

  abbrev last : ℕ
  last = segment_end firsts s - 1

  -- what is the least of the times at both ends and at the arc's points between is the least time
  module _ (departures arrivals : List ℕ) (own : departures ≡ own_points t t.departures a) (own_too : arrivals ≡ own_points t t.arrivals a) (lo hi start x : ℕ) (at_lo : lo ≡ from) (at_hi : hi ≡ last) (starts : start ≡ min (travel_time t a lo) (travel_time t a hi)) (found : LeastAtPoints departures arrivals lo hi start (length departures) x) where
    long : length departures ≡ end t a - first t a
    long = ap length own ∙ own_long t a there can t.departures can.within

    departs : (k : ℕ) → k < end t a - first t a → get_or departures k 0 ≡ get_or t.departures (first t a + k) 0
    departs k l = ap (λ l. get_or l k 0) own ∙ own_at t a there can t.departures k l

    arrives : (k : ℕ) → k < end t a - first t a → get_or arrivals k 0 ≡ get_or t.arrivals (first t a + k) 0
    arrives k l = ap (λ l. get_or l k 0) own_too ∙ own_at t a there can t.arrivals k l

    one : (h : ℕ) × (from ≤ h) × (h ≤ last) × (travel_time t a h ≡ x)
    one =
        let l = (span_within firsts w s here).0 in
        let u = ap (travel_time t a) at_lo in
        let v = ap (travel_time t a) at_hi in
        ⊎_elim
        (λ e. ⊎_elim
        (λ m. (from, omega arith, omega arith, omega arith))
        (λ m. (last, omega arith, omega arith, omega arith))
        (cases_lt (travel_time t a from) (travel_time t a last)))
        (λ k.
        let g = long in
        let i = k.1 in
        let d = departs k.0 (omega arith) in
        let b = arrives k.0 (omega arith) in
        let p = at_point t a there can (first t a + k.0) (omega arith) (omega arith) in
        let low = k.2 in
        let high = k.3 in
        let is = k.4 in
        (get_or t.departures (first t a + k.0) 0, omega arith, omega arith, omega arith))
        found.met

    none_less : (h : ℕ) → from ≤ h → h ≤ from + (last - from) → x ≤ travel_time t a h
    none_less h l m =
        let below = found.start_not_less in
        let span = span_within firsts w s here in
        let some = span.0 in
        let few = span.1 in
        let u = ap (travel_time t a) at_lo in
        let v = ap (travel_time t a) at_hi in
        ends_tell t a there can from last x (omega arith) (omega arith) (omega arith)
        (λ p n o low high.
        let g = long in
        let e : first t a + (p - first t a) ≡ p = omega arith in
        let d = departs (p - first t a) (omega arith) ∙ ap (λ i. get_or t.departures i 0) e in
        let b = arrives (p - first t a) (omega arith) ∙ ap (λ i. get_or t.arrivals i 0) e in
        let q = found.points_not_less (p - first t a) (omega arith) (omega arith) (omega arith) in
        omega arith)
        h l (omega arith)

    pub ends_give : least_travel_time t firsts s a ≡ Some x
    ends_give =
        let o = one in
        let m = o.2 in
        least_where t firsts s a here there ∙ ap Some (least_is_over t firsts s a ∙ least_is (travel_time t a) from (last - from) x o.0 o.1 (omega arith) o.3 none_less)

  -- some second of the segment takes just the least time
  pub least_reached : (h : ℕ) × (from ≤ h) × (h < segment_end firsts s) × (clock_carry t a h ≡ Some (h + least_in_segment t firsts s a))
  least_reached =
      let span = span_within firsts w s here in
      let some = span.0 in
      let few = span.1 in
      let r = least_met (travel_time t a) from (last - from) in
      let l = r.1 in
      let m = r.2 in
      let is = r.3 in
      let c = carried t a there can r.0 (omega arith) in
      let v = ap (λ o. unwrap_or o 0 - r.0) c.1 in
      let later = c.2 in
      let over = least_is_over t firsts s a in
      (r.0, l, omega arith, c.1 ∙ ap Some (let e : c.0 ≡ r.0 + least_in_segment t firsts s a = omega arith in e))

  -- and who enters in the segment arrives no sooner than by it
  pub no_sooner : (h q : ℕ) → from ≤ h → h < segment_end firsts s → clock_carry t a h ≡ Some q → h + least_in_segment t firsts s a ≤ q
  no_sooner h q l m e =
      let v = ap (λ o. unwrap_or o 0 - h) e in
      let b = least_below (travel_time t a) from (last - from) h l (omega arith) in
      let few = (span_within firsts w s here).1 in
      let c = carried t a there can h (omega arith) in
      let k = some_same (clock_carry t a h) q c.0 e c.1 in
      let later = c.2 in
      let over = least_is_over t firsts s a in
      omega arith

  pub least_within : (1 ≤ least_in_segment t firsts s a) × (least_in_segment t firsts s a ≤ 172800)
  least_within =
      let r = least_reached in
      let few = (span_within firsts w s here).1 in
      let h = r.2 in
      let c = carried t a there can r.0 (omega arith) in
      let k = some_same (clock_carry t a r.0) c.0 (r.0 + least_in_segment t firsts s a) c.1 r.3 in
      let later = c.2 in
      let bounded = c.3 in
      (omega arith, omega arith)

-- what clock roads carry: an arc that is there, from no later than 86,400, to a later second
pub carries_later : (r : ClockRoads) (a h q : ℕ) → clock_carry (road_lists r) a h ≡ Some q → (a < length (vec_items r.streets.heads)) × (h ≤ 86400) × (h < q)
carries_later r a h q e =
    ⊎_elim
    (λ l. ⊎_elim
    (λ m. clash (clock_carry t a h) q e (carry_too_late t a h m))
    (λ m.
    let c = carried t a l (roads_open r a l) h m in
    let k = some_same (clock_carry t a h) q c.0 e c.1 in
    let o = c.2 in
    (l, m, omega arith))
    (cases_lt 86400 h))
    (λ l. clash (clock_carry t a h) q e (carry_no_arc t a h l))
    (cases_lt a (length t.heads))
  where
    t : Tables
    t = road_lists r

-- whether an arc is there is told by whether a second is carried
pub carried_there : (r : ClockRoads) (a h x : ℕ) → Some x ≡ option_map (λ q. q - h) (clock_carry (road_lists r) a h) → (a < length (vec_items r.streets.heads)) × (x ≡ travel_time (road_lists r) a h)
carried_there r a h x e = go (clock_carry (road_lists r) a h) refl
  where
    go : (o : Option ℕ) → clock_carry (road_lists r) a h ≡ o → (a < length (vec_items r.streets.heads)) × (x ≡ travel_time (road_lists r) a h)
    go None i = clash (option_map (λ q. q - h) (clock_carry (road_lists r) a h)) x (sym e) (ap (λ o. option_map (λ q. q - h) o) i)
    go (Some q) i =
        let k = some_same (option_map (λ q. q - h) (clock_carry (road_lists r) a h)) x (q - h) (sym e) (ap (λ o. option_map (λ q. q - h) o) i) in
        ((carries_later r a h q i).0, k ∙ sym (ap (λ o. unwrap_or o 0 - h) i))

pub not_carried : (r : ClockRoads) (a h : ℕ) → h ≤ 86400 → None ≡ option_map (λ q. q - h) (clock_carry (road_lists r) a h) → length (vec_items r.streets.heads) ≤ a
not_carried r a h l e =
    ⊎_elim
    (λ m.
    let c = carried (road_lists r) a m (roads_open r a m) h l in
    clash (option_map (λ q. q - h) (clock_carry (road_lists r) a h)) (c.0 - h) (ap (λ o. option_map (λ q. q - h) o) c.1) (sym e))
    (λ m. m)
    (cases_lt a (length (vec_items r.streets.heads)))

-- the least time of an arc of clock roads in a segment of a day
module _ (r : ClockRoads) (d : Day) (s a x : ℕ) (is : least_travel_time (road_lists r) (day_firsts d) s a ≡ Some x) where
  abbrev t : Tables
  t = road_lists r

  abbrev firsts : List ℕ
  firsts = day_firsts d

  says : (s < length firsts) × (a < length t.heads) × (x ≡ least_in_segment t firsts s a)
  says = least_says t firsts s a x is

  whole : Whole firsts
  whole = whole_says firsts d.whole

  pub least_time_within : (1 ≤ x) × (x ≤ 172800)
  least_time_within =
      let k = says.2 in
      let b = least_within t a says.1 (roads_open r a says.1) firsts whole s says.0 in
      let low = b.0 in
      let high = b.1 in
      (omega arith, omega arith)

  -- who enters in the segment arrives no sooner than by the least time
  pub arrives_no_sooner : (h q : ℕ) → segment_at firsts h ≡ Some s → clock_carry t a h ≡ Some q → h + x ≤ q
  arrives_no_sooner h q i e =
      let k = says.2 in
      let f = found_holds firsts whole s h i in
      let n = no_sooner t a says.1 (roads_open r a says.1) firsts whole s says.0 h q f.1 f.2 e in
      omega arith
