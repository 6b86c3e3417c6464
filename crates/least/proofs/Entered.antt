-- How long an arc takes, second by second. Assumes nothing.
use Rattle.std.proofs.Common.{◌≡◌, ℕ, ◌+◌, ◌-◌, ◌<◌, ◌≤◌, true, ltb, List, length, drop, get_or, Some, sym, ap, ◌∙◌, subst, ⊎_elim, get_or-take, get_or-drop, length-drop, length-take-le, arith}
use Rattle.std.specs.Option.{unwrap_or}
use Rattle.std.specs.List.{slice_range}
use Rattle.std.proofs.lemmas.Bool.{cases_lt, cases_eq, lt-ltb}
use Rattle.clock.specs.Arrivals.{by_pair}
use Rattle.clock.specs.ClockLaws.{first, end, carry_there}
use Rattle.clock.specs.Entering.{Pair, pair_for, pair_at, departures_rise, entered_for}
use Rattle.clock.specs.Model.{clock_carry}
use Rattle.clock.specs.Points.{Open}
use Rattle.clock.specs.Tables.{Tables, own_points}
use Rattle.clock.specs.Timed.{Point, arc_point}
use Rattle.least.specs.Times.{travel_time}
use Rattle.least.proofs.Pieces.{outer_least, at_one, at_other}

-- a part of a list by its numbers
pub part_at : (list : List ℕ) (from to k : ℕ) → k < to - from → get_or (slice_range list from to) k 0 ≡ get_or list (from + k) 0
part_at list from to k m = get_or-take (to - from) (drop from list) k 0 m ∙ get_or-drop from list k 0

pub part_long : (list : List ℕ) (from to : ℕ) → to ≤ length list → length (slice_range list from to) ≡ to - from
part_long list from to fits = length-take-le (to - from) (drop from list) (let d = length-drop from list in omega arith)

module _ (t : Tables) (a : ℕ) (there : a < length t.heads) (can : Open t.points t.departures t.arrivals a) where
  -- the departure and the arrival at a place in the point lists
  abbrev pub departs_at : ℕ → ℕ
  departs_at p = get_or t.departures p 0

  abbrev pub arrives_at : ℕ → ℕ
  arrives_at p = get_or t.arrivals p 0

  each : (p : ℕ) → first t a ≤ p → p < end t a → Point t.departures t.arrivals (first t a) (end t a) p
  each p l m = arc_point t.points t.departures t.arrivals a p l m can.sound

  -- every second up to 86,400 is carried, later and within two days
  pub carried : (h : ℕ) → h ≤ 86400 → (q : ℕ) × (clock_carry t a h ≡ Some q) × (h < q) × (q ≤ 172800)
  carried h l =
      let r = entered_for t.departures t.arrivals (first t a) (end t a) can.two each h l in
      (r.0, carry_there t a h there l ∙ r.1, r.2, r.3)

  in_pair : (h i : ℕ) → h ≤ 86400 → Pair t.departures t.arrivals (first t a) (end t a) can.two each h i → travel_time t a h ≡ by_pair t.departures t.arrivals (first t a + i) h - h
  in_pair h i l p = ap (λ o. unwrap_or o 0 - h) (carry_there t a h there l ∙ pair_at t.departures t.arrivals (first t a) (end t a) can.two each h i p)

  inner : (h p : ℕ) → first t a ≤ p → p + 1 < end t a → departs_at p ≤ h → (first t a < p → departs_at p < h) → h ≤ departs_at (p + 1) → travel_time t a h ≡ by_pair t.departures t.arrivals p h - h
  inner h p l m low strict high =
      let e : first t a + (p - first t a) ≡ p = omega arith in
      let few = (each (p + 1) (omega arith) m).low in
      let pair : Pair t.departures t.arrivals (first t a) (end t a) can.two each h (p - first t a) =
      record {
        inside = omega arith;
        low = subst (λ k. departs_at k ≤ h) (sym e) low;
        high = subst (λ k. h ≤ departs_at (k + 1)) (sym e) high;
        earlier = λ j n.
            let s = strict (omega arith) in
            let r = departures_rise t.departures t.arrivals (first t a) (end t a) can.two each (first t a + j + 1) p (omega arith) (omega arith) (omega arith) in
            omega arith;
      } in
      subst (λ k. travel_time t a h ≡ by_pair t.departures t.arrivals k h - h) e (in_pair h (p - first t a) (omega arith) pair)

  at_first : travel_time t a (departs_at (first t a)) ≡ arrives_at (first t a) - departs_at (first t a)
  at_first =
      let two = can.two in
      let rise = (each (first t a + 1) (omega arith) (omega arith)).rise (omega arith) in
      let e : first t a + 1 - 1 ≡ first t a = omega arith in
      let r = subst (λ k. departs_at k < departs_at (first t a + 1)) e rise in
      let i = inner (departs_at (first t a)) (first t a) (omega arith) (omega arith) (omega arith) (λ l. absurd (omega arith)) (omega arith) in
      let o = at_one (departs_at (first t a)) (arrives_at (first t a)) (departs_at (first t a + 1)) (arrives_at (first t a + 1)) in
      omega arith

  at_later : (p : ℕ) → first t a ≤ p → p + 1 < end t a → travel_time t a (departs_at (p + 1)) ≡ arrives_at (p + 1) - departs_at (p + 1)
  at_later p l m =
      let q = each (p + 1) (omega arith) m in
      let e : p + 1 - 1 ≡ p = omega arith in
      let rise = subst (λ k. departs_at k < departs_at (p + 1)) e (q.rise (omega arith)) in
      let keeps = subst (λ k. arrives_at k ≤ arrives_at (p + 1)) e (q.in_order (omega arith)) in
      let i = inner (departs_at (p + 1)) p l m (omega arith) (λ n. rise) (omega arith) in
      let o = at_other (departs_at p) (arrives_at p) (departs_at (p + 1)) (arrives_at (p + 1)) rise keeps in
      omega arith

  -- entered at a point, it takes what the point says
  pub at_point : (p : ℕ) → first t a ≤ p → p < end t a → travel_time t a (departs_at p) ≡ arrives_at p - departs_at p
  at_point p l m =
      let P : ℕ → Type 0 = λ k. travel_time t a (departs_at k) ≡ arrives_at k - departs_at k in
      ⊎_elim
      (λ e. subst P (sym e) at_first)
      (λ n. let e : p - 1 + 1 ≡ p = omega arith in subst P e (at_later (p - 1) (omega arith) (omega arith)))
      (cases_eq p (first t a))

  -- between two neighbouring points it takes what their line says
  pub on_line : (h p : ℕ) → first t a ≤ p → p + 1 < end t a → departs_at p ≤ h → h ≤ departs_at (p + 1) → travel_time t a h ≡ by_pair t.departures t.arrivals p h - h
  on_line h p l m low high =
      ⊎_elim
      (λ e.
      let k = at_point p l (omega arith) in
      let o = at_one (departs_at p) (arrives_at p) (departs_at (p + 1)) (arrives_at (p + 1)) in
      subst (λ x. travel_time t a x ≡ by_pair t.departures t.arrivals p x - x) (sym e) (omega arith))
      (λ n. inner h p l m low (λ s. omega arith) high)
      (cases_eq h (departs_at p))

  -- what is no more than the times at both ends, and at the points between, is no more than the time at any second
  pub ends_tell : (from last x : ℕ) → last ≤ 86400 → x ≤ travel_time t a from → x ≤ travel_time t a last → ((p : ℕ) → first t a ≤ p → p < end t a → from ≤ departs_at p → departs_at p ≤ last → x ≤ arrives_at p - departs_at p) → (h : ℕ) → from ≤ h → h ≤ last → x ≤ travel_time t a h
  ends_tell from last x few at_from at_last at_points h l m =
      let found = pair_for t.departures t.arrivals (first t a) (end t a) can.two each h (omega arith) in
      let p : ℕ = first t a + found.0 in
      let inside = found.1.inside in
      let low : departs_at p ≤ h = found.1.low in
      let high : h ≤ departs_at (p + 1) = found.1.high in
      let rise : departs_at p < departs_at (p + 1) = apart p (omega arith) (omega arith) in
      let here = on_line h p (omega arith) (omega arith) low high in
      let lo : (s : ℕ) × (departs_at p ≤ s) × (s ≤ h) × (x ≤ travel_time t a s) =
      ⊎_elim
      (λ n. (from, omega arith, l, at_from))
      (λ n. (departs_at p, omega arith, low, let k = at_point p (omega arith) (omega arith) in let q = at_points p (omega arith) (omega arith) n (omega arith) in omega arith))
      (cases_lt (departs_at p) from) in
      let hi : (s : ℕ) × (s ≤ departs_at (p + 1)) × (h ≤ s) × (x ≤ travel_time t a s) =
      ⊎_elim
      (λ n. (last, omega arith, m, at_last))
      (λ n. (departs_at (p + 1), omega arith, high, let k = at_point (p + 1) (omega arith) (omega arith) in let q = at_points (p + 1) (omega arith) (omega arith) (omega arith) n in omega arith))
      (cases_lt last (departs_at (p + 1))) in
      let y = lo.1 in
      let z = hi.1 in
      let u = lo.2 in
      let v = hi.2 in
      let at_lo = on_line lo.0 p (omega arith) (omega arith) y (omega arith) in
      let at_hi = on_line hi.0 p (omega arith) (omega arith) (omega arith) z in
      let xl = lo.3 in
      let xh = hi.3 in
      ⊎_elim (λ k. omega arith) (λ k. omega arith)
      (outer_least (departs_at p) (arrives_at p) (departs_at (p + 1)) (arrives_at (p + 1)) lo.0 h hi.0 rise y u v)
    where
      apart : (p : ℕ) → first t a ≤ p → p + 1 < end t a → departs_at p < departs_at (p + 1)
      apart p l m = let e : p + 1 - 1 ≡ p = omega arith in subst (λ k. departs_at k < departs_at (p + 1)) e ((each (p + 1) (omega arith) m).rise (omega arith))

  -- the arc's own points, among all
  pub own_at : (list : List ℕ) (k : ℕ) → k < end t a - first t a → get_or (own_points t list a) k 0 ≡ get_or list (first t a + k) 0
  own_at list k l = let e : ltb a (length t.heads) ≡ true = lt-ltb a (length t.heads) there in rw e (part_at list (first t a) (end t a) k l)

  pub own_long : (list : List ℕ) → end t a ≤ length list → length (own_points t list a) ≡ end t a - first t a
  own_long list l = let e : ltb a (length t.heads) ≡ true = lt-ltb a (length t.heads) there in rw e (part_long list (first t a) (end t a) l)

  -- as many arrivals as departures, and each later
  pub own_alike : length (own_points t t.arrivals a) ≡ length (own_points t t.departures a)
  own_alike =
      let w = can.within in
      let e = can.alike in
      let d = own_long t.departures (omega arith) in
      let b = own_long t.arrivals (omega arith) in
      omega arith

  pub own_later : (k : ℕ) → k < length (own_points t t.departures a) → get_or (own_points t t.departures a) k 0 ≤ get_or (own_points t t.arrivals a) k 0
  own_later k l =
      let long = own_long t.departures can.within in
      let d = own_at t.departures k (omega arith) in
      let b = own_at t.arrivals k (omega arith) in
      let p = (each (first t a + k) (omega arith) (omega arith)).later in
      omega arith
