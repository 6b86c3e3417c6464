-- Entering an arc: the pair of points around a second, and what it gives. Assumes nothing.
use Rattle.std.specs.Prelude.{◌≡◌, ℕ, zero, suc, ◌+◌, ◌-◌, ◌<◌, ◌≤◌, max, List, length, take, drop, Some, nat_le, slice_index, slice_index_or, slice_range, refl}
use Rattle.std.proofs.Common.{sym, subst, ◌∙◌, ⊎_elim, arith, length-drop, get_or-take, get_or-drop, length-take-le}
use Rattle.std.proofs.lemmas.Bool.{cases_lt, cases_eq, le-leb, lt-leb}
use Rattle.network.specs.First.{provided}
use Rattle.network.specs.Lists.{LowerBound}
use Rattle.network.proofs.First.{first_at, provided_true, provided_false, climb}
use Rattle.network.proofs.Following.{some_same}
use Rattle.clock.specs.Arrivals.{between, by_pair, entered}
use Rattle.clock.specs.Lines.{line_within, line_rises, line_later}
use Rattle.clock.specs.Points.{Open}
use Rattle.clock.specs.Timed.{Point, arc_point}

-- the points of one arc, from `first` to before `end`
module _ (departures arrivals : List ℕ) (first end : ℕ) (two : first + 2 ≤ end) (each : (p : ℕ) → first ≤ p → p < end → Point departures arrivals first end p) where
  -- the first pair whose second departure t does not pass
  pub record Pair (t i : ℕ) : Type 0 where
    pub inside : i + 1 < end - first
    pub low : slice_index_or departures (first + i) 0 ≤ t
    pub high : t ≤ slice_index departures (first + i + 1)
    pub earlier : (j : ℕ) → j < i → slice_index departures (first + j + 1) < t

  pub departures_rise : (i j : ℕ) → first ≤ i → i ≤ j → j < end → slice_index departures i ≤ slice_index departures j
  departures_rise =
      climb (λ p. slice_index departures p) first end (λ p l m. let r = (each (suc p) (omega arith) m).rise (omega arith) in grind arith)

  pub arrivals_rise : (i j : ℕ) → first ≤ i → i ≤ j → j < end → slice_index arrivals i ≤ slice_index arrivals j
  arrivals_rise =
      climb (λ p. slice_index arrivals p) first end (λ p l m. let r = (each (suc p) (omega arith) m).in_order (omega arith) in grind arith)

  -- every pair's second departure is after its first
  pair_rises : (i : ℕ) → i + 1 < end - first → slice_index departures (first + i) < slice_index departures (first + i + 1)
  pair_rises i l = let r = (each (first + i + 1) (omega arith) (omega arith)).rise (omega arith) in grind arith

  least : (t n : ℕ) → n + 1 < end - first → t ≤ slice_index departures (first + n + 1) → (i : ℕ) × Pair t i
  least t zero k h = let z = (each first (omega arith) (omega arith)).at_first refl in (0, record { inside = k; low = grind arith; high = h; earlier = λ j l. absurd (omega arith) })
  least t (suc n) k h =
      ⊎_elim
      (λ m. (
        suc n,
        record {
          inside = k;
          low = grind arith;
          high = h;
          earlier = λ j l. let r = departures_rise (first + j + 1) (first + n + 1) (omega arith) (omega arith) (omega arith) in omega arith;
        },
      ))
      (λ m. least t n (omega arith) m)
      (cases_lt (slice_index departures (first + n + 1)) t)

  -- up to 86,400 there is always such a pair
  pub pair_for : (t : ℕ) → t ≤ 86400 → (i : ℕ) × Pair t i
  pair_for t l =
      let e : end - 1 ≡ first + (end - first - 2) + 1 = omega arith in
      let z = (each (end - 1) (omega arith) (omega arith)).at_last (omega arith) in
      least t (end - first - 2) (omega arith) (subst (λ p. t ≤ slice_index departures p) e (omega arith))

  pub pair_at : (t i : ℕ) → Pair t i → entered departures arrivals first (end - first) t ≡ Some (by_pair departures arrivals (first + i) t)
  unfolding entered
  pair_at t i p =
      first_at (λ k. provided (nat_le t (slice_index departures (first + k + 1))) (by_pair departures arrivals (first + k) t)) (end - first - 1) i (by_pair departures arrivals (first + i) t) (let h = p.inside in omega arith)
      (λ j l. provided_false (nat_le t (slice_index departures (first + j + 1))) (by_pair departures arrivals (first + j) t) (lt-leb t (slice_index departures (first + j + 1)) (p.earlier j l)))
      (provided_true (nat_le t (slice_index departures (first + i + 1))) (by_pair departures arrivals (first + i) t) (le-leb t (slice_index departures (first + i + 1)) p.high))

  -- what a pair gives lies between its arrivals, and after t
  pub pair_within : (t i : ℕ) → Pair t i → (slice_index arrivals (first + i) ≤ by_pair departures arrivals (first + i) t) × (by_pair departures arrivals (first + i) t ≤ slice_index arrivals (first + i + 1)) × (t < by_pair departures arrivals (first + i) t)
  pair_within t i p =
      let k = p.inside in
      let a = arrivals_rise (first + i) (first + i + 1) (omega arith) (omega arith) (omega arith) in
      let w = line_within (slice_index departures (first + i)) (slice_index arrivals (first + i)) (slice_index departures (first + i + 1)) (slice_index arrivals (first + i + 1)) t p.low p.high a in
      (w.0, w.1, line_later (slice_index departures (first + i)) (slice_index arrivals (first + i)) (slice_index departures (first + i + 1)) (slice_index arrivals (first + i + 1)) t p.low p.high (pair_rises i k) a (each (first + i) (omega arith) (omega arith)).later (each (first + i + 1) (omega arith) (omega arith)).later)

  -- who enters no later comes by no later pair, and arrives no later
  pub pair_order : (t u i k : ℕ) → t ≤ u → Pair t i → Pair u k → by_pair departures arrivals (first + i) t ≤ by_pair departures arrivals (first + k) u
  pair_order t u i k l p q =
      ⊎_elim
      (λ e. subst (λ n. by_pair departures arrivals (first + i) t ≤ by_pair departures arrivals (first + n) u) e (line_rises (slice_index departures (first + i)) (slice_index arrivals (first + i)) (slice_index departures (first + i + 1)) (slice_index arrivals (first + i + 1)) t u (pair_rises i p.inside) l))
      (λ e. ⊎_elim
      (λ m.
      let x = (pair_within t i p).1 in
      let y = (pair_within u k q).0 in
      let z = q.inside in
      let r = arrivals_rise (first + i + 1) (first + k) (omega arith) (omega arith) (omega arith) in
      omega arith)
      (λ m. let r = p.earlier k (omega arith) in let h = q.high in absurd (omega arith))
      (cases_lt i k))
      (cases_eq i k)

  -- so an arc carries every second up to 86,400
  pub entered_for : (t : ℕ) → t ≤ 86400 → (q : ℕ) × (entered departures arrivals first (end - first) t ≡ Some q) × (t < q) × (q ≤ 172800)
  entered_for t l =
      let p = pair_for t l in
      let w = pair_within t p.0 p.1 in
      let k = p.1.inside in
      let f = (each (first + p.0 + 1) (omega arith) (omega arith)).few in
      let h = w.1 in
      (by_pair departures arrivals (first + p.0) t, pair_at t p.0 p.1, w.2, omega arith)

  pub entered_order : (t u : ℕ) → t ≤ u → u ≤ 86400 → (p q : ℕ) → entered departures arrivals first (end - first) t ≡ Some p → entered departures arrivals first (end - first) u ≡ Some q → p ≤ q
  entered_order t u l m p q e f =
      let i = pair_for t (omega arith) in
      let k = pair_for u m in
      let o = pair_order t u i.0 k.0 l i.1 k.1 in
      let x = some_same (entered departures arrivals first (end - first) t) p (by_pair departures arrivals (first + i.0) t) e (pair_at t i.0 i.1) in
      let y = some_same (entered departures arrivals first (end - first) u) q (by_pair departures arrivals (first + k.0) u) f (pair_at u k.0 k.1) in
      omega arith

  -- the arc's own departures, as a part of the list
  part_at : (k : ℕ) → k < end - first → slice_index (slice_range departures first end) k ≡ slice_index departures (first + k)
  part_at k m = get_or-take (end - first) (drop first departures) k 0 m ∙ get_or-drop first departures k 0

  part_long : end ≤ length departures → length (slice_range departures first end) ≡ end - first
  part_long fits = length-take-le (end - first) (drop first departures) (let d = length-drop first departures in omega arith)

  -- the pair by a lower bound in them
  pub bound_pair : (t r : ℕ) → end ≤ length departures → t ≤ 86400 → LowerBound (slice_range departures first end) t r → Pair t (max r 1 - 1)
  bound_pair t r fits l b =
      ⊎_elim
      (λ z. subst (λ i. Pair t i) (let e : 0 ≡ max r 1 - 1 = omega arith in e) (at_start (omega arith)))
      (λ s. subst (λ i. Pair t i) (let e : r - 1 ≡ max r 1 - 1 = omega arith in e) (further s))
      (cases_lt r 1)
    where
      short : r < end - first
      short =
          ⊎_elim (λ m. m)
          (λ m.
          let w = b.within in
          let g = part_long fits in
          let e : r ≡ end - first = omega arith in
          let h = b.before (omega arith) in
          let a = part_at (r - 1) (omega arith) in
          let f : first + (r - 1) ≡ end - 1 = omega arith in
          let k = subst (λ p. slice_index departures p < t) f (subst (λ x. x < t) a h) in
          let z = (each (end - 1) (omega arith) (omega arith)).at_last (omega arith) in
          absurd (omega arith))
          (cases_lt r (end - first))

      here : t ≤ slice_index departures (first + r)
      here = let g = part_long fits in subst (λ x. t ≤ x) (part_at r short) (b.after (omega (arith, short)))

      at_start : r ≡ 0 → Pair t 0
      at_start z =
          let h = here in
          let n = (each first (omega arith) (omega arith)).at_first refl in
          let r = pair_rises 0 (omega arith) in
          record { inside = omega arith; low = grind arith; high = grind arith; earlier = λ j m. absurd (omega arith) }

      further : 1 ≤ r → Pair t (r - 1)
      further s =
          let h = subst (λ x. x < t) (part_at (r - 1) (omega (arith, short))) (b.before (omega arith)) in
          let k = here in
          record {
            inside = omega (arith, short);
            low = omega arith;
            high = grind arith;
            earlier = λ j m. let d = departures_rise (first + j + 1) (first + (r - 1)) (omega arith) (omega arith) (omega (arith, short)) in omega arith;
          }

  -- the pair before and at place first + k
  pub record Around (t k : ℕ) : Type 0 where
    pub within : first + k < end
    pub low : slice_index_or departures (first + k - 1) 0 ≤ t
    pub high : t ≤ slice_index departures (first + k)
    pub apart : slice_index_or departures (first + k - 1) 0 < slice_index departures (first + k)
    pub in_order : slice_index_or arrivals (first + k - 1) 0 ≤ slice_index arrivals (first + k)
    pub gives : entered departures arrivals first (end - first) t ≡ Some (between (slice_index departures (first + k - 1)) (slice_index arrivals (first + k - 1)) (slice_index departures (first + k)) (slice_index arrivals (first + k)) t)

  pub around : (t k : ℕ) → 1 ≤ k → Pair t (k - 1) → Around t k
  around t k l p =
      let e : first + (k - 1) ≡ first + k - 1 = omega arith in
      let f : first + (k - 1) + 1 ≡ first + k = omega arith in
      let n = p.inside in
      let d = pair_rises (k - 1) n in
      let a = arrivals_rise (first + (k - 1)) (first + (k - 1) + 1) (omega arith) (omega arith) (omega arith) in
      let g = pair_at t (k - 1) p in
      record {
        within = omega arith;
        low = let h = p.low in grind arith;
        high = let h = p.high in grind arith;
        apart = grind arith;
        in_order = grind arith;
        gives = rw (← e, ← f) g;
      }

-- and by a lower bound, in an arc that can be entered
pub around_bound : (points departures arrivals : List ℕ) (arc t r k : ℕ) (can : Open points departures arrivals arc) → t ≤ 86400 → LowerBound (take (slice_index points (arc + 1) - slice_index points arc) (drop (slice_index points arc) departures)) t r → k ≡ max r 1 → Around departures arrivals (slice_index points arc) (slice_index points (arc + 1)) can.two (λ p l m. arc_point points departures arrivals arc p l m can.sound) t k
around_bound points departures arrivals arc t r k can l b e =
    let first : ℕ = slice_index_or points arc 0 in
    let end : ℕ = slice_index_or points (arc + 1) 0 in
    let each = λ (p : ℕ) (l : first ≤ p) (m : p < end). arc_point points departures arrivals arc p l m can.sound in
    let pair = bound_pair departures arrivals first end can.two each t r can.within l b in
    around departures arrivals first end can.two each t k (omega arith) (subst (λ n. Pair departures arrivals first end can.two each t (n - 1)) (sym e) pair)
