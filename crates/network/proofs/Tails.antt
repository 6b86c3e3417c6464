-- An arc's tail, by where the arc stands among the arc starts. Assumes nothing.
use Rattle.std.proofs.Common.{◌≡◌, ℕ, zero, suc, ◌+◌, ◌-◌, ◌<◌, ◌≤◌, Bool, false, ◌&&◌, eqb, ltb, leb, List, length, get_or, Some, None, unwrap_or, sym, ap, subst, ⊎_elim, add-one, arith}
use Rattle.std.proofs.lemmas.Bool.{cases_lt, lt-ltb, le-ltb, le-leb, lt-leb, eq-eqb, ne_eqb, and_from, and_left, and_right}
use Rattle.network.specs.First.{provided}
use Rattle.network.specs.Lists.{tail_of, LowerBound}
use Rattle.network.specs.Model.{leaving}
use Rattle.network.proofs.First.{first_at, first_none, provided_true, provided_false, climb}
use Rattle.network.proofs.Refusing.{Runs, Arcs}

-- a list that does not fall
pub rises : (list : List ℕ) (step last : ℕ) → Runs list step last → (i j : ℕ) → i ≤ j → j < length list → get_or list i 0 ≤ get_or list j 0
rises list step last run i j l m =
    climb (λ k. get_or list k 0) 0 (length list)
    (λ k z n. subst (λ w. get_or list k 0 ≤ get_or list w 0) (add-one k) (let r = run.steps k (omega arith) in omega arith))
    i j (omega arith) l m

module _ (starts heads : List ℕ) (ok : Arcs starts heads) where
  -- the junction among whose arcs an arc stands is its tail
  pub tail_at : (a v : ℕ) → v < length starts - 1 → get_or starts v 0 ≤ a → a < get_or starts (v + 1) 0 → tail_of starts a ≡ v
  unfolding tail_of
  tail_at a v l from to = ap (λ o. unwrap_or o 0) (first_at (λ w. provided (ltb a (get_or starts (w + 1) 0)) w) (length starts - 1) v v l before here)
    where
      here : provided (ltb a (get_or starts (v + 1) 0)) v ≡ Some v
      here = provided_true (ltb a (get_or starts (v + 1) 0)) v (lt-ltb a (get_or starts (v + 1) 0) to)

      before : (w : ℕ) → w < v → provided (ltb a (get_or starts (w + 1) 0)) w ≡ None
      before w m = provided_false (ltb a (get_or starts (w + 1) 0)) w (le-ltb a (get_or starts (w + 1) 0) (let r = rises starts 0 (length heads) ok.run (w + 1) v (omega arith) (omega arith) in omega arith))

  -- where an arc stands: by going through the junctions below n
  stands_below : (n a : ℕ) → n < length starts → a < get_or starts n 0 → (v : ℕ) × (v < n) × (get_or starts v 0 ≤ a) × (a < get_or starts (v + 1) 0)
  stands_below zero a l h = absurd (let z = ok.run.from in omega arith)
  stands_below (suc n) a l h =
      ⊎_elim
      (λ m. let r = stands_below n a (omega arith) m in (r.0, omega arith, r.2, r.3))
      (λ m. (n, omega arith, m, subst (λ k. a < get_or starts k 0) (sym (add-one n)) h))
      (cases_lt a (get_or starts n 0))

  pub stands : (a : ℕ) → a < length heads → (v : ℕ) × (v < length starts - 1) × (get_or starts v 0 ≤ a) × (a < get_or starts (v + 1) 0)
  stands a l =
      let t = ok.two in
      let e = ok.run.to in
      stands_below (length starts - 1) a (omega arith) (omega arith)

  pub tail_says : (a : ℕ) → a < length heads → (tail_of starts a < length starts - 1) × (get_or starts (tail_of starts a) 0 ≤ a) × (a < get_or starts (tail_of starts a + 1) 0)
  tail_says a l =
      let s = stands a l in
      let e = tail_at a s.0 s.1 s.2 s.3 in
      subst (λ v. (v < length starts - 1) × (get_or starts v 0 ≤ a) × (a < get_or starts (v + 1) 0)) (sym e) (s.1, s.2, s.3)

  -- an arc leaves v exactly where it stands among v's arcs
  test : ℕ → ℕ → ℕ → Bool
  test v from a = leb from a && eqb (tail_of starts a) v

  pub leaves : (v from a : ℕ) → v < length starts - 1 → get_or starts v 0 ≤ a → from ≤ a → ((b : ℕ) → from ≤ b → get_or starts v 0 ≤ b → a ≤ b) → a < get_or starts (v + 1) 0 → leaving (length heads) (tail_of starts) v from ≡ Some a
  leaves v from a l low start least high =
      first_at (λ b. provided (leb from b && eqb (tail_of starts b) v) b) (length heads) a a inside before here
    where
      inside : a < length heads
      inside = let r = rises starts 0 (length heads) ok.run (v + 1) (length starts - 1) (omega arith) (omega arith) in let e = ok.run.to in omega arith

      here : provided (leb from a && eqb (tail_of starts a) v) a ≡ Some a
      here = provided_true (leb from a && eqb (tail_of starts a) v) a (and_from (leb from a) (eqb (tail_of starts a) v) (le-leb from a start) (eq-eqb (tail_of starts a) v (tail_at a v l low high)))

      before : (b : ℕ) → b < a → provided (leb from b && eqb (tail_of starts b) v) b ≡ None
      before b m = provided_false (leb from b && eqb (tail_of starts b) v) b (⊎_elim under over (cases_lt b from))
        where
          under : b < from → (leb from b && eqb (tail_of starts b) v) ≡ false
          under k = and_left (leb from b) (eqb (tail_of starts b) v) (lt-leb from b k)

          over : from ≤ b → (leb from b && eqb (tail_of starts b) v) ≡ false
          over k = and_right (leb from b) (eqb (tail_of starts b) v) (ne_eqb (tail_of starts b) v other)
            where
              other : tail_of starts b ≡ v → ⊥
              other e =
                  let t = tail_says b (omega (arith, inside)) in
                  let lowb : get_or starts v 0 ≤ b = subst (λ w. get_or starts w 0 ≤ b) e t.1 in
                  let r = least b k lowb in omega arith

  -- no arc at or after `from` leaves v where v's arcs end before
  pub leaves_none : (v from : ℕ) → ((a : ℕ) → a < length heads → from ≤ a → tail_of starts a ≡ v → ⊥) → leaving (length heads) (tail_of starts) v from ≡ None
  leaves_none v from h = first_none (λ b. provided (leb from b && eqb (tail_of starts b) v) b) (length heads) each
    where
      each : (b : ℕ) → b < length heads → provided (leb from b && eqb (tail_of starts b) v) b ≡ None
      each b l = provided_false (leb from b && eqb (tail_of starts b) v) b (⊎_elim under over (cases_lt b from))
        where
          under : b < from → (leb from b && eqb (tail_of starts b) v) ≡ false
          under k = and_left (leb from b) (eqb (tail_of starts b) v) (lt-leb from b k)

          over : from ≤ b → (leb from b && eqb (tail_of starts b) v) ≡ false
          over k = and_right (leb from b) (eqb (tail_of starts b) v) (ne_eqb (tail_of starts b) v (λ e. h b l k e))

  -- the tail by a lower bound in the arc starts
  pub tail_bound : (a r : ℕ) → a < length heads → LowerBound starts (a + 1) r → (1 ≤ r) × (r < length starts) × (tail_of starts a ≡ r - 1)
  tail_bound a r l b = (some, more, tail_at a (r - 1) (omega (arith, some, more)) low high)
    where
      some : 1 ≤ r
      some =
          ⊎_elim
          (λ z. let h = subst (λ k. a + 1 ≤ get_or starts k 0) (let e : r ≡ 0 = omega arith in e) (b.after (let t = ok.two in omega arith)) in
          let f = ok.run.from in absurd (omega arith))
          (λ s. s)
          (cases_lt r 1)

      more : r < length starts
      more =
          ⊎_elim
          (λ s. s)
          (λ z. let h = subst (λ k. get_or starts (k - 1) 0 < a + 1) (let w = b.within in let e : r ≡ length starts = omega arith in e) (b.before (omega (arith, some))) in
          let f = ok.run.to in absurd (omega arith))
          (cases_lt r (length starts))

      low : get_or starts (r - 1) 0 ≤ a
      low = let h = b.before (omega (arith, some)) in omega arith

      high : a < get_or starts (r - 1 + 1) 0
      high = let h = b.after more in subst (λ k. a < get_or starts k 0) (let e : r ≡ r - 1 + 1 = omega (arith, some) in e) (omega arith)
