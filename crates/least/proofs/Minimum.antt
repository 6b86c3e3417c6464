-- What the least of a function over some numbers is. Assumes nothing.
use Rattle.std.proofs.Common.{◌≡◌, ℕ, zero, suc, ◌+◌, ◌≤◌, min, sym, refl, subst, ⊎_elim, arith}
use Rattle.std.proofs.lemmas.Bool.{cases_lt, cases_eq}
use Rattle.least.specs.Times.{least_over}

module _ (f : ℕ → ℕ) (from : ℕ) where
  over_one : least_over f from 0 ≡ f from
  unfolding least_over
  over_one = refl

  over_more : (n : ℕ) → least_over f from (suc n) ≡ min (least_over f from n) (f (from + suc n))
  unfolding least_over
  over_more n = refl

  -- it is not above any of them
  pub least_below : (n t : ℕ) → from ≤ t → t ≤ from + n → least_over f from n ≤ f t
  least_below zero t l m = subst (λ k. least_over f from 0 ≤ f k) (let e : from ≡ t = omega arith in e) (let o = over_one in omega arith)
  least_below (suc n) t l m =
      let o = over_more n in
      ⊎_elim
      (λ e. subst (λ k. least_over f from (suc n) ≤ f k) (sym e) (omega arith))
      (λ e. let r = least_below n t l (omega arith) in omega arith)
      (cases_eq t (from + suc n))

  -- and it is one of them
  pub least_met : (n : ℕ) → (t : ℕ) × (from ≤ t) × (t ≤ from + n) × (f t ≡ least_over f from n)
  least_met zero = (from, omega arith, omega arith, sym over_one)
  least_met (suc n) =
      let o = over_more n in
      let r = least_met n in
      let x = r.1 in
      let y = r.2 in
      let z = r.3 in
      ⊎_elim
      (λ m. (r.0, omega arith, omega arith, omega arith))
      (λ m. (from + suc n, omega arith, omega arith, omega arith))
      (cases_lt (least_over f from n) (f (from + suc n)))

  -- so what is both is the least
  pub least_is : (n x t : ℕ) → from ≤ t → t ≤ from + n → f t ≡ x → ((u : ℕ) → from ≤ u → u ≤ from + n → x ≤ f u) → least_over f from n ≡ x
  least_is n x t l m e h =
      let b = least_below n t l m in
      let r = least_met n in
      let k = h r.0 r.1 r.2 in
      let s = r.3 in
      omega arith
