-- Sums over the numbers below n. Assumes nothing.
use Rattle.std.proofs.Common.{◌≡◌, ℕ, zero, suc, ◌+◌, ◌*◌, ◌<◌, ◌≤◌, sym, refl, ap, ◌∙◌, ⊎_elim, arith}
use Rattle.std.proofs.lemmas.Bool.{cases_eq}
use Rattle.soonest.specs.Guidance.{Guidance}
use Rattle.soonest.specs.Stages.{sum_below}

module _ (g : Guidance) (k : ℕ) where
  sum_zero : (f : ℕ → ℕ) → sum_below g k f 0 ≡ 0
  unfolding sum_below
  sum_zero f = refl

  sum_suc : (f : ℕ → ℕ) (n : ℕ) → sum_below g k f (suc n) ≡ sum_below g k f n + f n
  unfolding sum_below
  sum_suc f n = refl

  -- at most c for each
  pub sum_most : (f : ℕ → ℕ) (c n : ℕ) → ((i : ℕ) → i < n → f i ≤ c) → sum_below g k f n ≤ n * c
  sum_most f c zero h = let z = sum_zero f in omega arith
  sum_most f c (suc n) h =
      let before = sum_most f c n (λ i l. h i (omega arith)) in
      let more = sum_suc f n in
      let last = h n (omega arith) in
      omega arith

  sum_same : (f e : ℕ → ℕ) (n : ℕ) → ((i : ℕ) → i < n → e i ≡ f i) → sum_below g k e n ≡ sum_below g k f n
  sum_same f e zero h = sum_zero e ∙ sym (sum_zero f)
  sum_same f e (suc n) h =
      let before = sum_same f e n (λ i l. h i (omega arith)) in
      let a = sum_suc e n in
      let b = sum_suc f n in
      let last = h n (omega arith) in
      omega arith

  -- two that differ at j alone
  pub sum_change : (f e : ℕ → ℕ) (j n : ℕ) → j < n → ((i : ℕ) → (i ≡ j → ⊥) → e i ≡ f i) → sum_below g k e n + f j ≡ sum_below g k f n + e j
  sum_change f e j zero l h = absurd (omega arith)
  sum_change f e j (suc n) l h =
      let a = sum_suc e n in
      let b = sum_suc f n in
      ⊎_elim
      (λ p. let before = sum_same f e n (λ i m. h i (λ q. absurd (omega arith))) in
      let c : f n ≡ f j = ap f (sym p) in
      let d : e n ≡ e j = ap e (sym p) in
      omega arith)
      (λ p. let before = sum_change f e j n (omega arith) h in
      let last = h n (λ q. p (sym q)) in
      omega arith)
      (cases_eq j n)
