-- A set that is gathered number by number. Assumes nothing.
use Rattle.std.proofs.Common.{◌≡◌, ℕ, ◌+◌, ◌<◌, ◌≤◌, Bool, true, false, cond, ◌&&◌, eqb, ltb, sym, refl, ap, ◌∙◌, subst, ⊎_elim, arith}
use Rattle.std.proofs.lemmas.Bool.{and_from, and_left, and_right, cond-true, cond-false, cases_eq, cases_lt, lt-ltb, eq-eqb, ne_eqb}
use Rattle.board.proofs.Counting.{same_test}

-- those below n that pass the test
module _ (p : ℕ → Bool) (n : ℕ) (before : ℕ → Bool) (so_far : (s : ℕ) → before s ≡ (ltb s n && p s)) where
  other : (s : ℕ) → (s ≡ n → ⊥) → before s ≡ (ltb s (n + 1) && p s)
  other s e = so_far s ∙ ap (λ b. b && p s) (same_test s n s (n + 1) (λ l. omega arith) (λ l. omega arith))

  pub with_it : p n ≡ true → n < 64 → (after : ℕ → Bool) → ((k : ℕ) → after k ≡ cond (eqb k n && ltb n 64) true (before k)) → (s : ℕ) → after s ≡ (ltb s (n + 1) && p s)
  with_it e l after put s =
      ⊎_elim
      (λ q. subst (λ k. after k ≡ (ltb k (n + 1) && p k)) (sym q) (put n ∙ cond-true (eqb n n && ltb n 64) true (before n) (and_from (eqb n n) (ltb n 64) (eq-eqb n n refl) (lt-ltb n 64 l)) ∙ sym (and_from (ltb n (n + 1)) (p n) (lt-ltb n (n + 1) (omega arith)) e)))
      (λ q. put s ∙ cond-false (eqb s n && ltb n 64) true (before s) (and_left (eqb s n) (ltb n 64) (ne_eqb s n q)) ∙ other s q)
      (cases_eq s n)

  pub without_it : p n ≡ false → (s : ℕ) → before s ≡ (ltb s (n + 1) && p s)
  without_it e s =
      ⊎_elim
      (λ q. subst (λ k. before k ≡ (ltb k (n + 1) && p k)) (sym q) (so_far n ∙ and_right (ltb n n) (p n) e ∙ sym (and_right (ltb n (n + 1)) (p n) e)))
      (other s)
      (cases_eq s n)

  -- where none from n on passes, that is all
  pub gathered : ((s : ℕ) → n ≤ s → p s ≡ false) → (s : ℕ) → before s ≡ p s
  gathered none s =
      ⊎_elim
      (λ l. so_far s ∙ ap (λ b. b && p s) (lt-ltb s n l))
      (λ l. so_far s ∙ and_right (ltb s n) (p s) (none s l) ∙ sym (none s l))
      (cases_lt s n)
