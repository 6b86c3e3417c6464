-- How a count changes, and what it cannot pass. Assumes nothing.
use Rattle.std.proofs.Common.{◌≡◌, ℕ, zero, suc, ◌+◌, ◌<◌, ◌≤◌, Some, None, Option, sym, refl, ap, ◌∙◌, subst, ap₂, ⊎_elim, arith}
use Rattle.std.proofs.lemmas.Bool.{cases_eq, cases_lt}
use Rattle.std.specs.Option.{option_len}
use Rattle.queue.specs.Waiting.{count_of}

module _ {X : Type 0} where
  count_zero : (f : ℕ → Option X) → count_of f 0 ≡ 0
  unfolding count_of
  count_zero f = refl

  count_suc : (f : ℕ → Option X) (n : ℕ) → count_of f (suc n) ≡ count_of f n + option_len (f n)
  unfolding count_of
  count_suc f n = refl

  at_most_one : (o : Option X) → option_len o ≤ 1
  at_most_one None = omega arith
  at_most_one (Some x) = omega arith

  pub count_same : (f g : ℕ → Option X) (n : ℕ) → ((k : ℕ) → k < n → g k ≡ f k) → count_of g n ≡ count_of f n
  count_same f g zero same = count_zero g ∙ sym (count_zero f)
  count_same f g (suc n) same = count_suc g n ∙ ap₂ (λ a b. a + b) (count_same f g n (λ k l. same k (omega arith))) (ap option_len (same n (omega arith))) ∙ sym (count_suc f n)

  pub count_none : (f : ℕ → Option X) (n : ℕ) → ((k : ℕ) → k < n → f k ≡ None) → count_of f n ≡ 0
  count_none f zero none = count_zero f
  count_none f (suc n) none = count_suc f n ∙ ap₂ (λ a b. a + b) (count_none f n (λ k l. none k (omega arith))) (ap option_len (none n (omega arith)))

  -- one answer changes
  pub count_changed : (f g : ℕ → Option X) (n h : ℕ) → h < n → ((k : ℕ) → (k ≡ h → ⊥) → g k ≡ f k) → count_of g n + option_len (f h) ≡ count_of f n + option_len (g h)
  count_changed f g zero h l same = absurd (omega arith)
  count_changed f g (suc n) h l same =
      let a = count_suc g n in
      let b = count_suc f n in
      ⊎_elim
      (λ e.
      let c = count_same f g n (λ k m. same k (λ q. omega arith)) in
      let p = ap (λ i. option_len (f i)) e in
      let q = ap (λ i. option_len (g i)) e in
      omega arith)
      (λ m.
      let c = count_changed f g n h (omega arith) same in
      let d = ap option_len (same n (λ q. m (sym q))) in
      omega arith)
      (cases_eq h n)

  count_most : (f : ℕ → Option X) (n : ℕ) → count_of f n ≤ n
  count_most f zero = let a = count_zero f in omega arith
  count_most f (suc n) = let a = count_suc f n in let b = count_most f n in let c = at_most_one (f n) in omega arith

  -- one handle below n is free
  pub count_below : (f : ℕ → Option X) (n h : ℕ) → h < n → f h ≡ None → count_of f n < n
  count_below f zero h l e = absurd (omega arith)
  count_below f (suc n) h l e =
      let a = count_suc f n in
      let c = at_most_one (f n) in
      ⊎_elim
      (λ q. let b = count_most f n in let d : option_len (f n) ≡ 0 = ap option_len (subst (λ k. f k ≡ None) q e) in omega arith)
      (λ m. let b = count_below f n h (omega arith) e in omega arith)
      (cases_eq h n)

  -- and nothing waits from m on
  pub count_short : (f : ℕ → Option X) (n m h : ℕ) → h < m → h < n → f h ≡ None → ((k : ℕ) → m ≤ k → f k ≡ None) → count_of f n < m
  count_short f zero m h a b e none = absurd (omega arith)
  count_short f (suc n) m h a b e none =
      ⊎_elim
      (λ l. let c = count_below f (suc n) h b e in omega arith)
      (λ l.
      let c = count_suc f n in
      let d : option_len (f n) ≡ 0 = ap option_len (none n (omega arith)) in
      let r = count_short f n m h a (omega arith) e none in
      omega arith)
      (cases_lt n m)
