-- Counting the numbers at which a test passes, and adding up numbers of which one changes.
use Rattle.std.proofs.Common.{◌≡◌, ℕ, zero, suc, ◌+◌, ◌*◌, ◌<◌, ◌≤◌, Bool, true, false, cond, sym, refl, ap, ◌∙◌, ⊎_elim, arith}
use Rattle.std.proofs.lemmas.Bool.{cases_eq, cases_lt, both_ways}
use Rattle.queue.specs.Waiting.{Updated}
use Rattle.laying.specs.Settling.{count_below}

-- how many entries of the junctions below n are settled
unfoldable pub settled_below : (settled : ℕ → ℕ) → ℕ → ℕ
settled_below settled zero = 0
settled_below settled (suc v) = settled_below settled v + settled v

one_more : (b c : Bool) (j k : ℕ) → (b ≡ true → c ≡ true) → j ≤ k → cond b (suc j) j ≤ cond c (suc k) k
one_more true true j k h l = omega arith
one_more true false j k h l = absurd (both_ways false refl (h refl))
one_more false true j k h l = omega arith
one_more false false j k h l = omega arith

one_less : (b c : Bool) (j k : ℕ) → (b ≡ true → c ≡ true) → j < k → cond b (suc j) j < cond c (suc k) k
one_less true true j k h l = omega arith
one_less true false j k h l = absurd (both_ways false refl (h refl))
one_less false true j k h l = omega arith
one_less false false j k h l = omega arith

pub many_less : (p q : ℕ → Bool) (n : ℕ) → ((i : ℕ) → i < n → p i ≡ true → q i ≡ true) → count_below p n ≤ count_below q n
unfolding count_below
many_less p q zero h = omega arith
many_less p q (suc n) h = one_more (p n) (q n) (count_below p n) (count_below q n) (h n (omega arith)) (many_less p q n (λ i l. h i (omega arith)))

pub many_more : (p q : ℕ → Bool) (n v : ℕ) → v < n → p v ≡ false → q v ≡ true → ((i : ℕ) → i < n → p i ≡ true → q i ≡ true) → count_below p n < count_below q n
unfolding count_below
many_more p q zero v l e d h = absurd (omega arith)
many_more p q (suc n) v l e d h =
    ⊎_elim
    (λ k. here (p n) (q n) (ap p (sym k) ∙ e) (ap q (sym k) ∙ d) (many_less p q n (λ i j. h i (omega arith))))
    (λ k. one_less (p n) (q n) (count_below p n) (count_below q n) (h n (omega arith)) (many_more p q n v (omega arith) e d (λ i j. h i (omega arith))))
    (cases_eq v n)
  where
    here : (b c : Bool) → b ≡ false → c ≡ true → count_below p n ≤ count_below q n → cond b (suc (count_below p n)) (count_below p n) < cond c (suc (count_below q n)) (count_below q n)
    here true c x y z = absurd (both_ways true x refl)
    here false true x y z = omega arith
    here false false x y z = absurd (both_ways false refl y)

pub many_same : (p q : ℕ → Bool) (n : ℕ) → ((i : ℕ) → p i ≡ q i) → count_below p n ≡ count_below q n
unfolding count_below
many_same p q zero h = refl
many_same p q (suc n) h = ap (λ b. cond b (suc (count_below p n)) (count_below p n)) (h n) ∙ ap (λ k. cond (q n) (suc k) k) (many_same p q n h)

pub many_most : (p : ℕ → Bool) (n : ℕ) → count_below p n ≤ n
unfolding count_below
many_most p zero = omega arith
many_most p (suc n) = go (p n) (many_most p n)
  where
    go : (b : Bool) → count_below p n ≤ n → cond b (suc (count_below p n)) (count_below p n) ≤ suc n
    go true l = omega arith
    go false l = omega arith

module _ (f g : ℕ → ℕ) (v : ℕ) (change : Updated f g v (suc (f v))) where
  pub more_at : (w : ℕ) → w ≡ v → g w ≡ suc (f w)
  more_at w e = ap g e ∙ change.0 ∙ ap (λ u. suc (f u)) (sym e)

  below_same : (n : ℕ) → n ≤ v → settled_below g n ≡ settled_below f n
  unfolding settled_below
  below_same zero l = refl
  below_same (suc n) l = let e = below_same n (omega arith) in let d = change.1 n (λ c. omega arith) in omega arith

  pub below_more : (n : ℕ) → v < n → settled_below g n ≡ suc (settled_below f n)
  unfolding settled_below
  below_more zero l = absurd (omega arith)
  below_more (suc n) l =
      ⊎_elim
      (λ k. let e = below_more n k in let d = change.1 n (λ c. omega arith) in omega arith)
      (λ k. let z : v ≡ n = omega arith in let e = below_same n k in let d : g n ≡ suc (f n) = ap g (sym z) ∙ change.0 ∙ ap (λ u. suc (f u)) z in omega arith)
      (cases_lt v n)

pub below_most : (f : ℕ → ℕ) (C n : ℕ) → ((v : ℕ) → f v ≤ C) → settled_below f n ≤ n * C
unfolding settled_below
below_most f C zero h = omega arith
below_most f C (suc n) h = let a = below_most f C n h in let b = h n in omega arith
