-- A chain has one of fewer arcs than there are junctions, and of no greater sum. Assumes nothing.
use Rattle.std.proofs.Common.{◌≡◌, ℕ, zero, suc, ◌+◌, ◌*◌, ◌<◌, ◌≤◌, Bool, true, false, eqb, ◌⊎◌, List, [], ◌∷◌, length, sym, refl, ap, ◌∙◌, inl, inr, ⊎_elim, arith}
use Rattle.std.proofs.lemmas.Bool.{cases_eq, eq-eqb, ne_eqb, both_ways}
use Rattle.network.specs.Model.{Roads}
use Rattle.network.specs.Paths.{Chain}
use Rattle.rows.specs.Rows.{total}

-- a set of numbers without v
abbrev off : (ℕ → Bool) → ℕ → ℕ → Bool
off p v i = elim (eqb i v) [ true ↦ false | false ↦ p i ]

off_at : (p : ℕ → Bool) (v : ℕ) → off p v v ≡ false
off_at p v = rw (eq-eqb v v refl, off)

off_other : (p : ℕ → Bool) (v i : ℕ) → (i ≡ v → ⊥) → off p v i ≡ p i
off_other p v i h = rw (ne_eqb i v h, off)

-- how many numbers below n are in a set
abbrev one_if : Bool → ℕ → ℕ
one_if true n = suc n
one_if false n = n

unfoldable many : (ℕ → Bool) → ℕ → ℕ
many p zero = 0
many p (suc i) = one_if (p i) (many p i)

many_same : (p q : ℕ → Bool) (n : ℕ) → ((i : ℕ) → i < n → p i ≡ q i) → many p n ≡ many q n
unfolding many
many_same p q zero h = refl
many_same p q (suc n) h = ap (λ b. one_if b (many p n)) (h n (omega arith)) ∙ ap (one_if (q n)) (many_same p q n (λ i l. h i (omega arith)))

many_off : (p : ℕ → Bool) (v n : ℕ) → v < n → p v ≡ true → many p n ≡ suc (many (off p v) n)
unfolding many
many_off p v zero l e = absurd (omega arith)
many_off p v (suc n) l e =
    ⊎_elim
    (λ d. ap (λ b. one_if b (many p n)) (ap p (sym d) ∙ e) ∙ ap suc (many_same p (off p v) n (λ i k. sym (off_other p v i (λ c. omega arith))) ∙ sym (ap (λ b. one_if b (many (off p v) n)) (ap (off p v) (sym d) ∙ off_at p v))))
    (λ d. ap (one_if (p n)) (many_off p v n (omega arith) e) ∙ one_if_suc (p n) (many (off p v) n) ∙ ap (λ b. suc (one_if b (many (off p v) n))) (sym (off_other p v n (λ c. d (sym c)))))
    (cases_eq v n)
  where
    one_if_suc : (b : Bool) (k : ℕ) → one_if b (suc k) ≡ suc (one_if b k)
    one_if_suc true k = refl
    one_if_suc false k = refl

many_most : (p : ℕ → Bool) (n : ℕ) → many p n ≤ n
unfolding many
many_most p zero = omega arith
many_most p (suc n) = go (p n) (many_most p n)
  where
    go : (b : Bool) → many p n ≤ n → one_if b (many p n) ≤ suc n
    go true l = omega arith
    go false l = omega arith

module _ (m : Roads) (f : ℕ → ℕ) where
  -- a chain that keeps to the junctions of a set
  abbrev Inside : (ℕ → Bool) → ℕ → List ℕ → ℕ → Type 0
  Inside p v [] w = (p v ≡ true) × (v ≡ w)
  Inside p v (a ∷ arcs) w = (p v ≡ true) × (a < m.arcs) × (m.tail a ≡ v) × Inside p (m.head a) arcs w

  inside_all : (arcs : List ℕ) (v w : ℕ) → Chain m v arcs w → Inside (λ _. true) v arcs w
  inside_all [] v w c = (refl, c)
  inside_all (a ∷ arcs) v w c = (refl, c.0, c.1, inside_all arcs (m.head a) w c.2)

  starts : (p : ℕ → Bool) (arcs : List ℕ) (v w : ℕ) → Inside p v arcs w → p v ≡ true
  starts p [] v w c = c.0
  starts p (a ∷ arcs) v w c = c.0

  -- from its last visit to v a chain does not come back there
  abbrev Last : (ℕ → Bool) → (v w : ℕ) → List ℕ → Type 0
  Last p v w arcs = (v ≡ w) ⊎ ((a : ℕ) × (rest : List ℕ) × (a < m.arcs) × (m.tail a ≡ v) × Inside (off p v) (m.head a) rest w × (f a + total f rest ≤ total f arcs))

  last_visit : (p : ℕ → Bool) (v : ℕ) (arcs : List ℕ) (x w : ℕ) → Inside p x arcs w → Inside (off p v) x arcs w ⊎ Last p v w arcs
  last_visit p v [] x w c =
      ⊎_elim
      (λ e. inr (inl (sym e ∙ c.1)))
      (λ n. inl (off_other p v x n ∙ c.0, c.1))
      (cases_eq x v)
  last_visit p v (a ∷ arcs) x w c =
      ⊎_elim
      (λ i. ⊎_elim
      (λ e. inr (inr (a, arcs, c.1, c.2 ∙ e, i, omega arith)))
      (λ n. inl (off_other p v x n ∙ c.0, c.1, c.2, i))
      (cases_eq x v))
      (λ q. inr (⊎_elim (λ e. inl e) (λ r. let l = r.5 in inr (r.0, r.1, r.2, r.3, r.4, omega arith)) q))
      (last_visit p v arcs (m.head a) w c.3)

  module _ (ok : (a : ℕ) → a < m.arcs → m.head a < m.junctions) where
    shorter : (k : ℕ) (p : ℕ → Bool) (arcs : List ℕ) (v w : ℕ) → many p m.junctions ≤ k → v < m.junctions → Inside p v arcs w → (short : List ℕ) × Chain m v short w × (length short < k) × (total f short ≤ total f arcs)
    shorter zero p arcs v w l n c = let more = many_off p v m.junctions n (starts p arcs v w c) in absurd (omega arith)
    shorter (suc k) p arcs v w l n c =
        ⊎_elim
        (λ i. absurd (both_ways (off p v v) (off_at p v) (starts (off p v) arcs v w i)))
        (λ q. ⊎_elim
        (λ e. ([], e, omega arith, omega arith))
        (λ r. let more = many_off p v m.junctions n (starts p arcs v w c) in
        let rec = shorter k (off p v) r.1 (m.head r.0) w (omega arith) (ok r.0 r.2) r.4 in
        let few = rec.2 in
        let low = rec.3 in
        let less = r.5 in
        (r.0 ∷ rec.0, (r.2, r.3, rec.1), omega arith, omega arith))
        q)
        (last_visit p v arcs v w c)

    pub short_chain : (arcs : List ℕ) (v w : ℕ) → v < m.junctions → Chain m v arcs w → (short : List ℕ) × Chain m v short w × (length short < m.junctions) × (total f short ≤ total f arcs)
    short_chain arcs v w n c = shorter m.junctions (λ _. true) arcs v w (many_most (λ _. true) m.junctions) n (inside_all arcs v w c)

  -- a sum is at most as many times the greatest of the arcs' times as there are arcs
  pub total_most : (most : ℕ) → ((a : ℕ) → a < m.arcs → f a ≤ most) → (arcs : List ℕ) (v w : ℕ) → Chain m v arcs w → total f arcs ≤ length arcs * most
  total_most most h [] v w c = omega arith
  total_most most h (a ∷ arcs) v w c = let l = total_most most h arcs (m.head a) w c.2 in let k = h a c.0 in omega arith
