-- What is in a list of entries, and lists in which no site comes twice. Assumes nothing.
use Rattle.std.proofs.Common.{◌≡◌, ℕ, zero, suc, ◌<◌, ◌≤◌, ◌⊎◌, List, [], ◌∷◌, length, get_or, sym, refl, ap, ◌∙◌, subst, inl, inr, ⊎_elim, arith}
use Rattle.std.specs.List.{All, AllPairs, Contains}
use Rattle.std.proofs.lemmas.Bool.{cases_eq, cases_order}
use Rattle.std.proofs.lemmas.List.Elements.{All-contains, Contains-get_or}
use Rattle.rows.specs.Nearest.{entry, Before, Listed}
use Rattle.rows.specs.declared.entry.Entry.{Entry}

-- two entries of one site and time
pub same_entry : (x y : Entry) → x.site ≡ y.site → x.time ≡ y.time → x ≡ y
same_entry x y p q = λ i. record { site = p i; time = q i }

module _ {X : Type 0} where
  pub in_none : (x : X) → Contains [] x → ⊥
  in_none x h = let l = h.1 in omega arith

  pub in_head : (x : X) (l : List X) → Contains (x ∷ l) x
  in_head x l = (0, omega arith, refl)

  pub in_tail : (x y : X) (l : List X) → Contains l x → Contains (y ∷ l) x
  in_tail x y l h = let n = h.1 in (suc h.0, omega arith, h.2)

  pub in_cases : (x y : X) (l : List X) → Contains (y ∷ l) x → (x ≡ y) ⊎ Contains l x
  in_cases x y l h = go h.0 h.1 h.2
    where
      go : (k : ℕ) → k < length (y ∷ l) → get_or (y ∷ l) k x ≡ x → (x ≡ y) ⊎ Contains l x
      go zero n e = inl (sym e)
      go (suc k) n e = inr (k, omega arith, e)

  -- what holds of each element
  pub all_from : (P : X → Type 0) (l : List X) → ((x : X) → Contains l x → P x) → All P l
  all_from P l h k d n = h (get_or l k d) (Contains-get_or l k d n)

  pub pairs_tail : (R : X → X → Type 0) (y : X) (l : List X) → AllPairs R (y ∷ l) → AllPairs R l
  pairs_tail R y l h i j d n m = h (suc i) (suc j) d (omega arith) (omega arith)

  pub pairs_head : (R : X → X → Type 0) (y : X) (l : List X) → AllPairs R (y ∷ l) → All (R y) l
  pairs_head R y l h k d n = h 0 (suc k) d (omega arith) (omega arith)

  pub pairs_none : (R : X → X → Type 0) → AllPairs R []
  pairs_none R i j d n m = absurd (omega arith)

  pub pairs_cons : (R : X → X → Type 0) (y : X) (l : List X) → All (R y) l → AllPairs R l → AllPairs R (y ∷ l)
  pairs_cons R y l a p zero zero d n m = absurd (omega arith)
  pairs_cons R y l a p zero (suc j) d n m = a j d (omega arith)
  pairs_cons R y l a p (suc i) zero d n m = absurd (omega arith)
  pairs_cons R y l a p (suc i) (suc j) d n m = p i j d (omega arith) (omega arith)

  -- either A of each element, or B once
  pub each_or : (A : X → Type 0) (B : Type 0) (l : List X) → ((x : X) → Contains l x → A x ⊎ B) → All A l ⊎ B
  each_or A B [] h = inl (all_from A [] (λ x i. absurd (in_none x i)))
  each_or A B (y ∷ l) h =
      ⊎_elim
      (λ a. ⊎_elim
      (λ r. inl (all_from A (y ∷ l) (λ x i. ⊎_elim (λ e. subst A (sym e) a) (λ j. All-contains A l x r j) (in_cases x y l i))))
      (λ b. inr b)
      (each_or A B l (λ x i. h x (in_tail x y l i))))
      (λ b. inr b)
      (h y (in_head y l))

  -- a list without one of its elements
  pub drop_one : (l : List X) (x : X) → Contains l x → (r : List X) × (length l ≡ suc (length r)) × ((y : X) → Contains l y → (y ≡ x) ⊎ Contains r y)
  drop_one [] x h = absurd (in_none x h)
  drop_one (z ∷ l) x h =
      ⊎_elim
      (λ e. (l, refl, λ y i. ⊎_elim (λ p. inl (p ∙ sym e)) (λ j. inr j) (in_cases y z l i)))
      (λ i. let rec = drop_one l x i in (
        z ∷ rec.0,
        ap suc rec.1,
        λ y j. ⊎_elim (λ p. inr (subst (λ w. Contains (z ∷ rec.0) w) (sym p) (in_head z rec.0))) (λ k. ⊎_elim (λ p. inl p) (λ q. inr (in_tail y z rec.0 q)) (rec.2 y k)) (in_cases y z l j),
      ))
      (in_cases x z l h)

-- Where each element of k is matched by one of l, by a relation that matches no two of k by the same, and l is no longer than
-- k: then they are as long, and each element of l matches one of k.
module _ {X : Type 0} (R : X → X → Type 0) (apart : X → X → Type 0) (alone : (x y z : X) → apart x y → R x z → R y z → ⊥) where
  pub pigeons : (k l : List X) → AllPairs apart k → length l ≤ length k → ((x : X) → Contains k x → (z : X) × Contains l z × R x z) → (length l ≡ length k) × ((z : X) → Contains l z → (x : X) × Contains k x × R x z)
  pigeons [] [] p n h = (refl, λ z i. absurd (in_none z i))
  pigeons [] (z ∷ l) p n h = absurd (omega arith)
  pigeons (y ∷ k) l p n h =
      let own = h y (in_head y k) in
      let less = drop_one l own.0 own.1 in
      let size = less.1 in
      let rec = pigeons k less.0 (pairs_tail apart y k p) (omega arith) (λ x i. let z = h x (in_tail x y k i) in
      ⊎_elim
      (λ e. absurd (alone y x own.0 (All-contains (apart y) k x (pairs_head apart y k p) i) own.2 (subst (R x) e z.2)))
      (λ j. (z.0, j, z.2))
      (less.2 z.0 z.1)) in
      let same = rec.0 in (
        omega arith,
        λ z i. ⊎_elim
            (λ e. (y, in_head y k, subst (R y) (sym e) own.2))
            (λ j. let x = rec.1 z j in (x.0, in_tail x.0 y k x.1, x.2))
            (less.2 z i),
      )

-- whether a site is listed can be told
pub listed_or_not : (l : List Entry) (s : ℕ) → Listed l s ⊎ (Listed l s → ⊥)
listed_or_not [] s = inr (λ h. in_none (entry s h.0) h.1)
listed_or_not (y ∷ l) s =
    ⊎_elim
    (λ e. inl (y.time, subst (λ w. Contains (y ∷ l) (entry w y.time)) e (in_head y l)))
    (λ n. ⊎_elim
    (λ h. inl (h.0, in_tail (entry s h.0) y l h.1))
    (λ h. inr (λ i. ⊎_elim (λ e. n (sym (ap (λ w. w.site) e))) (λ j. h (i.0, j)) (in_cases (entry s i.0) y l i.1)))
    (listed_or_not l s))
    (cases_eq y.site s)

-- the order of entries
pub before_trans : (x y z : Entry) → Before x y → Before y z → Before x z
before_trans x y z p q = ⊎_elim (λ l. ⊎_elim (λ m. inl (omega arith)) (λ m. let e = m.0 in inl (omega arith)) q) (λ l. let e = l.0 in let i = l.1 in ⊎_elim (λ m. inl (omega arith)) (λ m. let d = m.0 in let j = m.1 in inr (omega arith, omega arith)) q) p

pub before_irrefl : (x : Entry) → Before x x → ⊥
before_irrefl x p = ⊎_elim (λ l. omega arith) (λ l. let i = l.1 in omega arith) p

pub before_no_later : (x y : Entry) → Before x y → x.time ≤ y.time
before_no_later x y p = ⊎_elim (λ l. omega arith) (λ l. let e = l.0 in omega arith) p

pub before_cases : (x y : Entry) → (x ≡ y) ⊎ (Before x y ⊎ Before y x)
before_cases x y =
    ⊎_elim
    (λ e. ⊎_elim
    (λ d. inl (same_entry x y d e))
    (λ n. ⊎_elim (λ l. inr (inl (inr (e, l)))) (λ l. inr (inr (inr (sym e, l)))) n)
    (cases_order x.site y.site))
    (λ n. ⊎_elim (λ l. inr (inl (inl l))) (λ l. inr (inr (inl l))) n)
    (cases_order x.time y.time)

-- what comes before an entry comes before a later one of the same site
pub before_later : (x : Entry) (s t u : ℕ) → t ≤ u → Before x (entry s t) → Before x (entry s u)
before_later x s t u l p = ⊎_elim (λ m. inl (omega arith)) (λ m. let e = m.0 in ⊎_elim (λ d. inl (omega arith)) (λ d. inr (omega arith, m.1)) (go t u l)) p
  where
    go : (a b : ℕ) → a ≤ b → (a < b) ⊎ (a ≡ b)
    go a b k = ⊎_elim (λ e. inr e) (λ n. ⊎_elim (λ i. inl i) (λ i. absurd (omega arith)) n) (cases_order a b)
