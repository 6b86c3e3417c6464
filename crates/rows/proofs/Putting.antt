-- What an entry put in its place leaves, and what the front of a list in order leaves out. Assumes nothing.
use Rattle.std.proofs.Common.{◌≡◌, ℕ, zero, suc, ◌≤◌, Bool, true, false, ◌&&◌, cond, eqb, ltb, ◌⊎◌, List, [], ◌∷◌, length, take, sym, refl, ap, ◌∙◌, subst, inl, inr, ⊎_elim, arith}
use Rattle.std.specs.List.{All, AllPairs, Contains}
use Rattle.std.proofs.lemmas.Bool.{or_cases, or_parts, and_parts, and_cases, eqb-true, eqb-false, ltb-true, ltb-false}
use Rattle.std.proofs.lemmas.List.Elements.{All-contains}
use Rattle.rows.specs.Nearest.{entry, Before}
use Rattle.network.specs.Without.{without}
use Rattle.rows.specs.Offering.{comes_before, site_of, put}
use Rattle.rows.specs.declared.entry.Entry.{Entry}
use Rattle.rows.proofs.Listing.{in_none, in_head, in_tail, in_cases, all_from, pairs_tail, pairs_head, pairs_none, pairs_cons, before_trans, before_cases, before_no_later}
use Rattle.rows.proofs.Crowds.{Apart}

pub before_says : (x y : Entry) → comes_before x y ≡ true → Before x y
before_says x y e =
    ⊎_elim
    (λ p. inl (ltb-true x.time y.time p))
    (λ p. let q = and_parts (eqb x.time y.time) (ltb x.site y.site) p in inr (eqb-true x.time y.time q.0, ltb-true x.site y.site q.1))
    (or_cases (ltb x.time y.time) (eqb x.time y.time && ltb x.site y.site) e)

pub not_before : (x y : Entry) → comes_before x y ≡ false → Before x y → ⊥
not_before x y e p =
    let q = or_parts (ltb x.time y.time) (eqb x.time y.time && ltb x.site y.site) e in
    let n = ltb-false x.time y.time q.0 in
    ⊎_elim
    (λ l. omega arith)
    (λ l. let l1 = l.1 in ⊎_elim (λ r. eqb-false x.time y.time r l.0) (λ r. let k = ltb-false x.site y.site r in omega arith) (and_cases (eqb x.time y.time) (ltb x.site y.site) q.1))
    p

-- ---- a list without a site
module _ (s : ℕ) where
  pub without_either : (P : List Entry → Type 0) (y : Entry) (l : List Entry) → (y.site ≡ s → P l) → ((y.site ≡ s → ⊥) → P (y ∷ without site_of s l)) → P (without site_of s (y ∷ l))
  without_either P y l here on = go (eqb y.site s) refl
    where
      go : (b : Bool) → eqb y.site s ≡ b → P (cond b l (y ∷ without site_of s l))
      go true e = here (eqb-true y.site s e)
      go false e = on (eqb-false y.site s e)

  without_in : (l : List Entry) (w : Entry) → Contains (without site_of s l) w → Contains l w
  without_in [] w = λ i. i
  without_in (y ∷ l) w = without_either (λ k. Contains k w → Contains (y ∷ l) w) y l (λ e i. in_tail w y l i) (λ n i. ⊎_elim (λ e. subst (λ z. Contains (y ∷ l) z) (sym e) (in_head y l)) (λ j. in_tail w y l (without_in l w j)) (in_cases w y (without site_of s l) i))

  without_has : (l : List Entry) (w : Entry) → Contains l w → (w.site ≡ s) ⊎ Contains (without site_of s l) w
  without_has [] w i = absurd (in_none w i)
  without_has (y ∷ l) w i =
      without_either (λ k. (w.site ≡ s) ⊎ Contains k w) y l
      (λ e. ⊎_elim (λ p. inl (ap (λ z. z.site) p ∙ e)) (λ j. inr j) (in_cases w y l i))
      (λ n. ⊎_elim (λ p. inr (subst (λ z. Contains (y ∷ without site_of s l) z) (sym p) (in_head y (without site_of s l)))) (λ j. ⊎_elim (λ e. inl e) (λ k. inr (in_tail w y (without site_of s l) k)) (without_has l w j)) (in_cases w y l i))

  without_apart : (l : List Entry) (w : Entry) → AllPairs Apart l → Contains (without site_of s l) w → w.site ≡ s → ⊥
  without_apart [] w h = λ i. absurd (in_none w i)
  without_apart (y ∷ l) w h =
      without_either (λ k. Contains k w → w.site ≡ s → ⊥) y l
      (λ e i p. All-contains (Apart y) l w (pairs_head Apart y l h) i (e ∙ sym p))
      (λ n i p. ⊎_elim (λ q. n (ap (λ z. z.site) (sym q) ∙ p)) (λ j. without_apart l w (pairs_tail Apart y l h) j p) (in_cases w y (without site_of s l) i))

  without_pairs : (R : Entry → Entry → Type 0) (l : List Entry) → AllPairs R l → AllPairs R (without site_of s l)
  without_pairs R [] h = pairs_none R
  without_pairs R (y ∷ l) h =
      without_either (λ k. AllPairs R k) y l
      (λ e. pairs_tail R y l h)
      (λ n. pairs_cons R y (without site_of s l) (all_from (R y) (without site_of s l) (λ w i. All-contains (R y) l w (pairs_head R y l h) (without_in l w i))) (without_pairs R l (pairs_tail R y l h)))

-- ---- an entry put in its place
module _ (x : Entry) where
  pub put_either : (P : List Entry → Type 0) (y : Entry) (l : List Entry) → (Before x y → P (x ∷ without site_of x.site (y ∷ l))) → ((Before x y → ⊥) → y.site ≡ x.site → P (y ∷ l)) → ((Before x y → ⊥) → (y.site ≡ x.site → ⊥) → P (y ∷ put x l)) → P (put x (y ∷ l))
  put_either P y l first same on = go (comes_before x y) refl
    where
      rest : (Before x y → ⊥) → (b : Bool) → eqb y.site x.site ≡ b → P (elim b as (λ _. List Entry) [ true ↦ y ∷ l | false ↦ y ∷ put x l ])
      rest n true e = same n (eqb-true y.site x.site e)
      rest n false e = on n (eqb-false y.site x.site e)

      go : (b : Bool) → comes_before x y ≡ b → P (elim b as (λ _. List Entry) [ true ↦ x ∷ without site_of x.site (y ∷ l) | false ↦ elim (eqb y.site x.site) as (λ _. List Entry) [ true ↦ y ∷ l | false ↦ y ∷ put x l ] ])
      go true e = first (before_says x y e)
      go false e = rest (not_before x y e) (eqb y.site x.site) refl

  -- what is in it is x or was there
  pub put_in : (l : List Entry) (w : Entry) → Contains (put x l) w → (w ≡ x) ⊎ Contains l w
  put_in [] w = λ i. in_cases w x [] i
  put_in (y ∷ l) w =
      put_either (λ k. Contains k w → (w ≡ x) ⊎ Contains (y ∷ l) w) y l
      (λ b i. ⊎_elim (λ e. inl e) (λ j. inr (without_in x.site (y ∷ l) w j)) (in_cases w x (without site_of x.site (y ∷ l)) i))
      (λ n e i. inr i)
      (λ n m i. ⊎_elim (λ e. inr (subst (λ z. Contains (y ∷ l) z) (sym e) (in_head y l))) (λ j. ⊎_elim (λ e. inl e) (λ k. inr (in_tail w y l k)) (put_in l w j)) (in_cases w y (put x l) i))

  abbrev Sooner : List Entry → Entry → Type 0
  Sooner l w = (u : ℕ) × Contains l (entry w.site u) × (u ≤ w.time)

  itself : (l : List Entry) (w : Entry) → Contains l w → Sooner l w
  itself l w i = (w.time, i, omega arith)

  after : (y : Entry) (l : List Entry) (w : Entry) → Sooner l w → Sooner (y ∷ l) w
  after y l w h = (h.0, in_tail (entry w.site h.0) y l h.1, h.2)

  -- no site that was there is lost, or comes later
  pub put_has : (l : List Entry) (w : Entry) → AllPairs Before l → Contains l w → Sooner (put x l) w
  put_has [] w h i = absurd (in_none w i)
  put_has (y ∷ l) w h i =
      put_either (λ k. Sooner k w) y l
      (λ b. ⊎_elim
      (λ e. (x.time, subst (λ z. Contains (x ∷ without site_of x.site (y ∷ l)) (entry z x.time)) (sym e) (in_head x (without site_of x.site (y ∷ l))), later b))
      (λ j. after x (without site_of x.site (y ∷ l)) w (itself (without site_of x.site (y ∷ l)) w j))
      (without_has x.site (y ∷ l) w i))
      (λ n e. itself (y ∷ l) w i)
      (λ n m. ⊎_elim
      (λ e. itself (y ∷ put x l) w (subst (λ z. Contains (y ∷ put x l) z) (sym e) (in_head y (put x l))))
      (λ j. after y (put x l) w (put_has l w (pairs_tail Before y l h) j))
      (in_cases w y l i))
    where
      later : Before x y → x.time ≤ w.time
      later b = before_no_later x w (⊎_elim (λ e. subst (Before x) (sym e) b) (λ j. before_trans x y w b (All-contains (Before y) l w (pairs_head Before y l h) j)) (in_cases w y l i))

  -- nor is that of x
  pub put_own : (l : List Entry) → Sooner (put x l) x
  put_own [] = itself (x ∷ []) x (in_head x [])
  put_own (y ∷ l) =
      put_either (λ k. Sooner k x) y l
      (λ b. itself (x ∷ without site_of x.site (y ∷ l)) x (in_head x (without site_of x.site (y ∷ l))))
      (λ n e. (y.time, subst (λ z. Contains (y ∷ l) (entry z y.time)) e (in_head y l), no_later n))
      (λ n m. after y (put x l) x (put_own l))
    where
      no_later : (Before x y → ⊥) → y.time ≤ x.time
      no_later n = ⊎_elim (λ e. let z = ap (λ w. w.time) e in omega arith) (λ p. ⊎_elim (λ b. absurd (n b)) (λ b. before_no_later y x b) p) (before_cases x y)

  pub put_ordered : (l : List Entry) → AllPairs Before l → AllPairs Before (put x l)
  put_ordered [] h = pairs_cons Before x [] (all_from (Before x) [] (λ w i. absurd (in_none w i))) (pairs_none Before)
  put_ordered (y ∷ l) h =
      put_either (AllPairs Before) y l
      (λ b. pairs_cons Before x (without site_of x.site (y ∷ l)) (all_from (Before x) (without site_of x.site (y ∷ l)) (λ w i. ⊎_elim (λ e. subst (Before x) (sym e) b) (λ j. before_trans x y w b (All-contains (Before y) l w first j)) (in_cases w y l (without_in x.site (y ∷ l) w i)))) (without_pairs x.site Before (y ∷ l) h))
      (λ n e. h)
      (λ n m. pairs_cons Before y (put x l) (all_from (Before y) (put x l) (λ w i. ⊎_elim (λ e. subst (Before y) (sym e) (other n m)) (λ j. All-contains (Before y) l w first j) (put_in l w i))) (put_ordered l (pairs_tail Before y l h)))
    where
      first : All (Before y) l
      first = pairs_head Before y l h

      other : (Before x y → ⊥) → (y.site ≡ x.site → ⊥) → Before y x
      other n m = ⊎_elim (λ e. absurd (m (ap (λ w. w.site) (sym e)))) (λ p. ⊎_elim (λ b. absurd (n b)) (λ b. b) p) (before_cases x y)

  pub put_apart : (l : List Entry) → AllPairs Apart l → AllPairs Apart (put x l)
  put_apart [] h = pairs_cons Apart x [] (all_from (Apart x) [] (λ w i. absurd (in_none w i))) (pairs_none Apart)
  put_apart (y ∷ l) h =
      put_either (AllPairs Apart) y l
      (λ b. pairs_cons Apart x (without site_of x.site (y ∷ l)) (all_from (Apart x) (without site_of x.site (y ∷ l)) (λ w i e. without_apart x.site (y ∷ l) w h i (sym e))) (without_pairs x.site Apart (y ∷ l) h))
      (λ n e. h)
      (λ n m. pairs_cons Apart y (put x l) (all_from (Apart y) (put x l) (λ w i. ⊎_elim (λ e p. m (p ∙ ap (λ z. z.site) e)) (λ j. All-contains (Apart y) l w (pairs_head Apart y l h) j) (put_in l w i))) (put_apart l (pairs_tail Apart y l h)))

-- ---- the front of a list
pub front_in : (n : ℕ) (l : List Entry) (w : Entry) → Contains (take n l) w → Contains l w
front_in zero l w i = absurd (in_none w i)
front_in (suc n) [] w i = i
front_in (suc n) (y ∷ l) w i = ⊎_elim (λ e. subst (λ z. Contains (y ∷ l) z) (sym e) (in_head y l)) (λ j. in_tail w y l (front_in n l w j)) (in_cases w y (take n l) i)

pub front_pairs : (R : Entry → Entry → Type 0) (n : ℕ) (l : List Entry) → AllPairs R l → AllPairs R (take n l)
front_pairs R zero l h = pairs_none R
front_pairs R (suc n) [] h = h
front_pairs R (suc n) (y ∷ l) h = pairs_cons R y (take n l) (all_from (R y) (take n l) (λ w i. All-contains (R y) l w (pairs_head R y l h) (front_in n l w i))) (front_pairs R n l (pairs_tail R y l h))

-- what is not in the front of a list in order comes after all of it
pub front_or : (n : ℕ) (l : List Entry) (w : Entry) → AllPairs Before l → Contains l w → Contains (take n l) w ⊎ ((length (take n l) ≡ n) × All (λ z. Before z w) (take n l))
front_or zero l w h i = inr (refl, all_from (λ z. Before z w) [] (λ z j. absurd (in_none z j)))
front_or (suc n) [] w h i = inl i
front_or (suc n) (y ∷ l) w h i =
    ⊎_elim
    (λ e. inl (subst (λ z. Contains (y ∷ take n l) z) (sym e) (in_head y (take n l))))
    (λ j. ⊎_elim
    (λ k. inl (in_tail w y (take n l) k))
    (λ r. inr (ap suc r.0, all_from (λ z. Before z w) (y ∷ take n l) (λ z k. ⊎_elim (λ e. subst (λ q. Before q w) (sym e) (All-contains (Before y) l w (pairs_head Before y l h) j)) (λ q. All-contains (λ p. Before p w) (take n l) z r.1 q) (in_cases z y (take n l) k))))
    (front_or n l w (pairs_tail Before y l h) j))
    (in_cases w y l i)
