-- The first place where lists differ from an index. Assumes nothing.
use Rattle.std.proofs.Common.{◌≡◌, ℕ, zero, suc, ◌*◌, ◌<◌, Bool, true, eqb, List, length, Some, None, Option, refl, ap, ◌∙◌, arith}
use Rattle.std.proofs.lemmas.Bool.{and_parts, and_from, eqb-true, eq-eqb, false_from_ne_true}
use Rattle.std.specs.Option.{option_or}
use Rattle.network.specs.First.{first_of, unless}
use Rattle.network.proofs.First.{first_at, first_none, none_below, unless_none, unless_true, unless_false}
use Rattle.rows.specs.Index.{entry_at, place_at, listed_at, IsIndex, same, first_difference}
use Rattle.rows.specs.declared.entry.Entry.{Entry}
use Rattle.rows.proofs.Listing.{same_entry}

pub same_says : (x y : Entry) → same x y ≡ true → x ≡ y
same_says x y e = let p = and_parts (eqb x.site y.site) (eqb x.time y.time) e in same_entry x y (eqb-true x.site y.site p.0) (eqb-true x.time y.time p.1)

pub same_from : (x y : Entry) → x ≡ y → same x y ≡ true
same_from x y e = and_from (eqb x.site y.site) (eqb x.time y.time) (eq-eqb x.site y.site (ap (λ w. w.site) e)) (eq-eqb x.time y.time (ap (λ w. w.time) e))

module _ (segments n C : ℕ) (rows : ℕ → ℕ → List Entry) (sites times : List ℕ) where
  -- whether the lists agree with the rows at a place
  abbrev pub Agrees : (i v r : ℕ) → Type 0
  Agrees i v r = listed_at sites times (place_at n C i v r) ≡ entry_at (rows i v) r

  abbrev test : (i v r : ℕ) → Bool
  test i v r = same (listed_at sites times (place_at n C i v r)) (entry_at (rows i v) r)

  abbrev of_entry : (i v : ℕ) → Option (ℕ × ℕ × ℕ)
  of_entry i v = first_of (λ r. unless (test i v r) (i, v, r)) C

  abbrev of_junction : ℕ → Option (ℕ × ℕ × ℕ)
  of_junction i = first_of (λ v. of_entry i v) n

  entry_quiet : (i v r : ℕ) → Agrees i v r → unless {X = ℕ × ℕ × ℕ} (test i v r) (i, v, r) ≡ None
  entry_quiet i v r e = unless_true (test i v r) (i, v, r) (same_from (listed_at sites times (place_at n C i v r)) (entry_at (rows i v) r) e)

  junction_quiet : (i v : ℕ) → ((r : ℕ) → r < C → Agrees i v r) → of_entry i v ≡ None
  junction_quiet i v h = first_none (λ r. unless (test i v r) (i, v, r)) C (λ r l. entry_quiet i v r (h r l))

  segment_quiet : (i : ℕ) → ((v r : ℕ) → v < n → r < C → Agrees i v r) → of_junction i ≡ None
  segment_quiet i h = first_none (λ v. of_entry i v) n (λ v l. junction_quiet i v (λ r k. h v r l k))

  -- where they agree everywhere there is none
  pub no_difference : ((i v r : ℕ) → i < segments → v < n → r < C → Agrees i v r) → first_difference segments n C rows sites times ≡ None
  unfolding first_difference
  no_difference h = first_none of_junction segments (λ i l. segment_quiet i (λ v r k j. h i v r l k j))

  -- and the other way round
  pub agrees_from : first_difference segments n C rows sites times ≡ None → (i v r : ℕ) → i < segments → v < n → r < C → Agrees i v r
  unfolding first_difference
  agrees_from e i v r l k j =
      let a = none_below of_junction segments e i l in
      let b = none_below (λ w. of_entry i w) n a v k in
      let c = none_below (λ q. unless (test i v q) (i, v, q)) C b r j in
      same_says (listed_at sites times (place_at n C i v r)) (entry_at (rows i v) r) (unless_none (test i v r) (i, v, r) c)

  -- lists that are long enough are the index exactly where there is none
  pub index_if_none : length sites ≡ segments * n * C → length times ≡ segments * n * C → first_difference segments n C rows sites times ≡ None → IsIndex segments n C rows sites times
  index_if_none l k e = record { sites_count = l; times_count = k; each = agrees_from e }

  pub none_if_index : IsIndex segments n C rows sites times → first_difference segments n C rows sites times ≡ None
  none_if_index x = no_difference x.each

  -- they differ here, and nowhere before
  pub first_differs : (i v r : ℕ) → i < segments → v < n → r < C
      → ((j w q : ℕ) → j < i → w < n → q < C → Agrees j w q)
      → ((w q : ℕ) → w < v → q < C → Agrees i w q)
      → ((q : ℕ) → q < r → Agrees i v q)
      → (Agrees i v r → ⊥)
      → first_difference segments n C rows sites times ≡ Some (i, v, r)
  unfolding first_difference
  first_differs i v r l k j before earlier here differs =
      first_at of_junction segments i (i, v, r) l (λ p m. segment_quiet p (λ w q b c. before p w q m b c))
      (first_at (λ w. of_entry i w) n v (i, v, r) k (λ w m. junction_quiet i w (λ q b. earlier w q m b))
      (first_at (λ q. unless (test i v q) (i, v, q)) C r (i, v, r) j (λ q m. entry_quiet i v q (here q m))
      (unless_false (test i v r) (i, v, r) (false_from_ne_true (test i v r) (λ e. differs (same_says (listed_at sites times (place_at n C i v r)) (entry_at (rows i v) r) e))))))

-- functions that agree have the same first answer
first_same : {X : Type 0} (f g : ℕ → Option X) (n : ℕ) → ((i : ℕ) → i < n → f i ≡ g i) → first_of f n ≡ first_of g n
unfolding first_of
first_same f g zero h = refl
first_same f g (suc n) h = ap (λ o. option_or o (f n)) (first_same f g n (λ i l. h i (omega arith))) ∙ ap (option_or (first_of g n)) (h n (omega arith))

-- so the place is that of all rows that agree
pub difference_same : (segments n C : ℕ) (rows others : ℕ → ℕ → List Entry) (sites times : List ℕ) → ((i v : ℕ) → i < segments → v < n → rows i v ≡ others i v) → first_difference segments n C rows sites times ≡ first_difference segments n C others sites times
unfolding first_difference
difference_same segments n C rows others sites times h =
    first_same (λ i. of_junction segments n C rows sites times i) (λ i. of_junction segments n C others sites times i) segments (λ i l.
    first_same (λ v. of_entry segments n C rows sites times i v) (λ v. of_entry segments n C others sites times i v) n (λ v k.
    first_same (λ r. unless (test segments n C rows sites times i v r) (i, v, r)) (λ r. unless (test segments n C others sites times i v r) (i, v, r)) C (λ r j.
    ap (λ row. unless (same (listed_at sites times (place_at n C i v r)) (entry_at row r)) (i, v, r)) (h i v l k))))
