-- Where a row of an index differs from another row. Assumes nothing.
use Rattle.std.proofs.Common.{◌≡◌, ℕ, ◌+◌, ◌<◌, ◌≤◌, Bool, true, false, not, is_some, List, length, Some, None, Option, refl, sym, ap, subst, ◌∙◌, ⊎_elim, arith}
use Rattle.network.specs.First.{first_of, unless}
use Rattle.network.proofs.First.{clash, is_none, none_below, first_at, first_none, unless_true, unless_false}
use Rattle.std.proofs.lemmas.Bool.{cases_lt}
use Rattle.std.specs.Bool.{MatchBool}
use Rattle.rows.specs.Index.{entry_at, first_difference, listed_at, place_at, same}
use Rattle.rows.specs.declared.entry.Entry.{Entry}
use Rattle.guided.specs.Lists.{Lists, network_of, difference_from}
use Rattle.guided.specs.Offers.{offered_of, own_difference, row_difference, segment_difference}

module _ (x : Lists) (i v : ℕ) (row : List Entry) where
  -- what one entry answers
  abbrev pub entry_difference : ℕ → Option (ℕ × ℕ × ℕ)
  entry_difference r = unless (same (listed_at x.sites x.times (place_at (network_of x).junctions x.nearest i v r)) (entry_at row r)) (i, v, r)

  pub row_same : ((r : ℕ) → r < x.nearest → entry_difference r ≡ None) → None ≡ row_difference x i v row
  row_same h = sym (first_none entry_difference x.nearest h)

  pub row_differs : (r : ℕ) → r < x.nearest → ((q : ℕ) → q < r → entry_difference q ≡ None) → entry_difference r ≡ Some (i, v, r) → Some (i, v, r) ≡ row_difference x i v row
  row_differs r l before here = sym (first_at entry_difference x.nearest r (i, v, r) l before here)

  module _ (r : ℕ) (e y : Entry) (listed : e ≡ listed_at x.sites x.times (place_at (network_of x).junctions x.nearest i v r)) (other : y ≡ entry_at row r) where
    tested : same e y ≡ same (listed_at x.sites x.times (place_at (network_of x).junctions x.nearest i v r)) (entry_at row r)
    tested = ap (λ w. same w y) listed ∙ ap (same (listed_at x.sites x.times (place_at (network_of x).junctions x.nearest i v r))) other

    pub entry_differs : same e y ≡ false → entry_difference r ≡ Some (i, v, r)
    entry_differs t = unless_false (same (listed_at x.sites x.times (place_at (network_of x).junctions x.nearest i v r)) (entry_at row r)) (i, v, r) (sym tested ∙ t)

    pub entry_same : same e y ≡ true → entry_difference r ≡ None
    entry_same t = unless_true (same (listed_at x.sites x.times (place_at (network_of x).junctions x.nearest i v r)) (entry_at row r)) (i, v, r) (sym tested ∙ t)

module _ (x : Lists) (rows : ℕ → ℕ → List Entry) where
  pub difference_is : difference_from x rows ≡ first_of (segment_difference x rows) (length x.segments)
  unfolding first_difference
  difference_is = refl

  pub row_quiet : difference_from x rows ≡ None → (i v : ℕ) → i < length x.segments → v < (network_of x).junctions → row_difference x i v (rows i v) ≡ None
  row_quiet e i v l k = none_below (λ w. row_difference x i w (rows i w)) (network_of x).junctions (none_below (segment_difference x rows) (length x.segments) (sym difference_is ∙ e) i l) v k

  pub segment_quiet : (i n : ℕ) → (network_of x).junctions ≤ n → ((v : ℕ) → v < n → row_difference x i v (rows i v) ≡ None) → segment_difference x rows i ≡ None
  segment_quiet i n l h = first_none (λ v. row_difference x i v (rows i v)) (network_of x).junctions (λ v k. h v (omega arith))

  pub all_quiet : (n : ℕ) → length x.segments ≤ n → ((i : ℕ) → i < n → segment_difference x rows i ≡ None) → difference_from x rows ≡ None
  all_quiet n l h = difference_is ∙ first_none (segment_difference x rows) (length x.segments) (λ i k. h i (omega arith))

  -- nothing differs before a row of a segment that does
  pub here_first : (i v : ℕ) (p : ℕ × ℕ × ℕ) → i < length x.segments → v < (network_of x).junctions → ((j : ℕ) → j < i → segment_difference x rows j ≡ None) → ((w : ℕ) → w < v → row_difference x i w (rows i w) ≡ None) → row_difference x i v (rows i v) ≡ Some p → difference_from x rows ≡ Some p
  here_first i v p l k before earlier here = difference_is ∙ first_at (segment_difference x rows) (length x.segments) i p l before (first_at (λ w. row_difference x i w (rows i w)) (network_of x).junctions v p k earlier here)

-- one more that answers nothing
pub one_more_none : {X : Type 0} (f : ℕ → Option X) (n : ℕ) → ((r : ℕ) → r < n → f r ≡ None) → f n ≡ None → (r : ℕ) → r < n + 1 → f r ≡ None
one_more_none f n before here r l = ⊎_elim (λ k. before r k) (λ k. subst (λ q. f q ≡ None) (let z : n ≡ r = omega arith in z) here) (cases_lt r n)

module _ (x : Lists) where
  pub own_row_quiet : own_difference x ≡ None → (i v : ℕ) → i < length x.segments → v < (network_of x).junctions → row_difference x i v (offered_of x i v) ≡ None
  unfolding own_difference
  own_row_quiet e = row_quiet x (offered_of x) e

  pub own_quiet : (n : ℕ) → length x.segments ≤ n → ((i : ℕ) → i < n → segment_difference x (offered_of x) i ≡ None) → own_difference x ≡ None
  unfolding own_difference
  own_quiet = all_quiet x (offered_of x)

  -- whether a row that was compared agrees
  pub compared : (b : Bool) (o : Option (ℕ × ℕ × ℕ)) (i v : ℕ) (row : List Entry) → i < length x.segments → v < (network_of x).junctions → is_some o ≡ not b → o ≡ row_difference x i v row → row ≡ offered_of x i v → MatchBool b (row_difference x i v (offered_of x i v) ≡ None) (own_difference x ≡ None → ⊥)
  compared b o i v row l k e d same = go b o e (d ∙ ap (row_difference x i v) same)
    where
      go : (t : Bool) (p : Option (ℕ × ℕ × ℕ)) → is_some p ≡ not t → p ≡ row_difference x i v (offered_of x i v) → MatchBool t (row_difference x i v (offered_of x i v) ≡ None) (own_difference x ≡ None → ⊥)
      go true p f q = sym q ∙ is_none p f
      go false None f q = let z : ⊥ = cc in absurd z
      go false (Some p) f q = λ n. clash (row_difference x i v (offered_of x i v)) p (sym q) (own_row_quiet n i v l k)
