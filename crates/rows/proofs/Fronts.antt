-- An offer that comes after the first entries of a row leaves them as they are.
use Rattle.std.proofs.Common.{◌≡◌, ℕ, zero, suc, ◌<◌, ◌≤◌, ◌⊎◌, List, [], ◌∷◌, length, get_or, take, drop, sym, refl, ap, ◌∙◌, subst, inl, inr, ⊎_elim, arith}
use Rattle.std.specs.List.{AllPairs, Contains}
use Rattle.std.proofs.lemmas.Bool.{cases_eq}
use Rattle.std.proofs.lemmas.List.{take-take}
use Rattle.std.proofs.lemmas.List.Elements.{All-contains}
use Rattle.rows.specs.Nearest.{Before}
use Rattle.rows.specs.Offering.{put, offer}
use Rattle.rows.specs.declared.entry.Entry.{Entry}
use Rattle.rows.proofs.Listing.{in_none, in_head, in_tail, in_cases, pairs_tail, pairs_head, before_trans, before_irrefl}
use Rattle.rows.proofs.Putting.{put_either, put_in}

module _ {X : Type 0} where
  -- one entry more of the front
  pub front_more : (k : ℕ) (l : List X) (d x : X) → k < length l → Contains (take (suc k) l) x → (x ≡ get_or l k d) ⊎ Contains (take k l) x
  front_more k [] d x n i = absurd (omega arith)
  front_more zero (y ∷ l) d x n i = ⊎_elim (λ e. inl e) (λ j. inr j) (in_cases x y [] i)
  front_more (suc k) (y ∷ l) d x n i =
      ⊎_elim
      (λ e. inr (subst (λ w. Contains (y ∷ take k l) w) (sym e) (in_head y (take k l))))
      (λ j. ⊎_elim (λ e. inl e) (λ h. inr (in_tail x y (take k l) h)) (front_more k l d x (omega arith) j))
      (in_cases x y (take (suc k) l) i)

  pub front_less : (k : ℕ) (l : List X) (x : X) → Contains (take k l) x → Contains (take (suc k) l) x
  front_less zero l x i = absurd (in_none x i)
  front_less (suc k) [] x i = i
  front_less (suc k) (y ∷ l) x i =
      ⊎_elim
      (λ e. subst (λ w. Contains (y ∷ take (suc k) l) w) (sym e) (in_head y (take (suc k) l)))
      (λ j. in_tail x y (take (suc k) l) (front_less k l x j))
      (in_cases x y (take k l) i)

  pub front_within : (k n : ℕ) (l : List X) (x : X) → k ≤ n → Contains (take k l) x → Contains (take n l) x
  front_within k zero l x b i = subst (λ j. Contains (take j l) x) (let e : k ≡ 0 = omega arith in e) i
  front_within k (suc n) l x b i = ⊎_elim (λ e. subst (λ j. Contains (take j l) x) e i) (λ d. front_less n l x (front_within k n l x (omega arith) i)) (cases_eq k (suc n))

  pub front_last : (k : ℕ) (l : List X) (d : X) → k < length l → Contains (take (suc k) l) (get_or l k d)
  front_last k [] d n = absurd (omega arith)
  front_last zero (y ∷ l) d n = in_head y []
  front_last (suc k) (y ∷ l) d n = in_tail (get_or l k d) y (take (suc k) l) (front_last k l d (omega arith))

  pub rest_first : (k : ℕ) (l : List X) (d : X) → k < length l → Contains (drop k l) (get_or l k d)
  rest_first k [] d n = absurd (omega arith)
  rest_first zero (y ∷ l) d n = in_head y l
  rest_first (suc k) (y ∷ l) d n = rest_first k l d (omega arith)

  pub rest_in : (k : ℕ) (l : List X) (x : X) → Contains (drop k l) x → Contains l x
  rest_in zero l x i = i
  rest_in (suc k) [] x i = i
  rest_in (suc k) (y ∷ l) x i = in_tail x y l (rest_in k l x i)

  pub rest_less : (k : ℕ) (l : List X) (x : X) → Contains (drop (suc k) l) x → Contains (drop k l) x
  rest_less k [] x i = absurd (in_none x (rest_in k [] x (none k i)))
    where
      none : (k : ℕ) → Contains (drop (suc k) (let e : List X = [] in e)) x → Contains (drop k (let e : List X = [] in e)) x
      none zero i = i
      none (suc k) i = i
  rest_less zero (y ∷ l) x i = in_tail x y l i
  rest_less (suc k) (y ∷ l) x i = rest_less k l x i

  -- what is in a list is in its front or in its rest
  pub front_or_rest : (k : ℕ) (l : List X) (x : X) → Contains l x → Contains (take k l) x ⊎ Contains (drop k l) x
  front_or_rest zero l x i = inr i
  front_or_rest (suc k) [] x i = inl i
  front_or_rest (suc k) (y ∷ l) x i =
      ⊎_elim
      (λ e. inl (subst (λ w. Contains (y ∷ take k l) w) (sym e) (in_head y (take k l))))
      (λ j. ⊎_elim (λ h. inl (in_tail x y (take k l) h)) (λ h. inr h) (front_or_rest k l x j))
      (in_cases x y l i)

  pub cut_rest : (k C : ℕ) (l : List X) (x : X) → Contains (drop k (take C l)) x → Contains (drop k l) x
  cut_rest k zero l x i = absurd (in_none x (rest_in k [] x i))
  cut_rest zero (suc C) [] x i = i
  cut_rest zero (suc C) (y ∷ l) x i = ⊎_elim (λ e. subst (λ w. Contains (y ∷ l) w) (sym e) (in_head y l)) (λ j. in_tail x y l (cut_rest zero C l x j)) (in_cases x y (take C l) i)
  cut_rest (suc k) (suc C) [] x i = i
  cut_rest (suc k) (suc C) (y ∷ l) x i = cut_rest k C l x i

-- the first of what is left of a row in order comes no later than the others
pub rest_ordered : (k : ℕ) (l : List Entry) (d x : Entry) → AllPairs Before l → Contains (drop k l) x → (get_or l k d ≡ x) ⊎ Before (get_or l k d) x
rest_ordered k [] d x h i = absurd (in_none x (rest_in k [] x i))
rest_ordered zero (y ∷ l) d x h i = ⊎_elim (λ e. inl (sym e)) (λ j. inr (All-contains (Before y) l x (pairs_head Before y l h) j)) (in_cases x y l i)
rest_ordered (suc k) (y ∷ l) d x h i = rest_ordered k l d x (pairs_tail Before y l h) i

module _ (y : Entry) where
  abbrev Kept : ℕ → List Entry → List Entry → Type 0
  Kept k l r = (take k r ≡ take k l) × ((x : Entry) → Contains (drop k r) x → (x ≡ y) ⊎ Contains (drop k l) x)

  kept_put : (k : ℕ) (l : List Entry) → k ≤ length l → ((x : Entry) → Contains (take k l) x → Before x y) → Kept k l (put y l)
  kept_put zero l n b = (refl, λ x i. put_in y l x i)
  kept_put (suc k) [] n b = absurd (omega arith)
  kept_put (suc k) (z ∷ l) n b =
      put_either y (Kept (suc k) (z ∷ l)) z l
      (λ p. absurd (before_irrefl y (before_trans y z y p (b z (in_head z (take k l))))))
      (λ p e. (refl, λ x i. inr i))
      (λ p e. let r = kept_put k l (omega arith) (λ x i. b x (in_tail x z (take k l) i)) in (ap (λ q. z ∷ q) r.0, r.1))

  -- so does an offer, in a row of at most C entries
  pub kept_offer : (C k : ℕ) (l : List Entry) → k ≤ length l → k ≤ C → ((x : Entry) → Contains (take k l) x → Before x y) → Kept k l (offer C l y)
  unfolding offer
  kept_offer C k l n c b = let r = kept_put k l n b in (take-take k C (put y l) c ∙ r.0, λ x i. r.1 x (cut_rest k C (put y l) x i))

-- so the row is no shorter than they are
pub kept_length : (k : ℕ) (l r : List Entry) → k ≤ length l → take k r ≡ take k l → k ≤ length r
kept_length zero l r n e = omega arith
kept_length (suc k) [] r n e = absurd (omega arith)
kept_length (suc k) (y ∷ l) [] n e = let d = ap length e in absurd (omega arith)
kept_length (suc k) (y ∷ l) (z ∷ r) n e = let d = kept_length k l r (omega arith) (ap (drop 1) e) in omega arith
