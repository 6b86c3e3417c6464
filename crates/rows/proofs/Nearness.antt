-- What a row says of the sums to wanted sites. Assumes nothing.
use Rattle.std.proofs.Common.{◌≡◌, ℕ, zero, suc, ◌-◌, ◌<◌, ◌≤◌, Bool, true, false, ◌&&◌, eqb, List, [], ◌∷◌, length, is_some, Some, None, Option, sym, refl, ap, ◌∙◌, ⊎_elim, arith}
use Rattle.std.specs.Option.{option_or}
use Rattle.std.specs.List.{All, AllPairs, Contains}
use Rattle.std.proofs.lemmas.Bool.{eq-eqb, and_from, both_ways, cases_Bool}
use Rattle.std.proofs.lemmas.List.Elements.{All-contains}
use Rattle.network.specs.First.{first_of, provided}
use Rattle.network.specs.Model.{Roads}
use Rattle.network.proofs.First.{clash, provided_true, none_below, is_none}
use Rattle.network.proofs.Following.{some_same}
use Rattle.rows.specs.Nearest.{entry, Before, Nearest}
use Rattle.rows.specs.Index.{missing, entry_at}
use Rattle.rows.specs.Guided.{first_wanted, least_to, wanted_at}
use Rattle.rows.specs.declared.entry.Entry.{Entry}
use Rattle.rows.proofs.Listing.{in_none, in_head, in_tail, in_cases, pairs_tail, pairs_head, before_no_later}
use Rattle.rows.proofs.Crowds.{Serving, serving_from}

module _ (wanted : ℕ → Bool) where
  wanted_either : (P : Option ℕ → Type 0) (x : Entry) (row : List Entry) → (wanted x.site ≡ true → P (Some x.time)) → (wanted x.site ≡ false → P (first_wanted wanted row)) → P (first_wanted wanted (x ∷ row))
  wanted_either P x row here on = go (wanted x.site) refl
    where
      go : (b : Bool) → wanted x.site ≡ b → P (elim b as (λ _. Option ℕ) [ true ↦ Some x.time | false ↦ first_wanted wanted row ])
      go true e = here e
      go false e = on e

  -- what it answers is the time of an entry
  pub wanted_in : (row : List Entry) (t : ℕ) → first_wanted wanted row ≡ Some t → (x : Entry) × Contains row x × (x.time ≡ t)
  wanted_in [] t = λ e. clash (Some t) t refl (sym e)
  wanted_in (x ∷ row) t =
      wanted_either (λ o. o ≡ Some t → (y : Entry) × Contains (x ∷ row) y × (y.time ≡ t)) x row
      (λ w e. (x, in_head x row, some_same (Some x.time) x.time t refl e))
      (λ w e. let r = wanted_in row t e in (r.0, in_tail r.0 x row r.1, r.2))

  -- a wanted entry is no sooner than the first
  pub wanted_first : (row : List Entry) (x : Entry) → AllPairs Before row → Contains row x → wanted x.site ≡ true → (t : ℕ) × (first_wanted wanted row ≡ Some t) × (t ≤ x.time)
  wanted_first [] x h i w = absurd (in_none x i)
  wanted_first (y ∷ row) x h i w =
      wanted_either (λ o. (t : ℕ) × (o ≡ Some t) × (t ≤ x.time)) y row
      (λ e. (y.time, refl, ⊎_elim (λ p. let q = ap (λ z. z.time) p in omega arith) (λ j. before_no_later y x (All-contains (Before y) row x (pairs_head Before y row h) j)) (in_cases x y row i)))
      (λ e. ⊎_elim (λ p. absurd (both_ways (wanted y.site) e (ap (λ z. wanted z.site) (sym p) ∙ w))) (λ j. wanted_first row x (pairs_tail Before y row h) j w) (in_cases x y row i))

  -- no time that is offered of a wanted site is below what the row says
  pub least_to_low : (C : ℕ) (Offered : ℕ → ℕ → Type 0) (row : List Entry) → Nearest C Offered row → (s t : ℕ) → Offered s t → wanted s ≡ true → (u : ℕ) × (least_to C wanted row ≡ Some u) × (u ≤ t)
  unfolding least_to
  least_to_low C Offered row n s t o w = ⊎_elim listed full (served.serves s t o)
    where
      served : Serving C Offered row
      served = serving_from C Offered row n

      listed : ((u : ℕ) × Contains row (entry s u) × (u ≤ t)) → (u : ℕ) × (option_or (first_wanted wanted row) (provided (eqb (length row) C) (entry_at row (C - 1)).time) ≡ Some u) × (u ≤ t)
      listed p =
          let f = wanted_first row (entry s p.0) n.ordered p.1 w in
          let low = p.2 in
          let less = f.2 in
          (f.0, ap (λ q. option_or q (provided (eqb (length row) C) (entry_at row (C - 1)).time)) f.1, omega arith)

      last : (k : ℕ) → length row ≡ k → All (λ x. Before x (entry s t)) row → (entry_at row (k - 1)).time ≤ t
      last zero e h = go row e
        where
          go : (l : List Entry) → length l ≡ 0 → (entry_at l (0 - 1)).time ≤ t
          go [] d = omega arith
          go (x ∷ l) d = absurd (omega arith)
      last (suc k) e h = before_no_later (entry_at row (suc k - 1)) (entry s t) (h (suc k - 1) missing (omega arith))

      full : ((length row ≡ C) × All (λ x. Before x (entry s t)) row) → (u : ℕ) × (option_or (first_wanted wanted row) (provided (eqb (length row) C) (entry_at row (C - 1)).time) ≡ Some u) × (u ≤ t)
      full p = go (first_wanted wanted row) refl
        where
          go : (q : Option ℕ) → first_wanted wanted row ≡ q → (u : ℕ) × (option_or q (provided (eqb (length row) C) (entry_at row (C - 1)).time) ≡ Some u) × (u ≤ t)
          go None e = ((entry_at row (C - 1)).time, provided_true (eqb (length row) C) (entry_at row (C - 1)).time (eq-eqb (length row) C p.0), last C p.0 p.1)
          go (Some u) e = let x = wanted_in row u e in let d = x.2 in let l = before_no_later x.0 (entry s t) (All-contains (λ z. Before z (entry s t)) row x.0 p.1 x.1) in (u, refl, omega arith)

-- where a wanted site stands, the test says so
pub wanted_here : (m : Roads) (wanted : ℕ → Bool) (v s : ℕ) → s < m.sites → m.place s ≡ v → wanted s ≡ true → wanted_at m wanted v ≡ true
unfolding wanted_at
wanted_here m wanted v s l e w =
    let at : ℕ → Option ℕ = λ i. provided (eqb (m.place i) v && wanted i) i in
    ⊎_elim
    (λ t. t)
    (λ n. clash (at s) s (provided_true (eqb (m.place s) v && wanted s) s (and_from (eqb (m.place s) v) (wanted s) (eq-eqb (m.place s) v e) w)) (none_below at m.sites (is_none (first_of at m.sites) n) s l))
    (cases_Bool (is_some (first_of at m.sites)))
