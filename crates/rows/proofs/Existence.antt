-- Rows of least sums exist, there is one of each junction, and no time in them is great. Assumes nothing.
use Rattle.std.proofs.Common.{◌≡◌, ℕ, zero, suc, ◌-◌, ◌*◌, ◌<◌, ◌≤◌, List, [], ◌∷◌, length, sym, refl, subst, inl, inr, ⊎_elim, arith}
use Rattle.std.specs.List.{Contains}
use Rattle.std.proofs.lemmas.Nat.{mul-le}
use Rattle.std.proofs.lemmas.List.Elements.{All-contains}
use Rattle.network.specs.Model.{Roads}
use Rattle.network.specs.Paths.{Chain}
use Rattle.rows.specs.Nearest.{LeastOf, Nearest}
use Rattle.rows.specs.Rows.{total, Takes, Defined}
use Rattle.rows.specs.Offering.{offered_row}
use Rattle.rows.specs.declared.entry.Entry.{Entry}
use Rattle.rows.proofs.Crowds.{Serving, nearest_from, serving_of}
use Rattle.rows.proofs.Steps.{Step, Offer, whole_from_cut}
use Rattle.rows.proofs.Solving.{solved_from, defined_from}
use Rattle.rows.proofs.Offers.{serving_same, serving_none, offered_row_serving, offered_row_nearest, nearest_is_offered_row}
use Rattle.rows.proofs.Shortening.{short_chain, total_most}
use Rattle.rows.proofs.Uniqueness.{one_nearest}

module _ (m : Roads) (f : ℕ → ℕ) where
  -- a chain of fewer than n arcs from v to the site s takes t
  abbrev pub Within : (n v s t : ℕ) → Type 0
  Within n v s t = (s < m.sites) × (arcs : List ℕ) × Chain m v arcs (m.place s) × (length arcs < n) × (total f arcs ≡ t)

  step_within : (n v s t : ℕ) → Step m f (Within n) v s t → Within (suc n) v s t
  step_within n v s t p =
      ⊎_elim
      (λ q. (q.0, [], sym q.1, omega arith, sym q.2))
      (λ q. let on = q.4 in let few = on.3 in let sum = on.4 in let e = q.5 in (on.0, q.0 ∷ on.1, (q.2, q.3, on.2), omega arith, omega arith))
      p

  pub within_step : (n v s t : ℕ) → Within (suc n) v s t → Step m f (Within n) v s t
  within_step n v s t p = go p.1 p.2 p.3 p.4
    where
      go : (arcs : List ℕ) → Chain m v arcs (m.place s) → length arcs < suc n → total f arcs ≡ t → Step m f (Within n) v s t
      go [] c l e = inl (p.0, sym c, sym e)
      go (a ∷ arcs) c l e = inr (a, total f arcs, c.0, c.1, (p.0, arcs, c.2, omega arith, refl), sym e)

  module _ (C : ℕ) where
    -- the rows by chains of fewer than n arcs
    unfoldable pub swept : ℕ → ℕ → List Entry
    swept zero v = []
    swept (suc n) v = offered_row m f C (swept n) v

    swept_serving : (n v : ℕ) → Serving C (Within n v) (swept n v)
    unfolding swept
    swept_serving zero v = serving_same C (λ s t. ⊥) (Within 0 v) [] (λ s t p. absurd p) (λ s t p. let l = p.3 in omega arith) (serving_none C)
    swept_serving (suc n) v = serving_same C (Step m f (Within n) v) (Within (suc n) v) (offered_row m f C (swept n) v) (step_within n v) (within_step n v) (whole_from_cut m f C (swept n) (Within n) v (offered_row m f C (swept n) v) (λ a l e. swept_serving n (m.head a)) (offered_row_serving m f C (swept n) v))

    -- a row of each junction, that of no other rows
    pub defined_once : (rows others : ℕ → List Entry) → Defined m f C rows → Defined m f C others → (v : ℕ) → v < m.junctions → rows v ≡ others v
    defined_once rows others d e v l = one_nearest (rows v) (others v) C (Takes m f v) (d v l) (e v l)

    module _ (ok : (a : ℕ) → a < m.arcs → m.head a < m.junctions) where
      pub swept_defined : Defined m f C (swept m.junctions)
      swept_defined v l = nearest_from C (Takes m f v) (swept m.junctions v) (serving_of C (Within m.junctions v) (Takes m f v) (swept m.junctions v) (λ s t p. (p.0, p.1, p.2, p.4)) back (swept_serving m.junctions v))
        where
          back : (s t : ℕ) → Takes m f v s t → (u : ℕ) × Within m.junctions v s u × (u ≤ t)
          back s t p = let c = short_chain m f ok p.1 v (m.place s) l p.2 in let low = c.3 in let e = p.3 in (total f c.0, (p.0, c.0, c.1, c.2, refl), omega arith)

      -- a time in a row is at most that of a chain of fewer arcs than there are junctions
      pub times_most : (rows : ℕ → List Entry) (most : ℕ) → Defined m f C rows → ((a : ℕ) → a < m.arcs → f a ≤ most) → (v : ℕ) (x : Entry) → v < m.junctions → Contains (rows v) x → x.time ≤ (m.junctions - 1) * most
      times_most rows most d h v x l i =
          let least = All-contains (λ y. LeastOf (Takes m f v) y.site y.time) (rows v) x (d v l).least i in
          let p = least.0 in
          let c = short_chain m f ok p.1 v (m.place x.site) l p.2 in
          let low = least.1 (total f c.0) (p.0, c.0, c.1, refl) in
          let sum = total_most m f most h c.0 v (m.place x.site) c.1 in
          let few = c.2 in
          let wide = mul-le (length c.0) most (m.junctions - 1) most (omega arith) (omega arith) in
          omega arith

      -- rows are those of least sums exactly where each is the row of what is offered
      pub offered_from : (rows : ℕ → List Entry) → Defined m f C rows → (v : ℕ) → v < m.junctions → rows v ≡ offered_row m f C rows v
      offered_from rows d v l = nearest_is_offered_row m f C rows v (rows v) (solved_from m f ok C rows d v l)

      pub defined_if_offered : ((a : ℕ) → a < m.arcs → 1 ≤ f a) → (rows : ℕ → List Entry) → ((v : ℕ) → v < m.junctions → rows v ≡ offered_row m f C rows v) → Defined m f C rows
      defined_if_offered rises rows h = defined_from m f ok C rows rises (λ v l. subst (Nearest C (Offer m f rows v)) (sym (h v l)) (offered_row_nearest m f C rows v))
