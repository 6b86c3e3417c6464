-- Rows are those of least sums exactly where each is the nearest of what its neighbours offer. Assumes nothing.
use Rattle.std.proofs.Common.{◌≡◌, ℕ, zero, suc, ◌+◌, ◌<◌, ◌≤◌, List, [], ◌∷◌, sym, refl, subst, inl, inr, ⊎_elim, arith}
use Rattle.std.specs.List.{Contains}
use Rattle.network.specs.Model.{Roads}
use Rattle.network.specs.Paths.{Chain}
use Rattle.rows.specs.Nearest.{entry, Nearest}
use Rattle.rows.specs.Rows.{total, Takes, Defined}
use Rattle.rows.specs.declared.entry.Entry.{Entry}
use Rattle.rows.proofs.Crowds.{Served, Serving, serving_from, nearest_from, serving_of}
use Rattle.rows.proofs.Steps.{Step, Offer, served_on, cut_from_whole}

module _ (m : Roads) (f : ℕ → ℕ) where
  -- a sum is a step and a sum
  pub takes_step : (v s t : ℕ) → Takes m f v s t → Step m f (Takes m f) v s t
  takes_step v s t p = go p.1 p.2 p.3
    where
      go : (arcs : List ℕ) → Chain m v arcs (m.place s) → total f arcs ≡ t → Step m f (Takes m f) v s t
      go [] c e = inl (p.0, sym c, sym e)
      go (a ∷ arcs) c e = inr (a, total f arcs, c.0, c.1, (p.0, arcs, c.2, refl), sym e)

  pub step_takes : (v s t : ℕ) → Step m f (Takes m f) v s t → Takes m f v s t
  step_takes v s t p =
      ⊎_elim
      (λ q. (q.0, [], sym q.1, sym q.2))
      (λ q. let on = q.4 in let sum = on.3 in let e = q.5 in (on.0, q.0 ∷ on.1, (q.2, q.3, on.2), omega arith))
      p

  -- each row is the nearest of what is offered at its junction
  abbrev pub Solved : ℕ → (ℕ → List Entry) → Type 0
  Solved C rows = (v : ℕ) → v < m.junctions → Nearest C (Offer m f rows v) (rows v)

  module _ (ok : (a : ℕ) → a < m.arcs → m.head a < m.junctions) (C : ℕ) (rows : ℕ → List Entry) where
    pub solved_from : Defined m f C rows → Solved C rows
    solved_from d v l = nearest_from C (Offer m f rows v) (rows v) (cut_from_whole m f C rows (Takes m f) v (rows v) (λ a n e. good (m.head a) (ok a n)) (serving_of C (Takes m f v) (Step m f (Takes m f) v) (rows v) (takes_step v) (λ s t p. (t, step_takes v s t p, omega arith)) (good v l)))
      where
        good : (w : ℕ) → w < m.junctions → Serving C (Takes m f w) (rows w)
        good w k = serving_from C (Takes m f w) (rows w) (d w k)

    module _ (rises : (a : ℕ) → a < m.arcs → 1 ≤ f a) (solved : Solved C rows) where
      solves : (v : ℕ) → v < m.junctions → Serving C (Offer m f rows v) (rows v)
      solves v l = serving_from C (Offer m f rows v) (rows v) (solved v l)

      -- an entry at t comes from one at less, and in the end from a site that stands there
      sound : (n v s t : ℕ) → t < n → v < m.junctions → Contains (rows v) (entry s t) → Takes m f v s t
      sound zero v s t k l i = absurd (omega arith)
      sound (suc n) v s t k l i =
          ⊎_elim
          (λ q. step_takes v s t (inl q))
          (λ q. let r = rises q.0 q.2 in
          let e = q.5 in
          step_takes v s t (inr (q.0, q.1, q.2, q.3, sound n (m.head q.0) s q.1 (omega arith) (ok q.0 q.2) q.4, q.5)))
          ((solves v l).offered (entry s t) i)

      -- every chain is served, arc by arc from its end
      serves : (arcs : List ℕ) (v s : ℕ) → v < m.junctions → s < m.sites → Chain m v arcs (m.place s) → Served C (rows v) s (total f arcs)
      serves [] v s l k c = (solves v l).serves s 0 (inl (k, sym c, refl))
      serves (a ∷ arcs) v s l k c =
          let here = solves v l in
          let there = solves (m.head a) (ok a c.0) in
          served_on C (rows v) (rows (m.head a)) (f a) s (total f arcs) here.few there.once (λ y i. here.serves y.site (f a + y.time) (inr (a, y.time, c.0, c.1, i, refl))) (serves arcs (m.head a) s (ok a c.0) k c.2)

      pub defined_from : Defined m f C rows
      defined_from v l = nearest_from C (Takes m f v) (rows v) (record {
        few = (solves v l).few;
        offered = λ x i. sound (suc x.time) v x.site x.time (omega arith) l i;
        ordered = (solves v l).ordered;
        once = (solves v l).once;
        serves = λ s t p. subst (Served C (rows v) s) p.3 (serves p.1 v s l p.0 p.2);
      })
