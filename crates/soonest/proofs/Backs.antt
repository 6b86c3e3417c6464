-- One arc more at the end of a chain, and what following ways back answers. Assumes nothing.
use Rattle.std.proofs.Common.{◌≡◌, ℕ, zero, suc, ◌<◌, List, [], ◌∷◌, ◌++◌, Some, None, sym, ◌∙◌}
use Rattle.std.proofs.lemmas.Bool.{eq-eqb, ne_eqb}
use Rattle.network.specs.Model.{Roads}
use Rattle.network.specs.Paths.{Chain}
use Rattle.soonest.specs.Ways.{back, leads_to, by_way}

module _ (m : Roads) where
  pub chain_on : (arcs : List ℕ) (v w u a : ℕ) → Chain m v arcs w → a < m.arcs → m.tail a ≡ w → m.head a ≡ u → Chain m v (arcs ++ a ∷ []) u
  chain_on [] v w u a c l t e = (l, t ∙ sym c, e)
  chain_on (b ∷ arcs) v w u a c l t e = (c.0, c.1, chain_on arcs (m.head b) w u a c.2 l t e)

  module _ (way : ℕ → ℕ) (v : ℕ) where
    -- no arc at the start; elsewhere nothing where no arc is allowed, and else the way, after those to its tail
    pub back_start : (n u : ℕ) → u ≡ v → back m way v n u ≡ Some []
    unfolding back
    back_start zero u e = rw (eq-eqb u v e, back)
    back_start (suc n) u e = rw (eq-eqb u v e, back)

    pub back_none : (u : ℕ) → (u ≡ v → ⊥) → back m way v 0 u ≡ None
    unfolding back
    back_none u h = rw (ne_eqb u v h, back)

    pub back_on : (n u : ℕ) → (u ≡ v → ⊥) → back m way v (suc n) u ≡ by_way m way v (leads_to m way v u) u (back m way v n (m.tail (way u)))
    unfolding back
    back_on n u h = rw (ne_eqb u v h, back)
