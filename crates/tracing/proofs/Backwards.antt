-- Following ways back, one arc after the other, and the arcs in driving order. Assumes nothing.
use Rattle.std.proofs.Common.{◌≡◌, ℕ, suc, ◌<◌, Bool, true, false, ◌&&◌, eqb, ltb, List, [], ◌∷◌, ◌++◌, reverse, Some, None, Option, sym, refl, ap, ◌∙◌, append_assoc, arith}
use Rattle.std.specs.Option.{option_map}
use Rattle.std.proofs.lemmas.List.{reverse-append}
use Rattle.std.proofs.lemmas.Bool.{and_parts, ltb-true}
use Rattle.network.proofs.First.{clash}
use Rattle.network.proofs.Following.{provided_says}
use Rattle.network.specs.First.{provided}
use Rattle.network.specs.Laws.{WellFormed}
use Rattle.network.specs.Model.{Roads}
use Rattle.soonest.proofs.Backs.{back_start, back_none, back_on}
use Rattle.soonest.specs.Ways.{back, by_way, leads_to}

provided_none : {X : Type 0} (b : Bool) (x : X) → provided b x ≡ None → b ≡ false
provided_none true x e = clash (Some x) x refl e
provided_none false x e = refl

-- the tail of an arc that leads to v is a junction
pub tail_there : (m : Roads) → WellFormed m → (v a w : ℕ) → provided (ltb a m.arcs && eqb (m.head a) v) (m.tail a) ≡ Some w → w < m.junctions
tail_there m ok v a w e =
    let p = provided_says (ltb a m.arcs && eqb (m.head a) v) (m.tail a) w e in
    let q = and_parts (ltb a m.arcs) (eqb (m.head a) v) p.0 in
    let l = ok.tail_within a (ltb-true a m.arcs q.0) in
    let z = p.1 in
    omega arith

module _ (m : Roads) (way : ℕ → ℕ) (start : ℕ) where
  -- at most n arcs to v, and then those that were followed back from there
  abbrev pub so_far : List ℕ → (n v : ℕ) → Option (List ℕ)
  so_far trail n v = option_map (λ arcs. arcs ++ reverse trail) (back m way start n v)

  pub so_far_ends : (trail : List ℕ) (n v : ℕ) → v ≡ start → so_far trail n v ≡ Some (reverse trail)
  so_far_ends trail n v e = ap (option_map (λ arcs. arcs ++ reverse trail)) (back_start m way start n v e)

  pub so_far_full : (trail : List ℕ) (n v : ℕ) → n ≡ 0 → (v ≡ start → ⊥) → so_far trail n v ≡ None
  so_far_full trail n v z e = ap (λ n. so_far trail n v) z ∙ ap (option_map (λ arcs. arcs ++ reverse trail)) (back_none m way start v e)

  -- the arc that leads to v goes before those that follow
  before_trail : (trail : List ℕ) (a : ℕ) (o : Option (List ℕ)) → option_map (λ arcs. arcs ++ reverse (trail ++ a ∷ [])) o ≡ option_map (λ arcs. arcs ++ reverse trail) (option_map (λ arcs. arcs ++ a ∷ []) o)
  before_trail trail a None = refl
  before_trail trail a (Some xs) = ap Some (ap (λ ys. xs ++ ys) (reverse-append trail (a ∷ [])) ∙ sym (append_assoc xs (a ∷ []) (reverse trail)))

  module _ (trail : List ℕ) (room n v a : ℕ) (more : room ≡ suc n) (away : v ≡ start → ⊥) (by : a ≡ way v) where
    -- an arc that leads to v, and one that does not
    pub so_far_more : (w : ℕ) → provided (ltb a m.arcs && eqb (m.head a) v) (m.tail a) ≡ Some w → so_far (trail ++ a ∷ []) n w ≡ so_far trail room v
    so_far_more w e =
        let p = provided_says (ltb a m.arcs && eqb (m.head a) v) (m.tail a) w e in
        let leads : leads_to m way start v ≡ true = ap (λ b. ltb b m.arcs && eqb (m.head b) v) (sym by) ∙ p.0 in
        let tail : w ≡ m.tail (way v) = sym p.1 ∙ ap m.tail by in
        ap (λ u. so_far (trail ++ a ∷ []) n u) tail
        ∙ before_trail trail a (back m way start n (m.tail (way v)))
        ∙ ap (λ b. option_map (λ arcs. arcs ++ reverse trail) (option_map (λ arcs. arcs ++ b ∷ []) (back m way start n (m.tail (way v))))) by
        ∙ ap (option_map (λ arcs. arcs ++ reverse trail)) (ap (λ b. by_way m way start b v (back m way start n (m.tail (way v)))) (sym leads) ∙ sym (back_on m way start n v away))
        ∙ ap (λ k. so_far trail k v) (sym more)

    pub so_far_stops : provided (ltb a m.arcs && eqb (m.head a) v) (m.tail a) ≡ None → so_far trail room v ≡ None
    so_far_stops e =
        let leads : leads_to m way start v ≡ false = ap (λ b. ltb b m.arcs && eqb (m.head b) v) (sym by) ∙ provided_none (ltb a m.arcs && eqb (m.head a) v) (m.tail a) e in
        ap (λ k. so_far trail k v) more
        ∙ ap (option_map (λ arcs. arcs ++ reverse trail)) (back_on m way start n v away ∙ ap (λ b. by_way m way start b v (back m way start n (m.tail (way v)))) leads)
