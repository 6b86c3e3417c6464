-- Driving along a list of arcs, and that ways lead back along a chain from the start. Assumes nothing.
use Rattle.std.proofs.Common.{◌≡◌, ℕ, zero, suc, ◌+◌, ◌<◌, ◌≤◌, Bool, true, false, eqb, ltb, List, [], ◌∷◌, ◌++◌, length, get_or, drop, Some, None, Option, sym, refl, ap, ◌∙◌, subst, ⊎_elim, arith, length-append}
use Rattle.std.specs.Option.{option_map}
use Rattle.std.proofs.lemmas.List.{at_drop_more}
use Rattle.std.proofs.lemmas.Bool.{and_parts, ltb-true, eqb-true, cases_eq}
use Rattle.network.proofs.First.{clash}
use Rattle.network.proofs.Following.{some_same}
use Rattle.network.specs.First.{onward}
use Rattle.network.specs.Model.{Roads}
use Rattle.network.specs.Paths.{Chain, along}
use Rattle.soonest.proofs.Backs.{chain_on, back_start, back_none, back_on}
use Rattle.soonest.specs.Ways.{back, by_way, leads_to}

-- the answer that `mapped` started from
mapped_from : {X Y : Type 0} (f : X → Y) (o : Option X) (y : Y) → option_map f o ≡ Some y → (x : X) × (o ≡ Some x) × (f x ≡ y)
mapped_from f None y e = clash (Some y) y refl (sym e)
mapped_from f (Some x) y e = (x, refl, some_same (Some (f x)) (f x) y refl e)

module _ (m : Roads) where
  -- the next arc of a drive
  pub along_more : (arcs : List ℕ) (i h : ℕ) (arrives : Option ℕ) → i < length arcs → m.carry (get_or arcs i 0) h ≡ arrives → along m h (drop i arcs) ≡ onward arrives (λ q. along m q (drop (i + 1) arcs))
  along_more arcs i h arrives l e = at_drop_more (along m h) arcs i 0 l ∙ ap (λ o. onward o (λ q. along m q (drop (i + 1) arcs))) e

  module _ (way : ℕ → ℕ) (start : ℕ) where
    -- what `by_way` answers where it answers
    by_way_from : (b : Bool) (v : ℕ) (o : Option (List ℕ)) (arcs : List ℕ) → by_way m way start b v o ≡ Some arcs → (b ≡ true) × (xs : List ℕ) × (o ≡ Some xs) × (xs ++ way v ∷ [] ≡ arcs)
    by_way_from true v o arcs e = let p = mapped_from (λ xs. xs ++ way v ∷ []) o arcs e in (refl, p.0, p.1, p.2)
    by_way_from false v o arcs e = clash (Some arcs) arcs refl (sym e)

    at_start : (n v : ℕ) (arcs : List ℕ) → v ≡ start → back m way start n v ≡ Some arcs → Chain m start arcs v
    at_start n v arcs e f = subst (λ xs. Chain m start xs v) (some_same (Some []) [] arcs refl (sym (back_start m way start n v e) ∙ f)) (sym e)

    pub back_chain : (n v : ℕ) (arcs : List ℕ) → back m way start n v ≡ Some arcs → Chain m start arcs v
    back_chain zero v arcs f = ⊎_elim (λ e. at_start 0 v arcs e f) (λ e. clash (back m way start 0 v) arcs f (back_none m way start v e)) (cases_eq v start)
    back_chain (suc n) v arcs f =
        ⊎_elim
        (λ e. at_start (suc n) v arcs e f)
        (λ e.
        let p = by_way_from (leads_to m way start v) v (back m way start n (m.tail (way v))) arcs (sym (back_on m way start n v e) ∙ f) in
        let q = and_parts (ltb (way v) m.arcs) (eqb (m.head (way v)) v) p.0 in
        subst (λ xs. Chain m start xs v) p.3 (chain_on m p.1 start (m.tail (way v)) v (way v) (back_chain n (m.tail (way v)) p.1 p.2) (ltb-true (way v) m.arcs q.0) refl (eqb-true (m.head (way v)) v q.1)))
        (cases_eq v start)

    few_at_start : (n v : ℕ) (arcs : List ℕ) → v ≡ start → back m way start n v ≡ Some arcs → length arcs ≤ n
    few_at_start n v arcs e f = subst (λ xs. length xs ≤ n) (some_same (Some []) [] arcs refl (sym (back_start m way start n v e) ∙ f)) (omega arith)

    -- not more arcs than were asked for
    pub back_few : (n v : ℕ) (arcs : List ℕ) → back m way start n v ≡ Some arcs → length arcs ≤ n
    back_few zero v arcs f = ⊎_elim (λ e. few_at_start 0 v arcs e f) (λ e. clash (back m way start 0 v) arcs f (back_none m way start v e)) (cases_eq v start)
    back_few (suc n) v arcs f =
        ⊎_elim
        (λ e. few_at_start (suc n) v arcs e f)
        (λ e.
        let p = by_way_from (leads_to m way start v) v (back m way start n (m.tail (way v))) arcs (sym (back_on m way start n v e) ∙ f) in
        let before = back_few n (m.tail (way v)) p.1 p.2 in
        let len = sym (ap length p.3) ∙ length-append p.1 (way v ∷ []) in
        omega arith)
        (cases_eq v start)
