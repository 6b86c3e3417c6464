-- The row of all offers at a junction, site by site and along the arcs that leave it. Assumes nothing.
use Rattle.std.proofs.Common.{◌≡◌, ℕ, zero, suc, ◌+◌, ◌<◌, ◌≤◌, Bool, true, false, ◌&&◌, eqb, leb, ltb, List, [], Some, None, Option, sym, refl, ap, ◌∙◌, subst, ⊎_elim, arith}
use Rattle.std.specs.Option.{option_eq}
use Rattle.std.proofs.lemmas.Bool.{and_parts, and_from, cases_lt, eqb-true, eqb-false, eq-eqb, ne_eqb, leb-true, le-leb, lt-ltb}
use Rattle.network.specs.First.{provided}
use Rattle.network.specs.Model.{Roads, leaving, there}
use Rattle.network.proofs.First.{clash, none_below, provided_true}
use Rattle.network.proofs.Following.{provided_says}
use Rattle.soonest.proofs.Turns.{first_found}
use Rattle.rows.specs.Nearest.{entry}
use Rattle.rows.specs.Offering.{offer, offer_all, offer_sites, offer_arcs}
use Rattle.rows.specs.declared.entry.Entry.{Entry}

module _ (arcs : ℕ) (tail : ℕ → ℕ) (v from : ℕ) where
  asks : ℕ → Option ℕ
  asks a = provided (leb from a && eqb (tail a) v) a

  asks_at : (a : ℕ) → from ≤ a → tail a ≡ v → asks a ≡ Some a
  unfolding asks
  asks_at a l e = provided_true (leb from a && eqb (tail a) v) a (and_from (leb from a) (eqb (tail a) v) (le-leb from a l) (eq-eqb (tail a) v e))

  -- the next arc that leaves v, with none between
  pub leaving_says : (a : ℕ) → leaving arcs tail v from ≡ Some a → (from ≤ a) × (a < arcs) × (tail a ≡ v) × ((b : ℕ) → from ≤ b → b < a → tail b ≡ v → ⊥)
  unfolding asks
  leaving_says a e =
      let f = first_found asks arcs a e in
      let p = provided_says (leb from f.0 && eqb (tail f.0) v) f.0 a f.2 in
      let b = and_parts (leb from f.0) (eqb (tail f.0) v) p.0 in
      subst (λ i. (from ≤ i) × (i < arcs) × (tail i ≡ v) × ((b : ℕ) → from ≤ b → b < i → tail b ≡ v → ⊥)) p.1
      (leb-true from f.0 b.0, f.1, eqb-true (tail f.0) v b.1, λ c l k t. clash (asks c) c (asks_at c l t) (f.3 c k))

  pub leaving_none : leaving arcs tail v from ≡ None → (a : ℕ) → from ≤ a → a < arcs → tail a ≡ v → ⊥
  unfolding asks
  leaving_none e a l k t = clash (asks a) a (asks_at a l t) (none_below asks arcs e a k)

module _ (m : Roads) (C v : ℕ) where
  pub sites_none : offer_sites m C v 0 ≡ []
  unfolding offer_sites
  sites_none = refl

  pub sites_here : (s : ℕ) → m.place s ≡ v → offer_sites m C v (suc s) ≡ offer C (offer_sites m C v s) (entry s 0)
  unfolding offer_sites
  sites_here s e = rw (eq-eqb (m.place s) v e, offer_sites)

  pub sites_elsewhere : (s : ℕ) → (m.place s ≡ v → ⊥) → offer_sites m C v (suc s) ≡ offer_sites m C v s
  unfolding offer_sites
  sites_elsewhere s h = rw (ne_eqb (m.place s) v h, offer_sites)

module _ (m : Roads) (f : ℕ → ℕ) (C : ℕ) (rows : ℕ → List Entry) (v : ℕ) where
  pub arcs_none : offer_arcs m f C rows v 0 ≡ offer_sites m C v m.sites
  unfolding offer_arcs
  arcs_none = refl

  arcs_here : (a : ℕ) → m.tail a ≡ v → offer_arcs m f C rows v (suc a) ≡ offer_all C (f a) (rows (m.head a)) (offer_arcs m f C rows v a)
  unfolding offer_arcs
  arcs_here a e = rw (eq-eqb (m.tail a) v e, offer_arcs)

  arcs_elsewhere : (a : ℕ) → (m.tail a ≡ v → ⊥) → offer_arcs m f C rows v (suc a) ≡ offer_arcs m f C rows v a
  unfolding offer_arcs
  arcs_elsewhere a h = rw (ne_eqb (m.tail a) v h, offer_arcs)

  -- arcs that do not leave v offer nothing
  arcs_passed : (from to : ℕ) → from ≤ to → ((a : ℕ) → from ≤ a → a < to → m.tail a ≡ v → ⊥) → offer_arcs m f C rows v to ≡ offer_arcs m f C rows v from
  arcs_passed from zero l h = ap (offer_arcs m f C rows v) (let e : 0 ≡ from = omega arith in e)
  arcs_passed from (suc to) l h =
      ⊎_elim
      (λ k. arcs_elsewhere to (h to (omega arith) (omega arith)) ∙ arcs_passed from to (omega arith) (λ a x y. h a x (omega arith)))
      (λ k. ap (offer_arcs m f C rows v) (let e : suc to ≡ from = omega arith in e))
      (cases_lt from (suc to))

  pub arcs_next : (from a : ℕ) → leaving m.arcs m.tail v from ≡ Some a → (a < m.arcs) × (offer_arcs m f C rows v (suc a) ≡ offer_all C (f a) (rows (m.head a)) (offer_arcs m f C rows v from))
  arcs_next from a e =
      let s = leaving_says m.arcs m.tail v from a e in
      (s.1, arcs_here a s.2 ∙ ap (offer_all C (f a) (rows (m.head a))) (arcs_passed from a s.0 s.3))

  pub arcs_last : (from : ℕ) → from ≤ m.arcs → leaving m.arcs m.tail v from ≡ None → offer_arcs m f C rows v m.arcs ≡ offer_arcs m f C rows v from
  arcs_last from l e = arcs_passed from m.arcs l (leaving_none m.arcs m.tail v from e)

-- A turn over the sites: where one stands at v it is offered, and else nothing changes.
module _ (m : Roads) (C v s : ℕ) (row new : List Entry) (place : Option ℕ) (within : s < m.sites) (so_far : row ≡ offer_sites m C v s) (says : place ≡ there m.sites m.place s) where
  placed : place ≡ Some (m.place s)
  placed = says ∙ provided_true (ltb s m.sites) (m.place s) (lt-ltb s m.sites within)

  pub turn_here : (r : Bool) → r ≡ option_eq eqb place (Some v) → r ≡ true → new ≡ offer C row (entry s 0) → new ≡ offer_sites m C v (s + 1)
  turn_here r e t n =
      let same = eqb-true (m.place s) v (ap (λ o. option_eq eqb o (Some v)) (sym placed) ∙ sym e ∙ t) in
      n ∙ ap (λ q. offer C q (entry s 0)) so_far ∙ sym (sites_here m C v s same) ∙ ap (offer_sites m C v) (let z : suc s ≡ s + 1 = omega arith in z)

  pub turn_elsewhere : (r : Bool) → r ≡ option_eq eqb place (Some v) → r ≡ false → new ≡ row → new ≡ offer_sites m C v (s + 1)
  turn_elsewhere r e t n =
      let other = eqb-false (m.place s) v (ap (λ o. option_eq eqb o (Some v)) (sym placed) ∙ sym e ∙ t) in
      n ∙ so_far ∙ sym (sites_elsewhere m C v s other) ∙ ap (offer_sites m C v) (let z : suc s ≡ s + 1 = omega arith in z)
