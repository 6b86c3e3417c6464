-- That each reading comes by its way, as readings fall. Assumes nothing.
use Rattle.std.proofs.Common.{◌≡◌, ℕ, ◌<◌, ◌≤◌, true, Some, None, Option, sym, refl, ap, ◌∙◌, subst, ⊎_elim, arith}
use Rattle.network.specs.Laws.{WellFormed, Lawful}
use Rattle.network.specs.Model.{Roads, arrival}
use Rattle.network.proofs.First.{clash}
use Rattle.network.proofs.Following.{some_same}
use Rattle.soonest.specs.Stages.{upd, below}
use Rattle.soonest.proofs.Leading.{Reached}
use Rattle.soonest.proofs.Turns.{upd_other, upd_says}
use Rattle.soonest.proofs.Updates.{upd_at, upd_falls, below_less}

module _ (m : Roads) (ok : WellFormed m) (law : Lawful m) (v h : ℕ) where
  -- at first only the start has a reading
  pub reached_first : (way : ℕ → ℕ) → v < m.junctions → m.reads h ≡ true → Reached m v h (upd (λ _. None) v (Some h)) way
  reached_first way l reads = record {
    within = λ u r e. ⊎_elim (λ p. (subst (λ i. i < m.junctions) (sym p.0) l, subst (λ i. m.reads i ≡ true) (some_same (Some r) h r (sym p.1) refl) reads)) (λ p. clash (Some r) r refl (sym p.1)) (upd_says (λ _. None) v (Some h) u (Some r) e);
    at_start = upd_at (λ _. None) v (Some h) v refl;
    by_way = λ u r e n. clash (Some r) r refl (sym (sym (upd_other (λ _. None) v (Some h) u n) ∙ e));
  }

  -- the head of arc a gets a lower reading by it
  module _ (reading : ℕ → Option ℕ) (way : ℕ → ℕ) (old : Reached m v h reading way) (a r q : ℕ) (low : a < m.arcs) (own : reading (m.tail a) ≡ Some r) (arrives : arrival m a r ≡ Some q) (less : below q (reading (m.head a)) ≡ true) where
    reads : m.reads r ≡ true
    reads = (old.within (m.tail a) r own).1

    pub rises_by : r < q
    rises_by = law.rises a r q low reads arrives

    -- the tail's own reading is not lowered by it
    pub apart : m.tail a ≡ m.head a → ⊥
    apart e = let b = below_less q r (reading (m.head a)) less (ap reading (sym e) ∙ own) in let c = rises_by in omega arith

    after : ℕ → Option ℕ
    after = upd reading (m.head a) (Some q)

    inside : (u z : ℕ) → after u ≡ Some z → (u < m.junctions) × (m.reads z ≡ true)
    unfolding after
    inside u z e =
        ⊎_elim
        (λ p. (subst (λ i. i < m.junctions) (sym p.0) (ok.head_within a low), subst (λ i. m.reads i ≡ true) (some_same (Some z) q z (sym p.1) refl) (ok.carry_reads a r q reads arrives)))
        (λ p. old.within u z p.1)
        (upd_says reading (m.head a) (Some q) u (Some z) e)

    -- u is come to by arc w, and no later than z
    Comes : (u z w : ℕ) → Type 0
    Comes u z w = (w < m.arcs) × (m.head w ≡ u) × ((t : ℕ) × (p : ℕ) × (after (m.tail w) ≡ Some t) × (arrival m w t ≡ Some p) × (p ≤ z))

    pub reached_more : (m.head a ≡ v → ⊥) → Reached m v h (upd reading (m.head a) (Some q)) (upd way (m.head a) a)
    unfolding after Comes
    reached_more start = record {
      within = inside;
      at_start = upd_other reading (m.head a) (Some q) v (λ e. start (sym e)) ∙ old.at_start;
      by_way = λ u z e n. ⊎_elim (λ p. new u z p.0 (some_same (Some z) q z (sym p.1) refl)) (λ p. kept u z n p.0 p.1) (upd_says reading (m.head a) (Some q) u (Some z) e);
    }
      where
        new : (u z : ℕ) → u ≡ m.head a → q ≡ z → Comes u z (upd way (m.head a) a u)
        new u z p same = subst (Comes u z) (sym (upd_at way (m.head a) a u p)) (low, sym p, (r, q, upd_other reading (m.head a) (Some q) (m.tail a) apart ∙ own, arrives, omega arith))

        kept : (u z : ℕ) → (u ≡ v → ⊥) → (u ≡ m.head a → ⊥) → reading u ≡ Some z → Comes u z (upd way (m.head a) a u)
        kept u z n p e =
            let by = old.by_way u z e n in
            let w = by.2 in
            let f = upd_falls reading (m.head a) q less (m.tail (way u)) w.0 w.2 in
            let k = law.keeps_order (way u) f.0 w.0 w.1 by.0 (inside (m.tail (way u)) f.0 f.1).1 (old.within (m.tail (way u)) w.0 w.2).1 f.2 w.3 in
            subst (Comes u z) (sym (upd_other way (m.head a) a u p)) (by.0, by.1, (f.0, k.0, f.1, k.1, omega arith))
