-- The junction of least key. Assumes nothing.
use Rattle.std.proofs.Common.{◌≡◌, ℕ, zero, suc, ◌<◌, ◌≤◌, Bool, true, false, ltb, Some, None, Option, sym, refl, ap, ◌∙◌, subst, ⊎_elim, arith}
use Rattle.std.proofs.lemmas.Bool.{cases_eq, ltb-true, ltb-false, both_ways}
use Rattle.network.proofs.First.{clash}
use Rattle.network.proofs.Following.{some_same}
use Rattle.soonest.specs.Guidance.{Guidance}
use Rattle.soonest.specs.Stages.{Stage, better, least, full, next}

-- b is the least of the keys below n
pub record Least (key : ℕ → Option ℕ) (n : ℕ) (b : ℕ × ℕ) : Type 0 where
  pub within : b.0 < n
  pub waits : key b.0 ≡ Some b.1
  pub smallest : (i κ : ℕ) → i < n → key i ≡ Some κ → b.1 ≤ κ

-- the better of two is nothing only where both are
better_none : (j : ℕ) (o : Option ℕ) (best : Option (ℕ × ℕ)) → better j o best ≡ None → (o ≡ None) × (best ≡ None)
better_none j None best e = (refl, e)
better_none j (Some κ) None e = clash (better j (Some κ) None) (j, κ) refl e
better_none j (Some κ) (Some b) e = go (ltb κ b.1) e
  where
    go : (t : Bool) → ◌≡◌ {A = Option (ℕ × ℕ)} (elim t [ true ↦ Some (j, κ) | false ↦ Some b ]) None → (Some κ ≡ None) × (Some b ≡ None)
    go true p = clash (Some (j, κ)) (j, κ) refl p
    go false p = clash (Some b) b refl p

module _ (key : ℕ → Option ℕ) where
  -- where no least is found none waits
  pub none_waits : (n : ℕ) → least key n ≡ None → (i : ℕ) → i < n → key i ≡ None
  unfolding least
  none_waits zero e i l = absurd (omega arith)
  none_waits (suc n) e i l =
      let both = better_none n (key n) (least key n) e in
      ⊎_elim (λ p. ap key p ∙ both.0) (λ p. none_waits n both.1 i (omega arith)) (cases_eq i n)

  -- a least one, and one junction more
  one_more : (n : ℕ) (b : ℕ × ℕ) → b.0 < suc n → key b.0 ≡ Some b.1 → ((i κ : ℕ) → i < n → key i ≡ Some κ → b.1 ≤ κ) → ((κ : ℕ) → key n ≡ Some κ → b.1 ≤ κ) → Least key (suc n) b
  one_more n b l w before here = record {
    within = l;
    waits = w;
    smallest = λ i κ m e. ⊎_elim (λ p. here κ (ap key (sym p) ∙ e)) (λ p. before i κ (omega arith) e) (cases_eq i n);
  }

  pub least_is : (n : ℕ) (b : ℕ × ℕ) → least key n ≡ Some b → Least key n b
  unfolding least
  least_is zero b e = clash (Some b) b refl (sym e)
  least_is (suc n) b e = go (key n) refl (least key n) refl (least_is n) e
    where
      go : (o : Option ℕ) → key n ≡ o → (p : Option (ℕ × ℕ)) → least key n ≡ p → ((c : ℕ × ℕ) → least key n ≡ Some c → Least key n c) → better n o p ≡ Some b → Least key (suc n) b
      go None x p y less z = let before = less b (y ∙ z) in let l = before.within in one_more n b (omega arith) before.waits before.smallest (λ κ w. clash (key n) κ w x)
      go (Some κ) x None y less z =
          subst (Least key (suc n)) (some_same (Some (n, κ)) (n, κ) b refl z)
          (one_more n (n, κ) (omega arith) x (λ i j l w. clash (key i) j w (none_waits n y i l)) (λ j w. let same = some_same (key n) κ j x w in omega arith))
      go (Some κ) x (Some c) y less z = test (ltb κ c.1) refl z
        where
          test : (t : Bool) → ltb κ c.1 ≡ t → ◌≡◌ {A = Option (ℕ × ℕ)} (elim t [ true ↦ Some (n, κ) | false ↦ Some c ]) (Some b) → Least key (suc n) b
          test true s w =
              let before = less c y in
              let m = ltb-true κ c.1 s in
              subst (Least key (suc n)) (some_same (Some (n, κ)) (n, κ) b refl w)
              (one_more n (n, κ) (omega arith) x (λ i j l e. let a = before.smallest i j l e in omega arith) (λ j e. let same = some_same (key n) κ j x e in omega arith))
          test false s w =
              let before = less c y in
              let m = ltb-false κ c.1 s in
              let l = before.within in
              subst (Least key (suc n)) (some_same (Some c) c b refl w)
              (one_more n c (omega arith) before.waits before.smallest (λ j e. let same = some_same (key n) κ j x e in omega arith))

module _ (g : Guidance) (k : ℕ) (s : Stage) where
  -- what is taken next is least, and fewer than k are listed
  pub next_is : (b : ℕ × ℕ) → next g k s ≡ Some b → (full g k s ≡ false) × Least s.key g.roads.junctions b
  unfolding next
  next_is b e = go (full g k s) refl e
    where
      go : (t : Bool) → full g k s ≡ t → ◌≡◌ {A = Option (ℕ × ℕ)} (elim t [ true ↦ None | false ↦ least s.key g.roads.junctions ]) (Some b) → (full g k s ≡ false) × Least s.key g.roads.junctions b
      go true f x = clash (Some b) b refl (sym x)
      go false f x = (f, least_is s.key g.roads.junctions b x)

  -- where nothing is taken and fewer than k are listed, none waits
  pub next_none : next g k s ≡ None → full g k s ≡ false → (u : ℕ) → u < g.roads.junctions → s.key u ≡ None
  unfolding next
  next_none e f = none_waits s.key g.roads.junctions (go (full g k s) f e)
    where
      go : (t : Bool) → t ≡ false → ◌≡◌ {A = Option (ℕ × ℕ)} (elim t [ true ↦ None | false ↦ least s.key g.roads.junctions ]) None → least s.key g.roads.junctions ≡ None
      go true x y = absurd (both_ways true x refl)
      go false x y = y
