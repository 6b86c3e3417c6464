-- What a change at one junction or site leaves, and the two ways that each turn of a step can go. Assumes nothing.
use Rattle.std.proofs.Common.{◌≡◌, ℕ, zero, suc, ◌<◌, ◌≤◌, Bool, true, false, not, ◌&&◌, eqb, Some, None, Option, sym, refl, ap, ◌∙◌, subst, ⊎_elim, arith}
use Rattle.std.proofs.lemmas.Bool.{and_parts, and_from, cases_eq, eqb-true, eq-eqb, ltb-true, ltb-false, not-true, not_from_false, both_ways}
use Rattle.network.specs.Model.{arrival}
use Rattle.network.proofs.Following.{some_same}
use Rattle.network.proofs.First.{clash}
use Rattle.soonest.specs.Guidance.{Guidance}
use Rattle.soonest.specs.Stages.{Stage, upd, below, full, list_site, list_one, list_all, reach, arrive, try_one, try_all, onwards}
use Rattle.soonest.proofs.Turns.{upd_same, upd_other, upd_says}

-- an update at a place that is known by an equation
pub upd_at : {X : Type 0} (f : ℕ → X) (j : ℕ) (x : X) (i : ℕ) → i ≡ j → upd f j x i ≡ x
upd_at f j x i e = ap (upd f j x) e ∙ upd_same f j x

-- what is wanted after a site is taken off was wanted before
pub still_wanted : (wanted : ℕ → Bool) (i s : ℕ) → upd wanted i false s ≡ true → wanted s ≡ true
still_wanted wanted i s e = ⊎_elim (λ p. absurd (both_ways false refl p.1)) (λ p. p.1) (upd_says wanted i false s true e)

-- what is below a reading is less than it
pub below_less : (q r : ℕ) (o : Option ℕ) → below q o ≡ true → o ≡ Some r → q < r
below_less q r o b e = ltb-true q r (subst (λ p. below q p ≡ true) e b)

-- where a junction gets a lower reading, every reading is as it was or lower
pub upd_falls : (reading : ℕ → Option ℕ) (j q : ℕ) → below q (reading j) ≡ true → (u t : ℕ) → reading u ≡ Some t → (r : ℕ) × (upd reading j (Some q) u ≡ Some r) × (r ≤ t)
upd_falls reading j q low u t e =
    ⊎_elim
    (λ p. let l = below_less q t (reading j) low (ap reading (sym p) ∙ e) in (q, upd_at reading j (Some q) u p, omega arith))
    (λ n. (t, upd_other reading j (Some q) u n ∙ e, omega arith))
    (cases_eq u j)

-- what is not below a reading finds one that is no greater
pub not_below : (q : ℕ) (o : Option ℕ) → below q o ≡ false → (t : ℕ) × (o ≡ Some t) × (t ≤ q)
not_below q None b = absurd (both_ways true b refl)
not_below q (Some t) b = (t, refl, ltb-false q t b)

module _ (g : Guidance) (k : ℕ) where
  -- a site is listed where it stands at v and is wanted and fewer than k are listed; else nothing changes
  pub list_either : (P : Stage → Type 0) (v r i : ℕ) (s : Stage) → (g.roads.place i ≡ v → s.wanted i ≡ true → full g k s ≡ false → P (list_site g k r i s)) → ((g.roads.place i ≡ v → s.wanted i ≡ true → full g k s ≡ false → ⊥) → P s) → P (list_one g k v r i s)
  unfolding list_one
  list_either P v r i s listed left = go test refl
    where
      test : Bool
      test = eqb (g.roads.place i) v && s.wanted i && not (full g k s)

      go : (b : Bool) → test ≡ b → P (elim b as (λ _. Stage) [ true ↦ list_site g k r i s | false ↦ s ])
      go true e =
          let outer = and_parts (eqb (g.roads.place i) v && s.wanted i) (not (full g k s)) e in
          let inner = and_parts (eqb (g.roads.place i) v) (s.wanted i) outer.0 in
          listed (eqb-true (g.roads.place i) v inner.0) inner.1 (not-true (full g k s) outer.1)
      go false e = left (λ p w f. both_ways test e (and_from (eqb (g.roads.place i) v && s.wanted i) (not (full g k s)) (and_from (eqb (g.roads.place i) v) (s.wanted i) (eq-eqb (g.roads.place i) v p) w) (not_from_false (full g k s) f)))

  -- what arrives by an arc of v below the head's reading is reached; else nothing changes
  pub try_either : (P : Stage → Type 0) (v r a : ℕ) (s : Stage) → ((q : ℕ) → g.roads.tail a ≡ v → arrival g.roads a r ≡ Some q → below q (s.reading (g.roads.head a)) ≡ true → P (reach g k a q s)) → (((q : ℕ) → g.roads.tail a ≡ v → arrival g.roads a r ≡ Some q → below q (s.reading (g.roads.head a)) ≡ false) → P s) → P (try_one g k v r a s)
  unfolding try_one
  try_either P v r a s reached left = go (eqb (g.roads.tail a) v) refl
    where
      test : (q : ℕ) → g.roads.tail a ≡ v → arrival g.roads a r ≡ Some q → (b : Bool) → below q (s.reading (g.roads.head a)) ≡ b → P (elim b as (λ _. Stage) [ true ↦ reach g k a q s | false ↦ s ])
      test q p e true l = reached q p e l
      test q p e false l = left (λ t x y. subst (λ i. below i (s.reading (g.roads.head a)) ≡ false) (some_same (arrival g.roads a r) q t e y) l)

      by_arrival : g.roads.tail a ≡ v → (o : Option ℕ) → arrival g.roads a r ≡ o → P (arrive g k a o s)
      by_arrival p None e = left (λ q x y. clash (arrival g.roads a r) q y e)
      by_arrival p (Some q) e = test q p e (below q (s.reading (g.roads.head a))) refl

      go : (b : Bool) → eqb (g.roads.tail a) v ≡ b → P (elim b as (λ _. Stage) [ true ↦ arrive g k a (arrival g.roads a r) s | false ↦ s ])
      go true e = by_arrival (eqb-true (g.roads.tail a) v e) (arrival g.roads a r) refl
      go false e = left (λ q x y. absurd (both_ways (eqb (g.roads.tail a) v) e (eq-eqb (g.roads.tail a) v x)))

  -- what each turn carries on holds after all of them
  pub list_through : (P : ℕ → Stage → Type 0) (v r : ℕ) (s : Stage) (n : ℕ) → P 0 s → ((i : ℕ) (t : Stage) → i < n → P i t → P (suc i) (list_one g k v r i t)) → P n (list_all g k v r n s)
  unfolding list_all
  list_through P v r s zero base turn = base
  list_through P v r s (suc n) base turn = turn n (list_all g k v r n s) (omega arith) (list_through P v r s n base (λ i t l. turn i t (omega arith)))

  pub try_through : (P : ℕ → Stage → Type 0) (v r : ℕ) (s : Stage) (n : ℕ) → P 0 s → ((a : ℕ) (t : Stage) → a < n → P a t → P (suc a) (try_one g k v r a t)) → P n (try_all g k v r n s)
  unfolding try_all
  try_through P v r s zero base turn = base
  try_through P v r s (suc n) base turn = turn n (try_all g k v r n s) (omega arith) (try_through P v r s n base (λ a t l. turn a t (omega arith)))

  -- the arcs are tried unless k are listed
  pub onwards_either : (P : Stage → Type 0) (v r : ℕ) (s : Stage) → (full g k s ≡ true → P s) → (full g k s ≡ false → P (try_all g k v r g.roads.arcs s)) → P (onwards g k v r s)
  onwards_either P v r s at_end on = go (full g k s) refl
    where
      go : (b : Bool) → full g k s ≡ b → P (elim b as (λ _. Stage) [ true ↦ s | false ↦ try_all g k v r g.roads.arcs s ])
      go true e = at_end e
      go false e = on e
