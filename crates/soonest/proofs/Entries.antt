-- What holds of the sites that are listed so far. Assumes nothing.
use Rattle.std.proofs.Common.{◌≡◌, ℕ, ◌<◌, ◌≤◌, Bool, true, false, List, [], ◌∷◌, ◌++◌, length, get_or, Some, Option, sym, refl, ap, ◌∙◌, subst, ⊎_elim, arith}
use Rattle.std.proofs.lemmas.List.{length_push, get_or_push, get_or_append_left}
use Rattle.std.proofs.lemmas.Bool.{cases_eq, both_ways}
use Rattle.network.specs.Model.{Roads}
use Rattle.soonest.specs.Claims.{site_at, reading_at, Listed, Reaches}
use Rattle.soonest.specs.Stages.{upd}
use Rattle.soonest.proofs.Turns.{upd_other}
use Rattle.soonest.proofs.Updates.{upd_at, still_wanted}

module _ {X : Type 0} (l : List X) (y d : X) where
  -- what holds at each place, and of what is put at the end
  pub each_more : (P : X → Type 0) → ((i : ℕ) → i < length l → P (get_or l i d)) → P y → (i : ℕ) → i < length (l ++ y ∷ []) → P (get_or (l ++ y ∷ []) i d)
  each_more P old new i low =
      let n = length_push l y in
      ⊎_elim
      (λ e. subst P (sym (get_or_push l y d i (sym e))) new)
      (λ e. let m : i < length l = omega arith in subst P (sym (get_or_append_left l (y ∷ []) d i m)) (old i m))
      (cases_eq i (length l))

  -- what holds of each two places, and of each place with what is put at the end
  pub each_two_more : (P : X → X → Type 0) → ((i j : ℕ) → i < j → j < length l → P (get_or l i d) (get_or l j d)) → ((i : ℕ) → i < length l → P (get_or l i d) y) → (i j : ℕ) → i < j → j < length (l ++ y ∷ []) → P (get_or (l ++ y ∷ []) i d) (get_or (l ++ y ∷ []) j d)
  each_two_more P old new i j less low =
      let n = length_push l y in
      let m : i < length l = omega arith in
      subst (λ a. P a (get_or (l ++ y ∷ []) j d)) (sym (get_or_append_left l (y ∷ []) d i m))
      (⊎_elim
      (λ e. subst (P (get_or l i d)) (sym (get_or_push l y d j (sym e))) (new i m))
      (λ e. let o : j < length l = omega arith in subst (P (get_or l i d)) (sym (get_or_append_left l (y ∷ []) d j o)) (old i j less o))
      (cases_eq j (length l)))

-- the claims on what is listed, where some sites are wanted still
pub record Entered (m : Roads) (free : ℕ → Bool) (v h k : ℕ) (reading : ℕ → Option ℕ) (wanted : ℕ → Bool) (listed : List (ℕ × ℕ)) : Type 0 where
  pub few : length listed ≤ k
  pub each_free : (i : ℕ) → i < length listed → (site_at listed i < m.sites) × (free (site_at listed i) ≡ true)
  pub each_gone : (i : ℕ) → i < length listed → wanted (site_at listed i) ≡ false
  pub once : (i j : ℕ) → i < j → j < length listed → site_at listed i ≡ site_at listed j → ⊥
  pub rising : (i j : ℕ) → i < j → j < length listed → reading_at listed i ≤ reading_at listed j
  -- the junction of a listed site keeps a reading no greater
  pub held : (i : ℕ) → i < length listed → (r : ℕ) × (reading (m.place (site_at listed i)) ≡ Some r) × (r ≤ reading_at listed i)
  pub soonest : (i : ℕ) → i < length listed → (q : ℕ) (arcs : List ℕ) → Reaches m v h (site_at listed i) q arcs → reading_at listed i ≤ q
  -- no path to a site that is wanted still reads less
  pub before : (i : ℕ) → i < length listed → (s q : ℕ) (arcs : List ℕ) → s < m.sites → wanted s ≡ true → Reaches m v h s q arcs → reading_at listed i ≤ q
  -- what is wanted still is free, and what is free is wanted or listed
  pub wanted_free : (s : ℕ) → wanted s ≡ true → free s ≡ true
  pub wanted_else : (s : ℕ) → free s ≡ true → (Listed listed s → ⊥) → wanted s ≡ true

module _ (m : Roads) (free : ℕ → Bool) (v h k : ℕ) where
  pub none_entered : (reading : ℕ → Option ℕ) → Entered m free v h k reading free []
  none_entered reading = record {
    few = omega arith;
    each_free = λ i l. absurd (omega arith);
    each_gone = λ i l. absurd (omega arith);
    once = λ i j l n. absurd (omega arith);
    rising = λ i j l n. absurd (omega arith);
    held = λ i l. absurd (omega arith);
    soonest = λ i l. absurd (omega arith);
    before = λ i l. absurd (omega arith);
    wanted_free = λ s w. w;
    wanted_else = λ s w n. w;
  }

  module _ (reading : ℕ → Option ℕ) (wanted : ℕ → Bool) (listed : List (ℕ × ℕ)) (e : Entered m free v h k reading wanted listed) where
    -- readings fall, and nothing else changes
    pub entered_falls : (lower : ℕ → Option ℕ) → ((u t : ℕ) → reading u ≡ Some t → (r : ℕ) × (lower u ≡ Some r) × (r ≤ t)) → Entered m free v h k lower wanted listed
    entered_falls lower falls = record {
      few = e.few;
      each_free = e.each_free;
      each_gone = e.each_gone;
      once = e.once;
      rising = e.rising;
      held = λ i l. let a = e.held i l in let b = falls (m.place (site_at listed i)) a.0 a.1 in (b.0, b.1, omega arith);
      soonest = e.soonest;
      before = e.before;
      wanted_free = e.wanted_free;
      wanted_else = e.wanted_else;
    }

    -- the wanted site i is listed at the reading r of its junction, which is that of a path and not above that of any to a
    -- wanted site
    pub entered_more : (i r q : ℕ) (arcs : List ℕ) → length listed < k → i < m.sites → wanted i ≡ true → reading (m.place i) ≡ Some r → Reaches m v h i q arcs → q ≤ r → ((s p : ℕ) (by : List ℕ) → s < m.sites → wanted s ≡ true → Reaches m v h s p by → r ≤ p) → Entered m free v h k reading (upd wanted i false) (listed ++ (i, r) ∷ [])
    entered_more i r q arcs room low asked own path most least = record {
      few = let n = length_push listed (i, r) in omega arith;
      each_free = each_more listed (i, r) (0, 0) (λ y. (y.0 < m.sites) × (free y.0 ≡ true)) e.each_free (low, e.wanted_free i asked);
      each_gone = each_more listed (i, r) (0, 0) (λ y. upd wanted i false y.0 ≡ false) (λ j l. off (site_at listed j) (e.each_gone j l)) (upd_at wanted i false i refl);
      once = each_two_more listed (i, r) (0, 0) (λ x y. x.0 ≡ y.0 → ⊥) e.once (λ j l p. both_ways (wanted (site_at listed j)) (e.each_gone j l) (ap wanted p ∙ asked));
      rising = each_two_more listed (i, r) (0, 0) (λ x y. x.1 ≤ y.1) e.rising (λ j l. let a = e.before j l i q arcs low asked path in omega arith);
      held = each_more listed (i, r) (0, 0) (λ y. (t : ℕ) × (reading (m.place y.0) ≡ Some t) × (t ≤ y.1)) e.held (r, own, omega arith);
      soonest = each_more listed (i, r) (0, 0) (λ y. (p : ℕ) (by : List ℕ) → Reaches m v h y.0 p by → y.1 ≤ p) e.soonest (λ p by way. least i p by low asked way);
      before = each_more listed (i, r) (0, 0) (λ y. (s p : ℕ) (by : List ℕ) → s < m.sites → upd wanted i false s ≡ true → Reaches m v h s p by → y.1 ≤ p) (λ j l s p by n w. e.before j l s p by n (still_wanted wanted i s w)) (λ s p by n w. least s p by n (still_wanted wanted i s w));
      wanted_free = λ s w. e.wanted_free s (still_wanted wanted i s w);
      wanted_else = else;
    }
      where
        off : (s : ℕ) → wanted s ≡ false → upd wanted i false s ≡ false
        off s w = ⊎_elim (λ p. upd_at wanted i false s p) (λ n. upd_other wanted i false s n ∙ w) (cases_eq s i)

        at_end : i ≡ site_at (listed ++ (i, r) ∷ []) (length listed)
        at_end = sym (ap (λ y. y.0) (get_or_push listed (i, r) (0, 0) (length listed) refl))

        else : (s : ℕ) → free s ≡ true → (Listed (listed ++ (i, r) ∷ []) s → ⊥) → upd wanted i false s ≡ true
        else s f out =
            let n = length_push listed (i, r) in
            ⊎_elim
            (λ p. absurd (out (length listed, omega arith, sym at_end ∙ sym p)))
            (λ p. upd_other wanted i false s p ∙ e.wanted_else s f (λ w. out (w.0, omega arith, ap (λ y. y.0) (get_or_append_left listed ((i, r) ∷ []) (0, 0) w.0 w.1) ∙ w.2)))
            (cases_eq s i)
