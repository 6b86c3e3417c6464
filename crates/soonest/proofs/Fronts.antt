-- What waits, and why nothing that is wanted lies beyond it unseen. Assumes nothing.
use Rattle.std.proofs.Common.{◌≡◌, ℕ, suc, ◌<◌, ◌≤◌, Bool, true, List, [], ◌∷◌, Some, None, Option, sym, refl, ap, ◌∙◌, subst, ⊎_elim, arith}
use Rattle.std.proofs.lemmas.Bool.{cases_eq}
use Rattle.network.specs.Model.{arrival}
use Rattle.network.specs.Paths.{Chain, along, Path}
use Rattle.network.proofs.First.{clash}
use Rattle.network.proofs.Following.{onward_from, onward_at, some_same}
use Rattle.soonest.specs.Guidance.{Guidance, Sound}
use Rattle.soonest.specs.Stages.{upd, below}
use Rattle.soonest.proofs.Turns.{upd_other, upd_says}
use Rattle.soonest.proofs.Updates.{upd_at, upd_falls}

-- the set W holds all that is wanted
abbrev pub Holds : (W wanted : ℕ → Bool) → Type 0
Holds W wanted = (s : ℕ) → wanted s ≡ true → W s ≡ true

module _ (g : Guidance) where
  -- each key is the estimate at the junction's reading, for a set that holds all that is wanted now
  abbrev pub Keyed : (reading key : ℕ → Option ℕ) → (wanted : ℕ → Bool) → Type 0
  Keyed reading key wanted = (u κ : ℕ) → key u ≡ Some κ → (r : ℕ) × (W : ℕ → Bool) × (reading u ≡ Some r) × Holds W wanted × (g.estimate u r W ≡ Some κ)

  -- no wanted site stands at the junction u, of those that are seen to: below c where u is x
  abbrev pub Bare : (wanted : ℕ → Bool) → (x c u : ℕ) → Type 0
  Bare wanted x c u = (s : ℕ) → s < g.roads.sites → (u ≡ x → s < c) → g.roads.place s ≡ u → wanted s ≡ true → ⊥

  -- each arc of u leads to a reading no greater than it carries, of those that are tried: below b where u is x
  abbrev pub Tried : (reading : ℕ → Option ℕ) → (x b u r : ℕ) → Type 0
  Tried reading x b u r = (a q : ℕ) → a < g.roads.arcs → (u ≡ x → a < b) → g.roads.tail a ≡ u → arrival g.roads a r ≡ Some q → (t : ℕ) × (reading (g.roads.head a) ≡ Some t) × (t ≤ q)

  -- a junction with a reading waits, or no wanted site is reached from it, or it is done
  pub data Standing (reading key : ℕ → Option ℕ) (wanted : ℕ → Bool) (x c b u r : ℕ) : Type 0 where
    waits : (κ : ℕ) → key u ≡ Some κ → Standing reading key wanted x c b u r
    hopeless : (W : ℕ → Bool) → Holds W wanted → g.estimate u r W ≡ None → Standing reading key wanted x c b u r
    done : Bare wanted x c u → Tried reading x b u r → Standing reading key wanted x c b u r

  -- so do all, while c sites and b arcs of the junction x are seen to
  abbrev pub Front : (reading key : ℕ → Option ℕ) → (wanted : ℕ → Bool) → (x c b : ℕ) → Type 0
  Front reading key wanted x c b = (u r : ℕ) → reading u ≡ Some r → Standing reading key wanted x c b u r

  module _ (reading key : ℕ → Option ℕ) (wanted : ℕ → Bool) where
    pub taken_keyed : (x : ℕ) → Keyed reading key wanted → Keyed reading (upd key x None) wanted
    taken_keyed x f u κ e = ⊎_elim (λ p. clash (Some κ) κ refl (sym p.1)) (λ p. f u κ p.1) (upd_says key x None u (Some κ) e)

    -- x is taken from those that wait, and nothing of it is seen to yet
    pub taken_front : (x y : ℕ) → Front reading key wanted y g.roads.sites g.roads.arcs → Front reading (upd key x None) wanted x 0 0
    taken_front x y f u r e = ⊎_elim here (λ n. there n (f u r e)) (cases_eq u x)
      where
        here : u ≡ x → Standing reading (upd key x None) wanted x 0 0 u r
        here p = done (λ s l below. absurd (let z = below p in omega arith)) (λ a q l below. absurd (let z = below p in omega arith))

        there : (u ≡ x → ⊥) → Standing reading key wanted y g.roads.sites g.roads.arcs u r → Standing reading (upd key x None) wanted x 0 0 u r
        there n (waits κ w) = waits κ (upd_other key x None u n ∙ w)
        there n (hopeless W h w) = hopeless W h w
        there n (done b t) = done (λ s l below. b s l (λ _. l)) (λ a q l below. t a q l (λ _. l))

    -- fewer are wanted
    pub fewer_keyed : (less : ℕ → Bool) → Holds wanted less → Keyed reading key wanted → Keyed reading key less
    fewer_keyed less sub f u κ e = let k = f u κ e in (k.0, k.1, k.2, λ s w. k.3 s (sub s w), k.4)

    -- site i of x is seen to: it is not wanted there any more
    pub listed_front : (less : ℕ → Bool) (x i b : ℕ) → Holds wanted less → (g.roads.place i ≡ x → less i ≡ true → ⊥) → Front reading key wanted x i b → Front reading key less x (suc i) b
    listed_front less x i b sub gone f u r e = go (f u r e)
      where
        bare : Bare wanted x i u → Bare less x (suc i) u
        bare old s l below p w =
            ⊎_elim
            (λ here. ⊎_elim (λ same. gone (ap g.roads.place (sym here) ∙ p ∙ same) (ap less (sym here) ∙ w)) (λ n. old s l (λ same. absurd (n same)) p (sub s w)) (cases_eq u x))
            (λ n. old s l (λ same. let z = below same in omega arith) p (sub s w))
            (cases_eq s i)

        go : Standing reading key wanted x i b u r → Standing reading key less x (suc i) b u r
        go (waits κ w) = waits κ w
        go (hopeless W h w) = hopeless W (λ s l. h s (sub s l)) w
        go (done old t) = done (bare old) t

    -- arc a of x is tried: its head has a reading no greater than it carries
    pub tried_front : (x r c a : ℕ) → reading x ≡ Some r → ((q : ℕ) → g.roads.tail a ≡ x → arrival g.roads a r ≡ Some q → (t : ℕ) × (reading (g.roads.head a) ≡ Some t) × (t ≤ q)) → Front reading key wanted x c a → Front reading key wanted x c (suc a)
    tried_front x r c a own leads f u z e = go (f u z e)
      where
        tried : Tried reading x a u z → Tried reading x (suc a) u z
        tried old b q l below p w =
            ⊎_elim
            (λ here. ⊎_elim
            (λ same. let rr = some_same (reading x) z r (ap reading (sym same) ∙ e) own in
            let at = leads q (ap g.roads.tail (sym here) ∙ p ∙ same) (ap (λ i. arrival g.roads i r) (sym here) ∙ ap (arrival g.roads b) (sym rr) ∙ w) in
            (at.0, ap (λ i. reading (g.roads.head i)) here ∙ at.1, at.2))
            (λ n. old b q l (λ same. absurd (n same)) p w)
            (cases_eq u x))
            (λ n. old b q l (λ same. let y = below same in omega arith) p w)
            (cases_eq b a)

        go : Standing reading key wanted x c a u z → Standing reading key wanted x c (suc a) u z
        go (waits κ w) = waits κ w
        go (hopeless W h w) = hopeless W h w
        go (done b old) = done b (tried old)

    -- the junction j gets a lower reading q, and waits with its estimate
    module _ (j q : ℕ) where
      pub reached_keyed : Keyed reading key wanted → Keyed (upd reading j (Some q)) (upd key j (g.estimate j q wanted)) wanted
      reached_keyed f u κ e =
          ⊎_elim
          (λ p. (q, wanted, upd_at reading j (Some q) u p.0, λ s w. w, ap (λ i. g.estimate i q wanted) p.0 ∙ p.1))
          (λ p. let k = f u κ p.1 in (k.0, k.1, upd_other reading j (Some q) u p.0 ∙ k.2, k.3, k.4))
          (upd_says key j (g.estimate j q wanted) u (Some κ) e)

      pub reached_front : (x c b : ℕ) → below q (reading j) ≡ true → Front reading key wanted x c b → Front (upd reading j (Some q)) (upd key j (g.estimate j q wanted)) wanted x c b
      reached_front x c b low f u z e = ⊎_elim (λ p. here p.0 p.1 (g.estimate j q wanted) refl) (λ p. there p.0 (f u z p.1)) (upd_says reading j (Some q) u (Some z) e)
        where
          After : Type 0
          After = Standing (upd reading j (Some q)) (upd key j (g.estimate j q wanted)) wanted x c b u z

          here : u ≡ j → Some q ≡ Some z → (o : Option ℕ) → g.estimate j q wanted ≡ o → After
          here p s None w = hopeless wanted (λ s w. w) (ap (λ i. g.estimate i z wanted) p ∙ ap (λ i. g.estimate j i wanted) (some_same (Some z) z q refl (sym s)) ∙ w)
          here p s (Some κ) w = waits κ (upd_at key j (g.estimate j q wanted) u p ∙ w)

          there : (u ≡ j → ⊥) → Standing reading key wanted x c b u z → After
          there n (waits κ w) = waits κ (upd_other key j (g.estimate j q wanted) u n ∙ w)
          there n (hopeless W h w) = hopeless W h w
          there n (done s old) = done s (λ a p l m t w. let y = old a p l m t w in let k = upd_falls reading j q low (g.roads.head a) y.0 y.1 in (k.0, k.1, omega arith))

module _ (g : Guidance) (sound : Sound g) where
  -- who enters a chain no later arrives no later
  pub along_in_order : (arcs : List ℕ) (v w r t q : ℕ) → Chain g.roads v arcs w → g.roads.reads r ≡ true → g.roads.reads t ≡ true → r ≤ t → along g.roads t arcs ≡ Some q → (p : ℕ) × (along g.roads r arcs ≡ Some p) × (p ≤ q)
  along_in_order [] v w r t q c rr rt l e = let z = some_same (Some t) t q refl e in (r, refl, omega arith)
  along_in_order (a ∷ arcs) v w r t q c rr rt l e =
      let s = onward_from (arrival g.roads a t) (λ x. along g.roads x arcs) q e in
      let k = sound.lawful.keeps_order a r t s.0 c.0 rr rt l s.1 in
      let reads = sound.wellformed.carry_reads a in
      let on = along_in_order arcs (g.roads.head a) w k.0 s.0 q c.2 (reads r k.0 rr k.1) (reads t s.0 rt s.1) k.2 s.2 in
      (on.0, onward_at (arrival g.roads a r) (λ x. along g.roads x arcs) k.0 k.1 ∙ on.1, on.2)

  module _ (reading key : ℕ → Option ℕ) (wanted : ℕ → Bool) (x : ℕ) (within : (u r : ℕ) → reading u ≡ Some r → (u < g.roads.junctions) × (g.roads.reads r ≡ true)) (keyed : Keyed g reading key wanted) (front : Front g reading key wanted x g.roads.sites g.roads.arcs) (s : ℕ) (low : s < g.roads.sites) (asked : wanted s ≡ true) where
    -- the estimate at a reading promises a path that enters no earlier
    promised : (arcs : List ℕ) (u r t q : ℕ) → reading u ≡ Some r → g.roads.reads t ≡ true → r ≤ t → Path g.roads u t arcs (g.roads.place s) q → (W : ℕ → Bool) → Holds W wanted → (e : ℕ) × (g.estimate u r W ≡ Some e) × (e ≤ q)
    promised arcs u r t q e rt l path W sub =
        let there = within u r e in
        let p = along_in_order arcs u (g.roads.place s) r t q path.0 there.1 rt l path.1 in
        let k = sound.admissible.not_greater u r s p.0 W arcs there.0 there.1 low (sub s asked) (path.0, p.1) in
        (k.0, k.1, omega arith)

    -- it waits, or else it is done and the path goes on
    waits_or_on : (u r q : ℕ) → reading u ≡ Some r → ((W : ℕ → Bool) → Holds W wanted → (e : ℕ) × (g.estimate u r W ≡ Some e) × (e ≤ q)) → (Bare g wanted x g.roads.sites u → Tried g reading x g.roads.arcs u r → (w : ℕ) × (κ : ℕ) × (key w ≡ Some κ) × (κ ≤ q)) → (w : ℕ) × (κ : ℕ) × (key w ≡ Some κ) × (κ ≤ q)
    waits_or_on u r q e promise on = go (front u r e)
      where
        go : Standing g reading key wanted x g.roads.sites g.roads.arcs u r → (w : ℕ) × (κ : ℕ) × (key w ≡ Some κ) × (κ ≤ q)
        go (waits κ w) =
            let k = keyed u κ w in
            let same = some_same (reading u) k.0 r k.2 e in
            let p = promise k.1 k.3 in
            let y = some_same (g.estimate u r k.1) p.0 κ p.1 (subst (λ i. g.estimate u i k.1 ≡ Some κ) same k.4) in
            (u, κ, w, omega arith)
        go (hopeless W sub w) = let p = promise W sub in clash (g.estimate u r W) p.0 p.1 w
        go (done b t) = on b t

    -- what a path from a reading to the wanted site reads is not less than some key
    pub some_key : (arcs : List ℕ) (u r t q : ℕ) → reading u ≡ Some r → g.roads.reads t ≡ true → r ≤ t → Path g.roads u t arcs (g.roads.place s) q → (w : ℕ) × (κ : ℕ) × (key w ≡ Some κ) × (κ ≤ q)
    some_key [] u r t q e rt l path = waits_or_on u r q e (promised [] u r t q e rt l path) (λ b tried. absurd (b s low (λ _. low) (sym path.0) asked))
    some_key (a ∷ arcs) u r t q e rt l path =
        waits_or_on u r q e (promised (a ∷ arcs) u r t q e rt l path)
        (λ b tried.
        let here = path.0 in
        let on = onward_from (arrival g.roads a t) (λ y. along g.roads y arcs) q path.1 in
        let k = sound.lawful.keeps_order a r t on.0 here.0 (within u r e).1 rt l on.1 in
        let at = tried a k.0 here.0 (λ _. here.0) here.1 k.1 in
        some_key arcs (g.roads.head a) at.0 on.0 q at.1 (sound.wellformed.carry_reads a t on.0 rt on.1) (omega arith) (here.2, on.2))
