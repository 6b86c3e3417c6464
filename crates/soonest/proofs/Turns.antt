-- What the turns of a step keep, and which of them pass over. Assumes nothing.
use Rattle.std.proofs.Common.{◌≡◌, ℕ, zero, suc, ◌<◌, ◌≤◌, Bool, true, false, not, ◌&&◌, eqb, leb, ◌⊎◌, Some, None, Option, sym, refl, ap, ◌∙◌, subst, inl, inr, ⊎_elim, arith}
use Rattle.std.specs.Option.{option_or}
use Rattle.std.proofs.lemmas.Bool.{and_parts, and_from, and_left, and_right, cases_eq, cases_lt, cases_Bool, eqb-true, eq-eqb, ne_eqb, leb-true, le-leb, not-true, not_from_true}
use Rattle.network.specs.First.{first_of, provided}
use Rattle.network.specs.Model.{arrival, leaving}
use Rattle.network.proofs.First.{clash, none_below, provided_true}
use Rattle.network.proofs.Following.{provided_says}
use Rattle.soonest.specs.Guidance.{Guidance}
use Rattle.soonest.specs.Stages.{Stage, upd, below, full, list_site, list_one, list_all, reach, arrive, try_one, try_all, taken, onwards, visit, step}

-- the first answer: where it was given, and that nothing was answered before
pub first_found : {X : Type 0} (f : ℕ → Option X) (n : ℕ) (x : X) → first_of f n ≡ Some x → (i : ℕ) × (i < n) × (f i ≡ Some x) × ((j : ℕ) → j < i → f j ≡ None)
unfolding first_of
first_found f zero x e = clash (Some x) x refl (sym e)
first_found {X = X} f (suc n) x e = go (first_of f n) refl (first_found f n x)
  where
    go : (o : Option X) → first_of f n ≡ o → (first_of f n ≡ Some x → (i : ℕ) × (i < n) × (f i ≡ Some x) × ((j : ℕ) → j < i → f j ≡ None)) → (i : ℕ) × (i < suc n) × (f i ≡ Some x) × ((j : ℕ) → j < i → f j ≡ None)
    go None p before = (n, omega arith, sym (ap (λ o. option_or o (f n)) p) ∙ e, none_below f n p)
    go (Some y) p before =
        let found = before (p ∙ sym (ap (λ o. option_or o (f n)) p) ∙ e) in
        (found.0, omega arith, found.2, found.3)

-- an update at its place, and elsewhere
pub upd_same : {X : Type 0} (f : ℕ → X) (j : ℕ) (x : X) → upd f j x j ≡ x
upd_same f j x = rw (eq-eqb j j refl, upd)

pub upd_other : {X : Type 0} (f : ℕ → X) (j : ℕ) (x : X) (i : ℕ) → (i ≡ j → ⊥) → upd f j x i ≡ f i
upd_other f j x i h = rw (ne_eqb i j h, upd)

pub upd_says : {X : Type 0} (f : ℕ → X) (j : ℕ) (x : X) (i : ℕ) (y : X) → upd f j x i ≡ y → ((i ≡ j) × (x ≡ y)) ⊎ ((i ≡ j → ⊥) × (f i ≡ y))
upd_says f j x i y e =
    ⊎_elim
    (λ p. inl (p, sym (subst (λ n. upd f j x n ≡ x) (sym p) (upd_same f j x)) ∙ e))
    (λ h. inr (h, sym (upd_other f j x i h) ∙ e))
    (cases_eq i j)

module _ (g : Guidance) (k v r : ℕ) where
  -- an arc that leaves v is tried, another is passed over
  try_this : (a : ℕ) (s : Stage) → g.roads.tail a ≡ v → try_one g k v r a s ≡ arrive g k a (arrival g.roads a r) s
  unfolding try_one
  try_this a s e = rw (eq-eqb (g.roads.tail a) v e, try_one)

  try_not : (a : ℕ) (s : Stage) → (g.roads.tail a ≡ v → ⊥) → try_one g k v r a s ≡ s
  unfolding try_one
  try_not a s h = rw (ne_eqb (g.roads.tail a) v h, try_one)

  try_suc : (a : ℕ) (s : Stage) → try_all g k v r (suc a) s ≡ try_one g k v r a (try_all g k v r a s)
  unfolding try_all
  try_suc a s = refl

  -- what every arrival by an arc of v keeps
  module _ (P : Stage → Type 0) (keep : (a q : ℕ) (s : Stage) → a < g.roads.arcs → g.roads.tail a ≡ v → arrival g.roads a r ≡ Some q → below q (s.reading (g.roads.head a)) ≡ true → P s → P (reach g k a q s)) where
    arrive_keeps : (a : ℕ) (s : Stage) → a < g.roads.arcs → g.roads.tail a ≡ v → P s → P (arrive g k a (arrival g.roads a r) s)
    arrive_keeps a s l e p = go (arrival g.roads a r) refl
      where
        go : (o : Option ℕ) → arrival g.roads a r ≡ o → P (arrive g k a o s)
        go None x = p
        go (Some q) x = test (below q (s.reading (g.roads.head a))) refl
          where
            test : (b : Bool) → below q (s.reading (g.roads.head a)) ≡ b → P (elim b as (λ _. Stage) [ true ↦ reach g k a q s | false ↦ s ])
            test true y = keep a q s l e x y p
            test false y = p

    pub try_keeps : (n : ℕ) (s : Stage) → n ≤ g.roads.arcs → P s → P (try_all g k v r n s)
    unfolding try_all
    try_keeps zero s l p = p
    try_keeps (suc a) s l p =
        let before = try_keeps a s (omega arith) p in
        ⊎_elim
        (λ e. subst P (sym (try_this a (try_all g k v r a s) e)) (arrive_keeps a (try_all g k v r a s) (omega arith) e before))
        (λ h. subst P (sym (try_not a (try_all g k v r a s) h)) before)
        (cases_eq (g.roads.tail a) v)

  -- arcs that do not leave v are passed over
  pub try_none : (s : Stage) (from to : ℕ) → from ≤ to → ((a : ℕ) → from ≤ a → a < to → g.roads.tail a ≡ v → ⊥) → try_all g k v r to s ≡ try_all g k v r from s
  try_none s from zero l h = ap (λ n. try_all g k v r n s) (let e : 0 ≡ from = omega arith in e)
  try_none s from (suc to) l h =
      ⊎_elim
      (λ m. try_suc to s ∙ try_not to (try_all g k v r to s) (h to (omega arith) (omega arith)) ∙ try_none s from to (omega arith) (λ a x y. h a x (omega arith)))
      (λ m. ap (λ n. try_all g k v r n s) (let e : suc to ≡ from = omega arith in e))
      (cases_lt from (suc to))

  -- what `leaving` asks of an arc, and that an arc of v answers
  abbrev asks : ℕ → ℕ → Option ℕ
  asks from a = provided (leb from a && eqb (g.roads.tail a) v) a

  asks_at : (from a : ℕ) → from ≤ a → g.roads.tail a ≡ v → asks from a ≡ Some a
  asks_at from a l t = provided_true (leb from a && eqb (g.roads.tail a) v) a (and_from (leb from a) (eqb (g.roads.tail a) v) (le-leb from a l) (eq-eqb (g.roads.tail a) v t))

  -- so the next arc that leaves v is tried next
  pub try_next : (s : Stage) (from a : ℕ) → leaving g.roads.arcs g.roads.tail v from ≡ Some a → (from ≤ a) × (a < g.roads.arcs) × (g.roads.tail a ≡ v) × (try_all g k v r (suc a) s ≡ arrive g k a (arrival g.roads a r) (try_all g k v r from s))
  try_next s from a e = (starts, within, leaves, try_suc a s ∙ try_this a (try_all g k v r a s) leaves ∙ ap (arrive g k a (arrival g.roads a r)) (try_none s from a starts between))
    where
      found : (i : ℕ) × (i < g.roads.arcs) × (asks from i ≡ Some a) × ((j : ℕ) → j < i → asks from j ≡ None)
      found = first_found (asks from) g.roads.arcs a e

      said : ((leb from found.0 && eqb (g.roads.tail found.0) v) ≡ true) × (found.0 ≡ a)
      said = provided_says (leb from found.0 && eqb (g.roads.tail found.0) v) found.0 a found.2

      passed : (leb from a && eqb (g.roads.tail a) v) ≡ true
      passed = subst (λ i. (leb from i && eqb (g.roads.tail i) v) ≡ true) said.1 said.0

      starts : from ≤ a
      starts = leb-true from a (and_parts (leb from a) (eqb (g.roads.tail a) v) passed).0

      within : a < g.roads.arcs
      within = subst (λ i. i < g.roads.arcs) said.1 found.1

      leaves : g.roads.tail a ≡ v
      leaves = eqb-true (g.roads.tail a) v (and_parts (leb from a) (eqb (g.roads.tail a) v) passed).1

      between : (b : ℕ) → from ≤ b → b < a → g.roads.tail b ≡ v → ⊥
      between b l m t = clash (asks from b) b (asks_at from b l t) (found.3 b (let z = said.1 in omega arith))

  -- after the last of them nothing is tried
  pub try_last : (s : Stage) (from : ℕ) → from ≤ g.roads.arcs → leaving g.roads.arcs g.roads.tail v from ≡ None → try_all g k v r g.roads.arcs s ≡ try_all g k v r from s
  try_last s from l e = try_none s from g.roads.arcs l (λ a x y t. clash (asks from a) a (asks_at from a x t) (none_below (asks from) g.roads.arcs e a y))

  -- a site that stands at v and is wanted is listed while fewer than k are, another is passed over
  abbrev due : ℕ → Stage → Bool
  due i s = eqb (g.roads.place i) v && s.wanted i && not (full g k s)

  list_this : (i : ℕ) (s : Stage) → due i s ≡ true → list_one g k v r i s ≡ list_site g k r i s
  unfolding list_one
  list_this i s e = rw (e, list_one)

  list_not : (i : ℕ) (s : Stage) → due i s ≡ false → list_one g k v r i s ≡ s
  unfolding list_one
  list_not i s e = rw (e, list_one)

  list_suc : (i : ℕ) (s : Stage) → list_all g k v r (suc i) s ≡ list_one g k v r i (list_all g k v r i s)
  unfolding list_all
  list_suc i s = refl

  list_zero : (s : Stage) → list_all g k v r 0 s ≡ s
  unfolding list_all
  list_zero s = refl

  -- what every listing at v keeps
  pub list_keeps : (P : Stage → Type 0) (n : ℕ) → ((i : ℕ) (s : Stage) → i < n → g.roads.place i ≡ v → s.wanted i ≡ true → full g k s ≡ false → P s → P (list_site g k r i s)) → (s : Stage) → P s → P (list_all g k v r n s)
  list_keeps P zero keep s p = subst P (sym (list_zero s)) p
  list_keeps P (suc i) keep s p =
      let before = list_keeps P i (λ j t l. keep j t (omega arith)) s p in
      let t = list_all g k v r i s in
      subst P (sym (list_suc i s)) (⊎_elim
      (λ e. let parts = and_parts (eqb (g.roads.place i) v && t.wanted i) (not (full g k t)) e in
      let both = and_parts (eqb (g.roads.place i) v) (t.wanted i) parts.0 in
      subst P (sym (list_this i t e)) (keep i t (omega arith) (eqb-true (g.roads.place i) v both.0) both.1 (not-true (full g k t) parts.1) before))
      (λ e. subst P (sym (list_not i t e)) before)
      (cases_Bool (due i t)))

  -- sites that do not stand at v are passed over
  pub list_none : (s : Stage) (n : ℕ) → ((i : ℕ) → i < n → g.roads.place i ≡ v → ⊥) → list_all g k v r n s ≡ s
  list_none s zero h = list_zero s
  list_none s (suc i) h =
      let t = list_all g k v r i s in
      list_suc i s ∙ list_not i t (and_left (eqb (g.roads.place i) v && t.wanted i) (not (full g k t)) (and_left (eqb (g.roads.place i) v) (t.wanted i) (ne_eqb (g.roads.place i) v (h i (omega arith))))) ∙ list_none s i (λ j l. h j (omega arith))

  -- once k are listed, the rest are passed over
  pub list_full : (s : Stage) (from to : ℕ) → from ≤ to → full g k (list_all g k v r from s) ≡ true → list_all g k v r to s ≡ list_all g k v r from s
  list_full s from zero l e = ap (λ n. list_all g k v r n s) (let z : 0 ≡ from = omega arith in z)
  list_full s from (suc to) l e = ⊎_elim (λ m. go (list_full s from to (omega arith) e)) (λ m. ap (λ n. list_all g k v r n s) (let z : suc to ≡ from = omega arith in z)) (cases_lt from (suc to))
    where
      go : list_all g k v r to s ≡ list_all g k v r from s → list_all g k v r (suc to) s ≡ list_all g k v r from s
      go p =
          let t = list_all g k v r to s in
          list_suc to s ∙ list_not to t (and_right (eqb (g.roads.place to) v && t.wanted to) (not (full g k t)) (not_from_true (full g k t) (ap (full g k) p ∙ e))) ∙ p

module _ (g : Guidance) (k v : ℕ) where
  -- a step, by the reading at v
  pub step_at : (r : ℕ) (s : Stage) → s.reading v ≡ Some r → step g k v s ≡ onwards g k v r (list_all g k v r g.roads.sites (taken g k v s))
  unfolding step
  step_at r s e = ap (λ o. visit g k v o (taken g k v s)) e

  step_idle : (s : Stage) → s.reading v ≡ None → step g k v s ≡ taken g k v s
  unfolding step
  step_idle s e = ap (λ o. visit g k v o (taken g k v s)) e

  -- what every listing at v and every arrival by its arcs keeps, a step keeps once v is taken
  pub step_keeps : (P : Stage → Type 0) (s : Stage)
      → ((r i : ℕ) (t : Stage) → s.reading v ≡ Some r → i < g.roads.sites → g.roads.place i ≡ v → t.wanted i ≡ true → full g k t ≡ false → P t → P (list_site g k r i t))
      → ((r a q : ℕ) (t : Stage) → s.reading v ≡ Some r → a < g.roads.arcs → g.roads.tail a ≡ v → arrival g.roads a r ≡ Some q → below q (t.reading (g.roads.head a)) ≡ true → P t → P (reach g k a q t))
      → P (taken g k v s) → P (step g k v s)
  step_keeps P s list reach p = go (s.reading v) refl
    where
      go : (o : Option ℕ) → s.reading v ≡ o → P (step g k v s)
      go None e = subst P (sym (step_idle s e)) p
      go (Some r) e = subst P (sym (step_at r s e)) (on (full g k t) refl)
        where
          t : Stage
          t = list_all g k v r g.roads.sites (taken g k v s)

          listed : P t
          listed = list_keeps g k v r P g.roads.sites (λ i u. list r i u e) (taken g k v s) p

          on : (b : Bool) → full g k t ≡ b → P (elim b as (λ _. Stage) [ true ↦ t | false ↦ try_all g k v r g.roads.arcs t ])
          on true x = listed
          on false x = try_keeps g k v r P (λ a q u. reach r a q u e) g.roads.arcs t (omega arith) listed

  pub step_steps : (s : Stage) → (step g k v s).steps ≡ suc s.steps
  step_steps s = step_keeps (λ t. t.steps ≡ suc s.steps) s (λ r i t a b c d e p. p) (λ r a q t b c d e f p. p) refl
