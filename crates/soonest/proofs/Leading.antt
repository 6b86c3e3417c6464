-- The ways of an asking lead back to its start. Assumes nothing.
use Rattle.std.proofs.Common.{◌≡◌, ℕ, zero, suc, ◌+◌, ◌-◌, ◌<◌, ◌≤◌, Bool, true, false, ◌&&◌, eqb, ltb, List, [], ◌∷◌, ◌++◌, Some, None, Option, sym, refl, ap, ◌∙◌, ⊎_elim, arith}
use Rattle.std.specs.Option.{option_map}
use Rattle.std.proofs.lemmas.Bool.{and_parts, and_from, cases_eq, cases_lt, ltb-true, lt-ltb, le-ltb, eq-eqb}
use Rattle.network.specs.Laws.{WellFormed, Lawful}
use Rattle.network.specs.Model.{Roads, arrival}
use Rattle.network.specs.Paths.{along, Path}
use Rattle.network.proofs.Following.{onward_from, onward_at, some_same}
use Rattle.soonest.proofs.Backs.{chain_on, back_start, back_on}
use Rattle.soonest.specs.Ways.{back, leads_to, by_way as after_way}

-- every reading is come by: at the start v by none, elsewhere by its way from a junction with a reading
pub record Reached (m : Roads) (v h : ℕ) (reading : ℕ → Option ℕ) (way : ℕ → ℕ) : Type 0 where
  pub within : (u r : ℕ) → reading u ≡ Some r → (u < m.junctions) × (m.reads r ≡ true)
  pub at_start : reading v ≡ Some h
  pub by_way : (u r : ℕ) → reading u ≡ Some r → (u ≡ v → ⊥) → (way u < m.arcs) × (m.head (way u) ≡ u) × ((t : ℕ) × (q : ℕ) × (reading (m.tail (way u)) ≡ Some t) × (arrival m (way u) t ≡ Some q) × (q ≤ r))

-- 1 for a reading below r
abbrev one_below : ℕ → Option ℕ → ℕ
one_below r None = 0
one_below r (Some t) = elim (ltb t r) [ true ↦ 1 | false ↦ 0 ]

one_here : (r t : ℕ) → t < r → one_below r (Some t) ≡ 1
one_here r t l = rw (lt-ltb t r l, one_below)

none_here : (r t : ℕ) → r ≤ t → one_below r (Some t) ≡ 0
none_here r t l = rw (le-ltb t r l, one_below)

one_most : (r : ℕ) (o : Option ℕ) → one_below r o ≤ 1
one_most r None = omega arith
one_most r (Some t) = go (ltb t r)
  where
    go : (b : Bool) → elim b as (λ _. ℕ) [ true ↦ 1 | false ↦ 0 ] ≤ 1
    go true = omega arith
    go false = omega arith

one_grows : (t r : ℕ) (o : Option ℕ) → t ≤ r → one_below t o ≤ one_below r o
one_grows t r None l = omega arith
one_grows t r (Some x) l =
    ⊎_elim
    (λ m. let a = one_here r x (omega arith) in let b = one_most t (Some x) in omega arith)
    (λ m. let a = none_here t x m in omega arith)
    (cases_lt x t)

module _ (reading : ℕ → Option ℕ) where
  -- how many of the junctions below n have a reading below r
  sooner : ℕ → ℕ → ℕ
  sooner r zero = 0
  sooner r (suc n) = sooner r n + one_below r (reading n)

  -- fewer below a lesser reading, and no more than there are
  sooner_grows : (t r n : ℕ) → t ≤ r → sooner t n ≤ sooner r n
  unfolding sooner
  sooner_grows t r zero l = omega arith
  sooner_grows t r (suc n) l = let before = sooner_grows t r n l in let last = one_grows t r (reading n) l in omega arith

  sooner_most : (r n : ℕ) → sooner r n ≤ n
  unfolding sooner
  sooner_most r zero = omega arith
  sooner_most r (suc n) = let before = sooner_most r n in let last = one_most r (reading n) in omega arith

  -- a junction is not counted below its own reading, but is below a greater one
  sooner_less : (t n w : ℕ) → w < n → reading w ≡ Some t → sooner t n < n
  unfolding sooner
  sooner_less t zero w l e = absurd (omega arith)
  sooner_less t (suc n) w l e =
      ⊎_elim
      (λ p. let before = sooner_most t n in
      let last : one_below t (reading n) ≡ 0 = ap (λ i. one_below t (reading i)) (sym p) ∙ ap (one_below t) e ∙ none_here t t (omega arith) in
      omega arith)
      (λ p. let before = sooner_less t n w (omega arith) e in let last = one_most t (reading n) in omega arith)
      (cases_eq w n)

  sooner_more : (t r n w : ℕ) → t < r → w < n → reading w ≡ Some t → sooner t n < sooner r n
  unfolding sooner
  sooner_more t r zero w m l e = absurd (omega arith)
  sooner_more t r (suc n) w m l e =
      ⊎_elim
      (λ p. let before = sooner_grows t r n (omega arith) in
      let here : reading n ≡ Some t = ap reading (sym p) ∙ e in
      let less : one_below t (reading n) ≡ 0 = ap (one_below t) here ∙ none_here t t (omega arith) in
      let more : one_below r (reading n) ≡ 1 = ap (one_below r) here ∙ one_here r t m in
      omega arith)
      (λ p. let before = sooner_more t r n w m (omega arith) e in let last = one_grows t r (reading n) (omega arith) in omega arith)
      (cases_eq w n)

module _ (m : Roads) where
  -- one arc more at the end
  along_on : (arcs : List ℕ) (h t q a : ℕ) → along m h arcs ≡ Some t → arrival m a t ≡ Some q → along m h (arcs ++ a ∷ []) ≡ Some q
  along_on [] h t q a e c = let same = some_same (Some h) h t refl e in onward_at (arrival m a h) Some q (ap (arrival m a) same ∙ c)
  along_on (b ∷ arcs) h t q a e c =
      let first = onward_from (arrival m b h) (λ x. along m x arcs) t e in
      onward_at (arrival m b h) (λ x. along m x (arcs ++ a ∷ [])) first.0 first.1 ∙ along_on arcs first.0 t q a first.2 c

  module _ (way : ℕ → ℕ) (v : ℕ) where
    back_way : (n u : ℕ) (arcs : List ℕ) → (u ≡ v → ⊥) → way u < m.arcs → m.head (way u) ≡ u → back m way v n (m.tail (way u)) ≡ Some arcs → back m way v (suc n) u ≡ Some (arcs ++ way u ∷ [])
    back_way n u arcs h l e b =
        let test = and_from (ltb (way u) m.arcs) (eqb (m.head (way u)) u) (lt-ltb (way u) m.arcs l) (eq-eqb (m.head (way u)) u e) in
        back_on m way v n u h ∙ ap (λ t. after_way m way v t u (back m way v n (m.tail (way u)))) test ∙ ap (option_map (λ x. x ++ way u ∷ [])) b

module _ (m : Roads) (ok : WellFormed m) (law : Lawful m) (v h : ℕ) (reading : ℕ → Option ℕ) (way : ℕ → ℕ) (reached : Reached m v h reading way) where
  -- the ways from u are a path that reads at most r
  abbrev Led : (n u r : ℕ) → Type 0
  Led n u r = (arcs : List ℕ) × (q : ℕ) × (back m way v n u ≡ Some arcs) × Path m v h arcs u q × (q ≤ r) × (m.reads q ≡ true)

  lead_start : (n u r : ℕ) → reading u ≡ Some r → u ≡ v → Led n u r
  lead_start n u r e p =
      let same = some_same (reading u) r h e (ap reading p ∙ reached.at_start) in
      ([], h, back_start m way v n u p, (sym p, refl), omega arith, (reached.within v h reached.at_start).1)

  -- the way of u comes from a junction with a smaller reading, so fewer have one below that
  fewer : (u r t q : ℕ) → way u < m.arcs → reading (m.tail (way u)) ≡ Some t → arrival m (way u) t ≡ Some q → q ≤ r → sooner reading t m.junctions < sooner reading r m.junctions
  fewer u r t q l e c k =
      let tail = reached.within (m.tail (way u)) t e in
      let rise = law.rises (way u) t q l tail.1 c in
      sooner_more reading t r m.junctions (m.tail (way u)) (omega arith) tail.0 e

  -- the way of u after those that lead to its tail
  lead_on : (n u r t q : ℕ) → (u ≡ v → ⊥) → way u < m.arcs → m.head (way u) ≡ u → reading (m.tail (way u)) ≡ Some t → arrival m (way u) t ≡ Some q → q ≤ r → Led n (m.tail (way u)) t → Led (suc n) u r
  lead_on n u r t q off l e f c k led =
      let a = way u in
      let arcs = led.0 in
      let p = led.1 in
      let path = led.3 in
      let kept = law.keeps_order a p t q l led.5 (reached.within (m.tail a) t f).1 led.4 c in (
        arcs ++ a ∷ [],
        kept.0,
        back_way m way v n u arcs off l e led.2,
        (chain_on m arcs v (m.tail a) u a path.0 l refl e, along_on m arcs h p kept.0 a path.1 kept.1),
        (let z = kept.2 in omega arith),
        ok.carry_reads a p kept.0 led.5 kept.1,
      )

  lead : (n u r : ℕ) → reading u ≡ Some r → sooner reading r m.junctions ≤ n → Led n u r
  lead zero u r e l =
      ⊎_elim
      (lead_start zero u r e)
      (λ off. let w = reached.by_way u r e off in
      let t = w.2 in
      absurd (let less = fewer u r t.0 t.1 w.0 t.2 t.3 t.4 in omega arith))
      (cases_eq u v)
  lead (suc n) u r e l =
      ⊎_elim
      (lead_start (suc n) u r e)
      (λ off. let w = reached.by_way u r e off in
      let t = w.2 in
      let less = fewer u r t.0 t.1 w.0 t.2 t.3 t.4 in
      lead_on n u r t.0 t.1 off w.0 w.1 t.2 t.3 t.4 (lead n (m.tail (way u)) t.0 t.2 (omega arith)))
      (cases_eq u v)

  -- the ways from u are a path from the start, of fewer arcs than there are junctions, that reads no more than u does
  pub ways_lead : (u r : ℕ) → reading u ≡ Some r → (arcs : List ℕ) × (q : ℕ) × (back m way v (m.junctions - 1) u ≡ Some arcs) × Path m v h arcs u q × (q ≤ r)
  ways_lead u r e =
      let less = sooner_less reading r m.junctions u (reached.within u r e).0 e in
      let led = lead (m.junctions - 1) u r e (omega arith) in
      (led.0, led.1, led.2, led.3, led.4)

module _ (m : Roads) (ok : WellFormed m) (way other : ℕ → ℕ) (v : ℕ) (same : (u : ℕ) → u < m.junctions → other u ≡ way u) where
  -- ways that agree at the junctions are followed back alike
  pub back_same : (n u : ℕ) → u < m.junctions → back m other v n u ≡ back m way v n u
  unfolding back
  back_same zero u l = refl
  back_same (suc n) u l =
      ⊎_elim
      (λ e. back_start m other v (suc n) u e ∙ sym (back_start m way v (suc n) u e))
      (λ off. back_on m other v n u off ∙ ap (λ t. after_way m other v t u (back m other v n (m.tail (other u)))) tests ∙ go (leads_to m way v u) refl (back_same n (m.tail (way u))) ∙ sym (back_on m way v n u off))
      (cases_eq u v)
    where
      tests : leads_to m other v u ≡ leads_to m way v u
      tests = ap (λ a. ltb a m.arcs && eqb (m.head a) u) (same u l)

      go : (t : Bool) → leads_to m way v u ≡ t → (m.tail (way u) < m.junctions → back m other v n (m.tail (way u)) ≡ back m way v n (m.tail (way u)))
          → after_way m other v t u (back m other v n (m.tail (other u))) ≡ after_way m way v t u (back m way v n (m.tail (way u)))
      go false e before = refl
      go true e before =
          let there = ltb-true (way u) m.arcs (and_parts (ltb (way u) m.arcs) (eqb (m.head (way u)) u) e).0 in
          ap (λ a. option_map (λ arcs. arcs ++ a ∷ []) (back m other v n (m.tail a))) (same u l) ∙ ap (option_map (λ arcs. arcs ++ way u ∷ [])) (before (ok.tail_within (way u) there))
