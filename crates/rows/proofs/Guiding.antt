-- The estimate by right rows is admissible. Assumes nothing.
use Rattle.std.proofs.Common.{◌≡◌, ℕ, ◌+◌, ◌<◌, ◌≤◌, min, Bool, true, leb, ◌⊎◌, List, [], ◌∷◌, Some, None, Option, sym, refl, ap, ◌∙◌, inl, inr, ⊎_elim, arith}
use Rattle.std.specs.Option.{option_map}
use Rattle.std.proofs.lemmas.Bool.{cases_lt, le-leb, lt-leb, leb-true, lt-ltb, le-ltb}
use Rattle.network.specs.Estimates.{Admissible}
use Rattle.network.specs.First.{onward, provided}
use Rattle.network.specs.Laws.{WellFormed, Lawful}
use Rattle.network.specs.Model.{Roads}
use Rattle.network.specs.Paths.{along, Path}
use Rattle.network.proofs.First.{clash, provided_true}
use Rattle.network.proofs.Following.{onward_from, some_same, provided_says, along_rises}
use Rattle.rows.specs.Rows.{total, Takes, Defined}
use Rattle.rows.specs.Guided.{least_to, wanted_at, guided_estimate}
use Rattle.rows.specs.declared.entry.Entry.{Entry}
use Rattle.rows.proofs.Nearness.{least_to_low, wanted_here}

-- Segments of a day: each has a first second and an end, and every second up to 86,400 is in one.
pub record Cuts (segments : ℕ) (first end : ℕ → ℕ) (segment_at : ℕ → Option ℕ) : Type 0 where
  pub holds : (t i : ℕ) → segment_at t ≡ Some i → (i < segments) × (first i ≤ t) × (t < end i)
  pub covers : (t : ℕ) → t ≤ 86400 → (i : ℕ) × (segment_at t ≡ Some i)
  pub ends : (i : ℕ) → i < segments → end i ≤ 86401

module _ (m : Roads) (ok : WellFormed m) (law : Lawful m) where
  -- From a second of a segment a path ends after it, or reads at least the sum of the segment's least times more.
  pub no_sooner : (first end : ℕ) (f : ℕ → ℕ) → ((a t q : ℕ) → a < m.arcs → first ≤ t → t < end → m.carry a t ≡ Some q → t + f a ≤ q) → (arcs : List ℕ) (v w h q : ℕ) → first ≤ h → h < end → m.reads h ≡ true → Path m v h arcs w q → (end ≤ q) ⊎ (h + total f arcs ≤ q)
  no_sooner first end f low [] v w h q l k r path = inr (let e = some_same (Some h) h q refl path.1 in omega arith)
  no_sooner first end f low (a ∷ arcs) v w h q l k r path =
      let c = path.0 in
      let s = onward_from (m.carry a h) (λ x. along m x arcs) q path.1 in
      let one = low a h s.0 c.0 l k s.1 in
      let up = law.rises a h s.0 c.0 r s.1 in
      let reads = ok.carry_reads a h s.0 r s.1 in
      ⊎_elim
      (λ n. ⊎_elim
      (λ e. inl e)
      (λ e. inr (omega arith))
      (no_sooner first end f low arcs (m.head a) w s.0 q (omega arith) n reads (c.2, s.2)))
      (λ n. let z = along_rises m ok law arcs (m.head a) w s.0 q c.2 reads s.2 in inl (omega arith))
      (cases_lt s.0 end)

  -- Clock readings, of which none above 86,400 is carried.
  module _ (reads : (h : ℕ) → m.reads h ≡ leb h 172800) (late : (a h : ℕ) → 86400 < h → m.carry a h ≡ None) (segments : ℕ) (first end : ℕ → ℕ) (segment_at : ℕ → Option ℕ) (cuts : Cuts segments first end segment_at) (f : ℕ → ℕ → ℕ) (low : (i a t q : ℕ) → i < segments → a < m.arcs → first i ≤ t → t < end i → m.carry a t ≡ Some q → t + f i a ≤ q) (C : ℕ) (rows : ℕ → ℕ → List Entry) (right : (i : ℕ) → i < segments → Defined m (f i) C (rows i)) where
    abbrev estimate : ℕ → ℕ → (ℕ → Bool) → Option ℕ
    estimate = guided_estimate m segment_at end C rows

    abbrev in_day : ℕ → ℕ → (ℕ → Bool) → Option ℕ
    in_day v h wanted = onward (segment_at h) (λ i. option_map (λ t. min (h + t) (end i)) (least_to C wanted (rows i v)))

    nowhere : (v h : ℕ) (wanted : ℕ → Bool) → m.junctions ≤ v → estimate v h wanted ≡ None
    unfolding guided_estimate
    nowhere v h wanted l = rw (le-ltb v m.junctions l, guided_estimate)

    by_day : (v h : ℕ) (wanted : ℕ → Bool) → v < m.junctions → h ≤ 86400 → estimate v h wanted ≡ in_day v h wanted
    unfolding guided_estimate
    by_day v h wanted l k = rw (lt-ltb v m.junctions l, le-leb h 86400 k, guided_estimate)

    by_night : (v h : ℕ) (wanted : ℕ → Bool) → v < m.junctions → 86400 < h → estimate v h wanted ≡ provided (wanted_at m wanted v) h
    unfolding guided_estimate
    by_night v h wanted l k = rw (lt-ltb v m.junctions l, lt-leb h 86400 k, guided_estimate)

    -- what it answers lies between the reading and the end of its segment, or is the reading
    between : (v h e : ℕ) (wanted : ℕ → Bool) → estimate v h wanted ≡ Some e → (h ≤ e) × ((e ≤ h) ⊎ (e ≤ 86401))
    between v h e wanted said =
        ⊎_elim
        (λ l. ⊎_elim
        (λ k. let p = provided_says (wanted_at m wanted v) h e (sym (by_night v h wanted l k) ∙ said) in let z = p.1 in (omega arith, inl (omega arith)))
        (λ k. day (sym (by_day v h wanted l (omega arith)) ∙ said))
        (cases_lt 86400 h))
        (λ l. clash (estimate v h wanted) e said (nowhere v h wanted l))
        (cases_lt v m.junctions)
      where
        day : in_day v h wanted ≡ Some e → (h ≤ e) × ((e ≤ h) ⊎ (e ≤ 86401))
        day p =
            let s = onward_from (segment_at h) (λ i. option_map (λ t. min (h + t) (end i)) (least_to C wanted (rows i v))) e p in
            let c = cuts.holds h s.0 s.1 in
            let last = cuts.ends s.0 c.0 in
            let in' = c.2 in
            go s.0 in' last (least_to C wanted (rows s.0 v)) s.2
          where
            go : (i : ℕ) → h < end i → end i ≤ 86401 → (o : Option ℕ) → option_map (λ t. min (h + t) (end i)) o ≡ Some e → (h ≤ e) × ((e ≤ h) ⊎ (e ≤ 86401))
            go i l k None q = clash (Some e) e refl (sym q)
            go i l k (Some t) q = let z = some_same (Some (min (h + t) (end i))) (min (h + t) (end i)) e refl q in (omega arith, inr (omega arith))

    -- above 86,400 there is no path but that of no arc
    stays : (arcs : List ℕ) (v w h q : ℕ) → 86400 < h → Path m v h arcs w q → (v ≡ w) × (h ≡ q)
    stays [] v w h q l path = (path.0, some_same (Some h) h q refl path.1)
    stays (a ∷ arcs) v w h q l path = let s = onward_from (m.carry a h) (λ x. along m x arcs) q path.1 in clash (m.carry a h) s.0 s.1 (late a h l)

    not_above : (v h s q : ℕ) (wanted : ℕ → Bool) (arcs : List ℕ) → v < m.junctions → m.reads h ≡ true → s < m.sites → wanted s ≡ true → Path m v h arcs (m.place s) q → (e : ℕ) × (estimate v h wanted ≡ Some e) × (e ≤ q)
    not_above v h s q wanted arcs l r k w path = ⊎_elim night day (cases_lt 86400 h)
      where
        night : 86400 < h → (e : ℕ) × (estimate v h wanted ≡ Some e) × (e ≤ q)
        night n =
            let z = stays arcs v (m.place s) h q n path in
            let same = z.1 in
            (h, by_night v h wanted l n ∙ provided_true (wanted_at m wanted v) h (wanted_here m wanted v s k (sym z.0) w), omega arith)

        day : h ≤ 86400 → (e : ℕ) × (estimate v h wanted ≡ Some e) × (e ≤ q)
        day n =
            let c = cuts.covers h n in
            let at = cuts.holds h c.0 c.1 in
            let u = least_to_low wanted C (Takes m (f c.0) v) (rows c.0 v) (right c.0 at.0 v l) s (total (f c.0) arcs) (k, arcs, path.0, refl) w in
            let most = u.2 in
            let far = no_sooner (first c.0) (end c.0) (f c.0) (λ a t p. low c.0 a t p at.0) arcs v (m.place s) h q at.1 at.2 r path in (
              min (h + u.0) (end c.0),
              by_day v h wanted l n ∙ ap (λ o. onward o (λ i. option_map (λ t. min (h + t) (end i)) (least_to C wanted (rows i v)))) c.1 ∙ ap (option_map (λ t. min (h + t) (end c.0))) u.1,
              ⊎_elim (λ g. omega arith) (λ g. omega arith) far,
            )

    pub guided_admissible : Admissible m (guided_estimate m segment_at end C rows)
    guided_admissible = record {
      no_such_junction = nowhere;
      estimate_reads = λ v h e wanted r p. reads e ∙ le-leb e 172800 (let b = between v h e wanted p in let top = leb-true h 172800 (sym (reads h) ∙ r) in ⊎_elim (λ l. omega arith) (λ l. omega arith) b.1);
      not_less = λ v h e wanted r p. (between v h e wanted p).0;
      not_greater = not_above;
    }
