-- One arc on from rows: what they leave out, no row before that arc would list. Assumes nothing.
use Rattle.std.proofs.Common.{◌≡◌, ℕ, ◌+◌, ◌<◌, ◌≤◌, ◌⊎◌, List, [], ◌∷◌, map, length, sym, refl, ap, ◌∙◌, subst, inl, inr, ⊎_elim, arith}
use Rattle.std.specs.List.{All, AllPairs, Contains}
use Rattle.std.proofs.lemmas.List.Elements.{All-contains}
use Rattle.std.proofs.lemmas.List.{length-map}
use Rattle.network.specs.Model.{Roads}
use Rattle.rows.specs.Nearest.{entry, Before}
use Rattle.rows.specs.Offering.{later}
use Rattle.rows.specs.declared.entry.Entry.{Entry}
use Rattle.rows.proofs.Listing.{in_none, in_head, in_tail, in_cases, all_from, pairs_tail, pairs_head, pairs_none, pairs_cons, before_irrefl}
use Rattle.rows.proofs.Crowds.{Apart, Served, served_later, Serving, once_same, crowd}

later_in : (d : ℕ) (l : List Entry) (y : Entry) → Contains (map (later d) l) y → (x : Entry) × Contains l x × (y ≡ later d x)
later_in d [] y i = absurd (in_none y i)
later_in d (x ∷ l) y i =
    ⊎_elim
    (λ e. (x, in_head x l, e))
    (λ j. let r = later_in d l y j in (r.0, in_tail r.0 x l r.1, r.2))
    (in_cases y (later d x) (map (later d) l) i)

later_apart : (d : ℕ) (l : List Entry) → AllPairs Apart l → AllPairs Apart (map (later d) l)
later_apart d [] h = pairs_none Apart
later_apart d (x ∷ l) h =
    pairs_cons Apart (later d x) (map (later d) l)
    (all_from (Apart (later d x)) (map (later d) l) (λ y i e. let r = later_in d l y i in All-contains (Apart x) l r.0 (pairs_head Apart x l h) r.1 (e ∙ ap (λ w. w.site) r.2)))
    (later_apart d l (pairs_tail Apart x l h))

before_on : (d : ℕ) (x y : Entry) → Before x y → Before (later d x) (later d y)
before_on d x y p = ⊎_elim (λ l. inl (omega arith)) (λ l. let e = l.0 in inr (omega arith, l.1)) p

-- l serves whatever r lists, later by d
module _ (C : ℕ) (l r : List Entry) (d s u : ℕ) (few : length l ≤ C) (apart : AllPairs Apart r) (on : (y : Entry) → Contains r y → Served C l y.site (d + y.time)) where
  -- where r is full of what comes before an entry, so is l, later by d
  full_on : (length r ≡ C) × All (λ x. Before x (entry s u)) r → (length l ≡ C) × All (λ x. Before x (entry s (d + u))) l
  full_on h = crowd C l (map (later d) r) (entry s (d + u)) few (length-map r (later d) ∙ h.0) (later_apart d r apart) each
    where
      each : (y : Entry) → Contains (map (later d) r) y → Served C l y.site y.time × Before y (entry s (d + u))
      each y i =
          let x = later_in d r y i in
          subst (λ w. Served C l w.site w.time × Before w (entry s (d + u))) (sym x.2) (on x.0 x.1, before_on d x.0 (entry s u) (All-contains (λ w. Before w (entry s u)) r x.0 h.1 x.1))

  -- so it serves whatever r serves
  pub served_on : Served C r s u → Served C l s (d + u)
  served_on h =
      ⊎_elim
      (λ p. let m = p.2 in served_later C l s (d + p.0) (d + u) (omega arith) (on (entry s p.0) p.1))
      (λ p. inr (full_on p))
      h

  -- and what it lists, r lists too
  pub listed_on : AllPairs Apart l → Contains l (entry s (d + u)) → Served C r s u → Contains r (entry s u)
  listed_on once i h = ⊎_elim sooner (λ p. absurd (before_irrefl (entry s (d + u)) (All-contains (λ x. Before x (entry s (d + u))) l (entry s (d + u)) (full_on p).1 i))) h
    where
      least : (w : ℕ) → Served C l s w → d + u ≤ w
      least w p =
          ⊎_elim
          (λ q. let same = ap (λ y. y.time) (once_same l (entry s (d + u)) (entry s q.0) once i q.1 refl) in let m = q.2 in omega arith)
          (λ q. ⊎_elim (λ m. omega arith) (λ m. let e = m.0 in omega arith) (All-contains (λ x. Before x (entry s w)) l (entry s (d + u)) q.1 i))
          p

      sooner : ((w : ℕ) × Contains r (entry s w) × (w ≤ u)) → Contains r (entry s u)
      sooner p =
          let m = p.2 in
          let n = least (d + p.0) (on (entry s p.0) p.1) in
          subst (λ w. Contains r (entry s w)) (let e : p.0 ≡ u = omega arith in e) p.1

module _ (m : Roads) (f : ℕ → ℕ) where
  -- a site that stands at v, at no time; or what leads on from the head of an arc of v, later by the arc's time
  abbrev pub Step : (ℕ → ℕ → ℕ → Type 0) → (v s t : ℕ) → Type 0
  Step On v s t = ((s < m.sites) × (m.place s ≡ v) × (t ≡ 0)) ⊎ ((a : ℕ) × (u : ℕ) × (a < m.arcs) × (m.tail a ≡ v) × On (m.head a) s u × (t ≡ f a + u))

  pub step_map : (P Q : ℕ → ℕ → ℕ → Type 0) (v s t : ℕ) → ((a u : ℕ) → a < m.arcs → m.tail a ≡ v → P (m.head a) s u → Q (m.head a) s u) → Step P v s t → Step Q v s t
  step_map P Q v s t h p = ⊎_elim (λ q. inl q) (λ q. inr (q.0, q.1, q.2, q.3, h q.0 q.1 q.2 q.3 q.4, q.5)) p

  -- what is offered at v: the sites there, and by each arc of v what the row at its head lists
  abbrev pub Offer : (ℕ → List Entry) → (v s t : ℕ) → Type 0
  Offer rows = Step (λ w s u. Contains (rows w) (entry s u))

  -- Rows at the heads of v's arcs that are cut to C entries lose nothing at v.
  module _ (C : ℕ) (rows : ℕ → List Entry) (On : ℕ → ℕ → ℕ → Type 0) (v : ℕ) (l : List Entry) (good : (a : ℕ) → a < m.arcs → m.tail a ≡ v → Serving C (On (m.head a)) (rows (m.head a))) where
    offer_step : (s t : ℕ) → Offer rows v s t → Step On v s t
    offer_step s t = step_map (λ w i u. Contains (rows w) (entry i u)) On v s t (λ a u n e i. (good a n e).offered (entry s u) i)

    pub whole_from_cut : Serving C (Offer rows v) l → Serving C (Step On v) l
    whole_from_cut n = record {
      few = n.few;
      offered = λ x i. offer_step x.site x.time (n.offered x i);
      ordered = n.ordered;
      once = n.once;
      serves = serves;
    }
      where
        serves : (s t : ℕ) → Step On v s t → Served C l s t
        serves s t p =
            ⊎_elim
            (λ q. n.serves s t (inl q))
            (λ q. let g = good q.0 q.2 q.3 in
            subst (Served C l s) (sym q.5) (served_on C l (rows (m.head q.0)) (f q.0) s q.1 n.few g.once (λ y i. n.serves y.site (f q.0 + y.time) (inr (q.0, y.time, q.2, q.3, i, refl))) (g.serves s q.1 q.4)))
            p

    pub cut_from_whole : Serving C (Step On v) l → Serving C (Offer rows v) l
    cut_from_whole n = record {
      few = n.few;
      offered = offered;
      ordered = n.ordered;
      once = n.once;
      serves = λ s t p. n.serves s t (offer_step s t p);
    }
      where
        offered : (x : Entry) → Contains l x → Offer rows v x.site x.time
        offered x i =
            ⊎_elim
            (λ q. inl q)
            (λ q. let g = good q.0 q.2 q.3 in
            inr (q.0, q.1, q.2, q.3, listed_on C l (rows (m.head q.0)) (f q.0) x.site q.1 n.few g.once (λ y j. n.serves y.site (f q.0 + y.time) (inr (q.0, y.time, q.2, q.3, g.offered y j, refl))) n.once (subst (λ w. Contains l (entry x.site w)) q.5 i) (g.serves x.site q.1 q.4), q.5))
            (n.offered x i)
