-- A row after one more offer is the nearest of what was offered and it, and so on to the row of all offers. Assumes nothing.
use Rattle.std.proofs.Common.{◌≡◌, ℕ, zero, suc, ◌+◌, ◌<◌, ◌≤◌, Bool, true, false, eqb, ◌⊎◌, List, [], ◌∷◌, length, take, length-take, sym, refl, ap, ◌∙◌, subst, inl, inr, ⊎_elim, arith}
use Rattle.std.specs.List.{Contains}
use Rattle.std.proofs.lemmas.Bool.{eqb-true, eqb-false, cases_eq}
use Rattle.std.proofs.lemmas.List.Elements.{All-contains}
use Rattle.network.specs.Model.{Roads}
use Rattle.rows.specs.Nearest.{entry, Before, Nearest}
use Rattle.rows.specs.Offering.{put, offer, later, offer_all, offer_sites, offer_arcs, offered_row}
use Rattle.rows.specs.declared.entry.Entry.{Entry}
use Rattle.rows.proofs.Listing.{in_none, in_head, in_tail, in_cases, pairs_none}
use Rattle.rows.proofs.Crowds.{Apart, Served, served_later, Serving, serving_from, nearest_from, serving_of, crowd}
use Rattle.rows.proofs.Putting.{put_in, put_has, put_own, put_ordered, put_apart, front_in, front_pairs, front_or}
use Rattle.rows.proofs.Steps.{Offer}
use Rattle.rows.proofs.Uniqueness.{one_serving}

-- what is offered, and one more
abbrev pub OneMore : (ℕ → ℕ → Type 0) → Entry → (s t : ℕ) → Type 0
OneMore Offered x s t = Offered s t ⊎ ((s ≡ x.site) × (t ≡ x.time))

module _ (C : ℕ) (Offered : ℕ → ℕ → Type 0) (l : List Entry) (x : Entry) where
  pub offer_serving : Serving C Offered l → Serving C (OneMore Offered x) (offer C l x)
  unfolding offer
  offer_serving n = record {
    few = few;
    offered = λ w i. ⊎_elim (λ e. inr (ap (λ z. z.site) e, ap (λ z. z.time) e)) (λ j. inl (n.offered w j)) (put_in x l w (front_in C (put x l) w i));
    ordered = front_pairs Before C (put x l) (put_ordered x l n.ordered);
    once = front_pairs Apart C (put x l) (put_apart x l n.once);
    serves = λ s t o. ⊎_elim (λ p. old s t p (n.serves s t p)) (λ p. own s t p.0 p.1 (put_own x l)) o;
  }
    where
      row : List Entry
      row = take C (put x l)

      few : length (take C (put x l)) ≤ C
      few = omega (arith, length-take C (put x l))

      taken : (s t u : ℕ) → u ≤ t → Contains (put x l) (entry s u) → Served C (take C (put x l)) s t
      taken s t u k i =
          ⊎_elim
          (λ j. inl (u, j, k))
          (λ r. served_later C (take C (put x l)) s u t k (inr r))
          (front_or C (put x l) (entry s u) (put_ordered x l n.ordered) i)

      kept : (w : Entry) → Contains l w → Served C (take C (put x l)) w.site w.time
      kept w i = let h = put_has x l w n.ordered i in taken w.site w.time h.0 h.2 h.1

      old : (s t : ℕ) → Offered s t → Served C l s t → Served C (take C (put x l)) s t
      old s t o p =
          ⊎_elim
          (λ q. served_later C (take C (put x l)) s q.0 t q.2 (kept (entry s q.0) q.1))
          (λ q. inr (crowd C (take C (put x l)) l (entry s t) few q.0 n.once (λ w i. (kept w i, All-contains (λ z. Before z (entry s t)) l w q.1 i))))
          p

      own : (s t : ℕ) → s ≡ x.site → t ≡ x.time → ((u : ℕ) × Contains (put x l) (entry x.site u) × (u ≤ x.time)) → Served C (take C (put x l)) s t
      own s t e d h = let k = h.2 in taken s t h.0 (omega arith) (subst (λ z. Contains (put x l) (entry z h.0)) (sym e) h.1)

  -- the same for the nearest of an offer
  pub offer_nearest : Nearest C Offered l → Nearest C (OneMore Offered x) (offer C l x)
  offer_nearest n = nearest_from C (OneMore Offered x) (offer C l x) (offer_serving (serving_from C Offered l n))

-- the same offers in other words
pub serving_same : (C : ℕ) (P Q : ℕ → ℕ → Type 0) (l : List Entry) → ((s t : ℕ) → P s t → Q s t) → ((s t : ℕ) → Q s t → P s t) → Serving C P l → Serving C Q l
serving_same C P Q l there back = serving_of C P Q l there (λ s t q. (t, back s t q, omega arith))

pub serving_none : (C : ℕ) → Serving C (λ s t. ⊥) []
serving_none C = record {
  few = omega arith;
  offered = λ x i. in_none x i;
  ordered = pairs_none Before;
  once = pairs_none Apart;
  serves = λ s t o. absurd o;
}

module _ (C d : ℕ) where
  -- what was offered, and what a list offers, later by d
  abbrev pub AllMore : (ℕ → ℕ → Type 0) → List Entry → (s t : ℕ) → Type 0
  AllMore Offered l s t = Offered s t ⊎ ((u : ℕ) × Contains l (entry s u) × (t ≡ d + u))

  pub offer_all_serving : (l row : List Entry) (Offered : ℕ → ℕ → Type 0) → Serving C Offered row → Serving C (AllMore Offered l) (offer_all C d l row)
  offer_all_serving [] row Offered n = serving_same C Offered (AllMore Offered []) row (λ s t p. inl p) (λ s t p. ⊎_elim (λ q. q) (λ q. absurd (in_none (entry s q.0) q.1)) p) n
  offer_all_serving (x ∷ l) row Offered n = serving_same C (AllMore (OneMore Offered (later d x)) l) (AllMore Offered (x ∷ l)) (offer_all C d l (offer C row (later d x))) there back (offer_all_serving l (offer C row (later d x)) (OneMore Offered (later d x)) (offer_serving C Offered row (later d x) n))
    where
      there : (s t : ℕ) → AllMore (OneMore Offered (later d x)) l s t → AllMore Offered (x ∷ l) s t
      there s t p =
          ⊎_elim
          (λ q. ⊎_elim
          (λ r. inl r)
          (λ r. inr (x.time, subst (λ z. Contains (x ∷ l) (entry z x.time)) (sym r.0) (in_head x l), r.1))
          q)
          (λ q. inr (q.0, in_tail (entry s q.0) x l q.1, q.2))
          p

      back : (s t : ℕ) → AllMore Offered (x ∷ l) s t → AllMore (OneMore Offered (later d x)) l s t
      back s t p =
          ⊎_elim
          (λ q. inl (inl q))
          (λ q. ⊎_elim
          (λ e. inl (inr (ap (λ z. z.site) e, q.2 ∙ ap (λ z. d + z.time) e)))
          (λ i. inr (q.0, i, q.2))
          (in_cases (entry s q.0) x l q.1))
          p

-- The row of the offers of a list is their nearest, so it does not hang on their order.
module _ (C : ℕ) where
  pub offers_serving : (l : List Entry) → Serving C (λ s t. Contains l (entry s t)) (offer_all C 0 l [])
  offers_serving l = serving_same C (AllMore C 0 (λ s t. ⊥) l) (λ s t. Contains l (entry s t)) (offer_all C 0 l []) (λ s t p. ⊎_elim (λ q. absurd q) (λ q. let e = q.2 in subst (λ u. Contains l (entry s u)) (let z : q.0 ≡ t = omega arith in z) q.1) p) (λ s t p. inr (t, p, omega arith)) (offer_all_serving C 0 l [] (λ s t. ⊥) (serving_none C))

  pub offers_in_any_order : (l k : List Entry) → ((x : Entry) → Contains l x → Contains k x) → ((x : Entry) → Contains k x → Contains l x) → offer_all C 0 l [] ≡ offer_all C 0 k []
  offers_in_any_order l k there back = one_serving (offer_all C 0 l []) (offer_all C 0 k []) C (λ s t. Contains k (entry s t)) (serving_same C (λ s t. Contains l (entry s t)) (λ s t. Contains k (entry s t)) (offer_all C 0 l []) (λ s t p. there (entry s t) p) (λ s t p. back (entry s t) p) (offers_serving l)) (offers_serving k)

module _ (m : Roads) (f : ℕ → ℕ) (C : ℕ) (rows : ℕ → List Entry) (v : ℕ) where
  abbrev pub Standing : (n s t : ℕ) → Type 0
  Standing n s t = (s < n) × (m.place s ≡ v) × (t ≡ 0)

  pub sites_serving : (n : ℕ) → Serving C (Standing n) (offer_sites m C v n)
  unfolding offer_sites
  sites_serving zero = serving_same C (λ s t. ⊥) (Standing 0) [] (λ s t p. absurd p) (λ s t p. let z = p.0 in omega arith) (serving_none C)
  sites_serving (suc n) = go (sites_serving n) (eqb (m.place n) v) refl
    where
      go : Serving C (Standing n) (offer_sites m C v n) → (b : Bool) → eqb (m.place n) v ≡ b → Serving C (Standing (suc n)) (elim b as (λ _. List Entry) [ true ↦ offer C (offer_sites m C v n) (entry n 0) | false ↦ offer_sites m C v n ])
      go before true e =
          serving_same C (OneMore (Standing n) (entry n 0)) (Standing (suc n)) (offer C (offer_sites m C v n) (entry n 0))
          (λ s t p. ⊎_elim (λ q. let l = q.0 in (omega arith, q.1, q.2)) (λ q. let z = q.0 in (omega arith, ap m.place q.0 ∙ eqb-true (m.place n) v e, q.1)) p)
          (λ s t p. ⊎_elim (λ q. inr (q, p.2)) (λ q. let l = p.0 in inl (omega arith, p.1, p.2)) (cases_eq s n))
          (offer_serving C (Standing n) (offer_sites m C v n) (entry n 0) before)
      go before false e =
          serving_same C (Standing n) (Standing (suc n)) (offer_sites m C v n)
          (λ s t p. let l = p.0 in (omega arith, p.1, p.2))
          (λ s t p. ⊎_elim (λ q. absurd (eqb-false (m.place n) v e (ap m.place (sym q) ∙ p.1))) (λ q. let l = p.0 in (omega arith, p.1, p.2)) (cases_eq s n))
          before

  abbrev Coming : (n s t : ℕ) → Type 0
  Coming n s t = Standing m.sites s t ⊎ ((a : ℕ) × (u : ℕ) × (a < n) × (m.tail a ≡ v) × Contains (rows (m.head a)) (entry s u) × (t ≡ f a + u))

  arcs_serving : (n : ℕ) → Serving C (Coming n) (offer_arcs m f C rows v n)
  unfolding offer_arcs
  arcs_serving zero = serving_same C (Standing m.sites) (Coming 0) (offer_sites m C v m.sites) (λ s t p. inl p) (λ s t p. ⊎_elim (λ q. q) (λ q. let z = q.2 in absurd (omega arith)) p) (sites_serving m.sites)
  arcs_serving (suc n) = go (arcs_serving n) (eqb (m.tail n) v) refl
    where
      wider : (s t : ℕ) → Coming n s t → Coming (suc n) s t
      wider s t p = ⊎_elim (λ q. inl q) (λ q. let l = q.2 in inr (q.0, q.1, omega arith, q.3, q.4, q.5)) p

      go : Serving C (Coming n) (offer_arcs m f C rows v n) → (b : Bool) → eqb (m.tail n) v ≡ b → Serving C (Coming (suc n)) (elim b as (λ _. List Entry) [ true ↦ offer_all C (f n) (rows (m.head n)) (offer_arcs m f C rows v n) | false ↦ offer_arcs m f C rows v n ])
      go before true e =
          serving_same C (AllMore C (f n) (Coming n) (rows (m.head n))) (Coming (suc n)) (offer_all C (f n) (rows (m.head n)) (offer_arcs m f C rows v n))
          (λ s t p. ⊎_elim (λ q. wider s t q) (λ q. inr (n, q.0, omega arith, eqb-true (m.tail n) v e, q.1, q.2)) p)
          (λ s t p. ⊎_elim
          (λ q. inl (inl q))
          (λ q. let l = q.2 in
          ⊎_elim
          (λ d. inr (q.1, subst (λ a. Contains (rows (m.head a)) (entry s q.1)) d q.4, q.5 ∙ ap (λ a. f a + q.1) d))
          (λ d. inl (inr (q.0, q.1, omega arith, q.3, q.4, q.5)))
          (cases_eq q.0 n))
          p)
          (offer_all_serving C (f n) (rows (m.head n)) (offer_arcs m f C rows v n) (Coming n) before)
      go before false e =
          serving_same C (Coming n) (Coming (suc n)) (offer_arcs m f C rows v n) wider
          (λ s t p. ⊎_elim
          (λ q. inl q)
          (λ q. let l = q.2 in
          ⊎_elim
          (λ d. absurd (eqb-false (m.tail n) v e (ap m.tail (sym d) ∙ q.3)))
          (λ d. inr (q.0, q.1, omega arith, q.3, q.4, q.5))
          (cases_eq q.0 n))
          p)
          before

  -- the row of all offers at v serves them
  pub offered_row_serving : Serving C (Offer m f rows v) (offered_row m f C rows v)
  offered_row_serving = arcs_serving m.arcs

  -- so a row is the nearest of them exactly where it is that row
  pub offered_row_nearest : Nearest C (Offer m f rows v) (offered_row m f C rows v)
  offered_row_nearest = nearest_from C (Offer m f rows v) (offered_row m f C rows v) offered_row_serving

  pub nearest_is_offered_row : (l : List Entry) → Nearest C (Offer m f rows v) l → l ≡ offered_row m f C rows v
  nearest_is_offered_row l n = one_serving l (offered_row m f C rows v) C (Offer m f rows v) (serving_from C (Offer m f rows v) l n) offered_row_serving

-- where arcs take the same times, the same is offered
module _ (m : Roads) (f g : ℕ → ℕ) (C : ℕ) (rows : ℕ → List Entry) (v : ℕ) where
  abbrev one_more : (here : Bool) (d : ℕ) → List Entry → List Entry → List Entry
  one_more here d l row = elim here [ true ↦ offer_all C d l row | false ↦ row ]

  pub offers_alike : (n : ℕ) → ((a : ℕ) → a < n → f a ≡ g a) → offer_arcs m f C rows v n ≡ offer_arcs m g C rows v n
  unfolding offer_arcs
  offers_alike zero h = refl
  offers_alike (suc n) h =
      ap (λ d. one_more (eqb (m.tail n) v) d (rows (m.head n)) (offer_arcs m f C rows v n)) (h n (omega arith))
      ∙ ap (λ row. one_more (eqb (m.tail n) v) (g n) (rows (m.head n)) row) (offers_alike n (λ a l. h a (omega arith)))
