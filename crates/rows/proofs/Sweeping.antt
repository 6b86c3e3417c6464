-- Rows that are put together again from each other, in any order of the junctions: after as many rounds as there are junctions
-- they are those of least sums. Assumes nothing.
use Rattle.std.proofs.Common.{◌≡◌, ℕ, suc, ◌+◌, ◌<◌, ◌≤◌, List, [], length, sym, refl, subst, inl, inr, ⊎_elim, arith}
use Rattle.std.specs.List.{AllPairs, Contains}
use Rattle.network.specs.Model.{Roads}
use Rattle.rows.specs.Nearest.{entry, Before, Nearest}
use Rattle.rows.specs.Rows.{total, Takes}
use Rattle.rows.specs.Offering.{offered_row}
use Rattle.rows.specs.declared.entry.Entry.{Entry}
use Rattle.rows.proofs.Listing.{in_none, pairs_none}
use Rattle.rows.proofs.Crowds.{Apart, Served, served_later, Serving, nearest_from}
use Rattle.rows.proofs.Steps.{Offer, step_map, served_on}
use Rattle.rows.proofs.Solving.{step_takes}
use Rattle.rows.proofs.Offers.{offered_row_serving}
use Rattle.rows.proofs.Existence.{Within, within_step}
use Rattle.rows.proofs.Shortening.{short_chain}

module _ (m : Roads) (f : ℕ → ℕ) (C : ℕ) where
  -- A row on the way: what it lists are sums, and it serves those of fewer than n arcs.
  pub record Reached (n v : ℕ) (l : List Entry) : Type 0 where
    pub few : length l ≤ C
    pub offered : (x : Entry) → Contains l x → Takes m f v x.site x.time
    pub ordered : AllPairs Before l
    pub once : AllPairs Apart l
    pub serves : (s t : ℕ) → Within m f n v s t → Served C l s t

  -- with no entry yet it serves none
  pub reached_none : (v : ℕ) → Reached 0 v []
  reached_none v = record {
    few = omega arith;
    offered = λ x i. absurd (in_none x i);
    ordered = pairs_none Before;
    once = pairs_none Apart;
    serves = λ s t p. let l = p.3 in absurd (omega arith);
  }

  pub reached_less : (n k v : ℕ) (l : List Entry) → k ≤ n → Reached n v l → Reached k v l
  reached_less n k v l less r = record {
    few = r.few;
    offered = r.offered;
    ordered = r.ordered;
    once = r.once;
    serves = λ s t p. let few = p.3 in r.serves s t (p.0, p.1, p.2, omega arith, p.4);
  }

  -- put together again it serves those of one arc more
  pub reached_more : (n v : ℕ) (rows : ℕ → List Entry) → ((a : ℕ) → a < m.arcs → m.tail a ≡ v → Reached n (m.head a) (rows (m.head a))) → Reached (suc n) v (offered_row m f C rows v)
  reached_more n v rows heads = record {
    few = s.few;
    offered = λ x i. step_takes m f v x.site x.time (step_map m f (λ w j u. Contains (rows w) (entry j u)) (Takes m f) v x.site x.time (λ a u l e j. (heads a l e).offered (entry x.site u) j) (s.offered x i));
    ordered = s.ordered;
    once = s.once;
    serves = λ i t p. ⊎_elim
        (λ q. s.serves i t (inl q))
        (λ q. let h = heads q.0 q.2 q.3 in
        subst (Served C (offered_row m f C rows v) i) (sym q.5) (served_on C (offered_row m f C rows v) (rows (m.head q.0)) (f q.0) i q.1 s.few h.once (λ y j. s.serves y.site (f q.0 + y.time) (inr (q.0, y.time, q.2, q.3, j, refl))) (h.serves i q.1 q.4)))
        (within_step m f n v i t p);
  }
    where
      s : Serving C (Offer m f rows v) (offered_row m f C rows v)
      s = offered_row_serving m f C rows v

  -- and in the end all of them
  pub reached_defined : ((a : ℕ) → a < m.arcs → m.head a < m.junctions) → (v : ℕ) (l : List Entry) → v < m.junctions → Reached m.junctions v l → Nearest C (Takes m f v) l
  reached_defined ok v l low r = nearest_from C (Takes m f v) l (record {
    few = r.few;
    offered = r.offered;
    ordered = r.ordered;
    once = r.once;
    serves = λ s t p. let c = short_chain m f ok p.1 v (m.place s) low p.2 in
        let less = c.3 in
        let e = p.3 in
        served_later C l s (total f c.0) t (omega arith) (r.serves s (total f c.0) (p.0, c.0, c.1, c.2, refl));
  })
