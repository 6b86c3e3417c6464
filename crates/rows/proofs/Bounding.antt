-- How great the numbers of the index are. Assumes nothing.
use Rattle.std.proofs.Common.{◌≡◌, ℕ, ◌-◌, ◌*◌, ◌<◌, ◌≤◌, ◌⊎◌, List, length, get_or, sym, refl, ap, subst, inl, inr, ⊎_elim, arith}
use Rattle.std.proofs.lemmas.Bool.{cases_lt}
use Rattle.std.proofs.lemmas.List.{get_or_past}
use Rattle.std.proofs.lemmas.List.Elements.{All-contains, Contains-get_or}
use Rattle.network.specs.Model.{Roads}
use Rattle.rows.specs.Nearest.{LeastOf}
use Rattle.rows.specs.Rows.{Takes}
use Rattle.rows.specs.Index.{missing, LeastIndex}
use Rattle.rows.specs.declared.entry.Entry.{Entry}
use Rattle.rows.proofs.Existence.{times_most}
use Rattle.rows.proofs.Places.{place_parts}

module _ (m : Roads) (ok : (a : ℕ) → a < m.arcs → m.head a < m.junctions) (segments C : ℕ) (f : ℕ → ℕ → ℕ) (sites times : List ℕ) (x : LeastIndex m segments C f sites times) where
  -- what holds of each entry of the rows and of the missing one holds at each place
  everywhere : (P : Entry → Type 0) → P missing → ((i v r : ℕ) → i < segments → v < m.junctions → r < length (x.0 i v) → P (get_or (x.0 i v) r missing)) → (p : ℕ) → p < segments * m.junctions * C → P (record { site = get_or sites p 0; time = get_or times p 0 })
  everywhere P none each p l =
      let q = place_parts segments m.junctions C p l in
      subst P (ap (λ k. record { site = get_or sites k 0; time = get_or times k 0 }) (sym q.6)) (subst P (sym (x.2.each q.0 q.1 q.2 q.3 q.4 q.5)) (⊎_elim
      (λ n. each q.0 q.1 q.2 q.3 q.4 n)
      (λ n. subst P (sym (get_or_past (x.0 q.0 q.1) q.2 missing n)) none)
      (cases_lt q.2 (length (x.0 q.0 q.1)))))

  pub index_times : (most : ℕ) → ((i a : ℕ) → i < segments → a < m.arcs → f i a ≤ most) → (p : ℕ) → p < segments * m.junctions * C → get_or times p 0 ≤ (m.junctions - 1) * most
  index_times most h = everywhere (λ e. e.time ≤ (m.junctions - 1) * most) (omega arith) (λ i v r l k n. times_most m (f i) C ok (x.0 i) most (x.1 i l) (λ a. h i a l) v (get_or (x.0 i v) r missing) k (Contains-get_or (x.0 i v) r missing n))

  pub index_sites : (p : ℕ) → p < segments * m.junctions * C → (get_or sites p 0 < m.sites) ⊎ (get_or sites p 0 ≡ 65535)
  index_sites = everywhere (λ e. (e.site < m.sites) ⊎ (e.site ≡ 65535)) (inr refl) (λ i v r l k n. inl (All-contains (λ y. LeastOf (Takes m (f i) v) y.site y.time) (x.0 i v) (get_or (x.0 i v) r missing) (x.1 i l v k).least (Contains-get_or (x.0 i v) r missing n)).0.0)
