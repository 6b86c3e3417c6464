-- The rows that flat lists have, and which lists are the index of least sums. Assumes nothing.
use Rattle.std.proofs.Common.{◌≡◌, ℕ, zero, suc, ◌+◌, ◌*◌, ◌<◌, ◌≤◌, Bool, true, false, eqb, List, [], ◌∷◌, length, get_or, sym, refl, ap, ◌∙◌, subst, ⊎_elim, arith}
use Rattle.std.specs.List.{Contains}
use Rattle.std.proofs.lemmas.Bool.{eqb-false, eq-eqb, ne_eqb}
use Rattle.std.proofs.lemmas.List.Elements.{All-contains}
use Rattle.network.specs.Model.{Roads}
use Rattle.rows.specs.Nearest.{entry, LeastOf, Nearest}
use Rattle.rows.specs.Rows.{Takes, Defined}
use Rattle.rows.specs.Offering.{offered_row}
use Rattle.rows.specs.Index.{missing, entry_at, place_at, listed_at, IsIndex, LeastIndex, read_row, row_in}
use Rattle.rows.specs.declared.entry.Entry.{Entry}
use Rattle.rows.proofs.Listing.{in_none, in_head, in_tail, in_cases}
use Rattle.rows.proofs.Offers.{offered_row_serving}
use Rattle.rows.proofs.Existence.{swept, swept_defined, defined_once, offered_from, defined_if_offered}
use Rattle.rows.proofs.Places.{one_index, some_index, index_same}

-- no entry of a row is the missing one
abbrev pub NoneMissing : List Entry → Type 0
NoneMissing row = (x : Entry) → Contains row x → x.site ≡ 65535 → ⊥

module _ (sites times : List ℕ) where
  pub read_row_at : (C p : ℕ) (row : List Entry) → length row ≤ C → NoneMissing row → ((r : ℕ) → r < C → listed_at sites times (p + r) ≡ entry_at row r) → read_row sites times C p ≡ row
  unfolding read_row
  read_row_at zero p [] l h e = refl
  read_row_at zero p (x ∷ row) l h e = absurd (omega arith)
  read_row_at (suc C) p [] l h e =
      let here = subst (λ k. listed_at sites times k ≡ missing) (let z : p + 0 ≡ p = omega arith in z) (e 0 (omega arith)) in
      rw (eq-eqb (get_or sites p 0) 65535 (ap (λ w. w.site) here), read_row)
  read_row_at (suc C) p (x ∷ row) l h e =
      let here = subst (λ k. listed_at sites times k ≡ x) (let z : p + 0 ≡ p = omega arith in z) (e 0 (omega arith)) in
      let rest = read_row_at C (p + 1) row (omega arith) (λ y i. h y (in_tail y x row i)) (λ r k. subst (λ j. listed_at sites times j ≡ entry_at row r) (let z : p + suc r ≡ p + 1 + r = omega arith in z) (e (suc r) (omega arith))) in
      rw (ne_eqb (get_or sites p 0) 65535 (λ z. h x (in_head x row) (ap (λ w. w.site) (sym here) ∙ z)), read_row) (cc (here, rest))

  pub read_row_some : (C p : ℕ) → NoneMissing (read_row sites times C p)
  unfolding read_row
  read_row_some zero p = λ x i. absurd (in_none x i)
  read_row_some (suc C) p = go (read_row_some C (p + 1)) (eqb (get_or sites p 0) 65535) refl
    where
      go : NoneMissing (read_row sites times C (p + 1)) → (b : Bool) → eqb (get_or sites p 0) 65535 ≡ b → NoneMissing (elim b as (λ _. List Entry) [ true ↦ [] | false ↦ listed_at sites times p ∷ read_row sites times C (p + 1) ])
      go h true e x i = absurd (in_none x i)
      go h false e x i =
          ⊎_elim
          (λ d z. eqb-false (get_or sites p 0) 65535 e (ap (λ w. w.site) (sym d) ∙ z))
          (λ j. h x j)
          (in_cases x (listed_at sites times p) (read_row sites times C (p + 1)) i)

  -- the row that the index holds is the row read from it
  pub row_in_index : (segments n C : ℕ) (rows : ℕ → ℕ → List Entry) → IsIndex segments n C rows sites times → (i v : ℕ) → i < segments → v < n → length (rows i v) ≤ C → NoneMissing (rows i v) → row_in n C sites times i v ≡ rows i v
  row_in_index segments n C rows x i v l k few some = read_row_at C (place_at n C i v 0) (rows i v) few some (λ r j. subst (λ p. listed_at sites times p ≡ entry_at (rows i v) r) (let z : (i * n + v) * C + r ≡ (i * n + v) * C + 0 + r = omega arith in z) (x.each i v r l k j))

module _ (m : Roads) (few : m.sites ≤ 65535) (ok : (a : ℕ) → a < m.arcs → m.head a < m.junctions) (segments C : ℕ) (f : ℕ → ℕ → ℕ) where
  some_sites : (i : ℕ) (rows : ℕ → List Entry) → Defined m (f i) C rows → (v : ℕ) → v < m.junctions → NoneMissing (rows v)
  some_sites i rows d v l x j e = let low = (All-contains (λ y. LeastOf (Takes m (f i) v) y.site y.time) (rows v) x (d v l).least j).0.0 in omega arith

  -- The index of least sums is there, and once.
  pub least_index_once : (sites times others since : List ℕ) → LeastIndex m segments C f sites times → LeastIndex m segments C f others since → (sites ≡ others) × (times ≡ since)
  least_index_once sites times others since x y =
      one_index segments m.junctions C y.0 sites times others since
      (index_same segments m.junctions C x.0 y.0 sites times (λ i v l k. defined_once m (f i) C (x.0 i) (y.0 i) (x.1 i l) (y.1 i l) v k) x.2) y.2

  pub some_least_index : (sites : List ℕ) × (times : List ℕ) × LeastIndex m segments C f sites times
  some_least_index =
      let rows : ℕ → ℕ → List Entry = λ i. swept m (f i) C m.junctions in
      let made = some_index segments m.junctions C rows in
      (made.0, made.1, (rows, λ i l. swept_defined m (f i) C ok, made.2))

  module _ (sites times : List ℕ) where
    -- the row of what the lists themselves offer at v
    abbrev pub offered_by_lists : ℕ → ℕ → List Entry
    offered_by_lists i v = offered_row m (f i) C (row_in m.junctions C sites times i) v

    -- the rows read from the index are its rows
    pub rows_read : (x : LeastIndex m segments C f sites times) → (i v : ℕ) → i < segments → v < m.junctions → row_in m.junctions C sites times i v ≡ x.0 i v
    rows_read x i v l k = row_in_index sites times segments m.junctions C x.0 x.2 i v l k (x.1 i l v k).most (some_sites i (x.0 i) (x.1 i l) v k)

    pub rows_defined : LeastIndex m segments C f sites times → (i : ℕ) → i < segments → Defined m (f i) C (row_in m.junctions C sites times i)
    rows_defined x i l v k = subst (Nearest C (Takes m (f i) v)) (sym (rows_read x i v l k)) (x.1 i l v k)

    -- Lists are the index exactly where every row is the row of what the lists offer.
    pub index_offers : LeastIndex m segments C f sites times → IsIndex segments m.junctions C offered_by_lists sites times
    index_offers x = index_same segments m.junctions C x.0 offered_by_lists sites times (λ i v l k. sym (rows_read x i v l k) ∙ offered_from m (f i) C ok (row_in m.junctions C sites times i) (rows_defined x i l) v k) x.2

    module _ (rises : (i a : ℕ) → i < segments → a < m.arcs → 1 ≤ f i a) (x : IsIndex segments m.junctions C offered_by_lists sites times) where
      read_offered : (i v : ℕ) → i < segments → v < m.junctions → row_in m.junctions C sites times i v ≡ offered_by_lists i v
      read_offered i v l k =
          let s = offered_row_serving m (f i) C (row_in m.junctions C sites times i) v in
          row_in_index sites times segments m.junctions C offered_by_lists x i v l k s.few
          (λ y j e. ⊎_elim
          (λ q. let low = q.0 in omega arith)
          (λ q. read_row_some sites times C (place_at m.junctions C i (m.head q.0) 0) (entry y.site q.1) q.4 e)
          (s.offered y j))

      pub index_from_offers : LeastIndex m segments C f sites times
      index_from_offers = (
        row_in m.junctions C sites times,
        λ i l. defined_if_offered m (f i) C ok (λ a k. rises i a l k) (row_in m.junctions C sites times i) (λ v k. read_offered i v l k),
        index_same segments m.junctions C offered_by_lists (row_in m.junctions C sites times) sites times (λ i v l k. sym (read_offered i v l k)) x,
      )
