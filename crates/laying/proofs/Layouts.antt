-- Rows written into the lists of an index, one after the other. Assumes nothing.
use Rattle.std.proofs.Common.{◌≡◌, ℕ, ◌+◌, ◌*◌, ◌<◌, ◌≤◌, ◌⊎◌, List, [], ◌∷◌, length, sym, refl, ap, ◌∙◌, subst, inl, inr, ⊎_elim, arith}
use Rattle.std.proofs.lemmas.Bool.{cases_eq}
use Rattle.std.proofs.lemmas.Nat.{mul-le}
use Rattle.network.specs.Model.{Roads}
use Rattle.network.specs.Paths.{Chain}
use Rattle.rows.specs.Index.{place_at, listed_at, LeastIndex}
use Rattle.rows.specs.Nearest.{Nearest}
use Rattle.rows.specs.Rows.{total, Takes, Defined}
use Rattle.laying.specs.Costs.{cost_by}
use Rattle.rows.specs.declared.entry.Entry.{Entry}
use Rattle.rows.proofs.Crowds.{serving_from, nearest_from}
use Rattle.rows.proofs.Existence.{swept, swept_defined}
use Rattle.rows.proofs.Offers.{serving_same}
use Rattle.rows.proofs.Uniqueness.{one_nearest}
use Rattle.laying.specs.Places.{Stands, SameOutside, Laid}

-- the rows of a segment end within the lists
pub segment_within : (segments n C s size : ℕ) → size ≡ segments * n * C → s < segments → place_at n C (s + 1) 0 0 ≤ size
segment_within segments n C s size e l =
    let a = mul-le (s + 1) n segments n (omega arith) (omega arith) in
    let b = mul-le ((s + 1) * n) C (segments * n) C (omega arith) (omega arith) in
    omega arith

module _ (sites times : List ℕ) where
  -- what is the same outside of two parts, one after the other
  pub outside_next : (first since others later : List ℕ) (p q r : ℕ) → p ≤ q → q ≤ r → SameOutside p q first since sites times → SameOutside q r sites times others later → SameOutside p r first since others later
  outside_next first since others later p q r l n before after k o =
      after k (⊎_elim (λ h. inl (omega arith)) (λ h. inr h) o) ∙ before k (⊎_elim (λ h. inl h) (λ h. inr (omega arith)) o)

  module _ (m : Roads) (f : ℕ → ℕ) (C : ℕ) where
    -- a row stands as before where only later places change, or earlier ones
    pub laid_kept : (i v p q : ℕ) (others since : List ℕ) → SameOutside p q sites times others since → (place_at m.junctions C i v 0 + C ≤ p) ⊎ (q ≤ place_at m.junctions C i v 0) → Laid m f C i v sites times → Laid m f C i v others since
    laid_kept i v p q others since same away laid row near r l =
        same (place_at m.junctions C i v 0 + r) (⊎_elim (λ h. inl (omega arith)) (λ h. inr (omega arith)) away) ∙ laid row near r l

-- one more row stands
module _ (n C i v p : ℕ) (rows : ℕ → List Entry) (sites times others since : List ℕ) (at : p ≡ place_at n C i v 0) (here : Stands (rows v) C p others since) (same : SameOutside p (p + C) sites times others since) where
  pub stands_next : ((w : ℕ) → w < v → Stands (rows w) C (place_at n C i w 0) sites times) → (w : ℕ) → w < v + 1 → Stands (rows w) C (place_at n C i w 0) others since
  stands_next before w l =
      ⊎_elim
      (λ e. subst (λ u. Stands (rows u) C (place_at n C i u 0) others since) (sym e) (subst (λ k. Stands (rows v) C k others since) at here))
      (λ h. let low : w < v = omega arith in λ r k. same (place_at n C i w 0 + r) (inl (let e = earlier w low in omega arith)) ∙ before w low r k)
      (cases_eq w v)
    where
      earlier : (w : ℕ) → w < v → place_at n C i w 0 + C ≤ p
      earlier w low = let a = mul-le (i * n + w + 1) C (i * n + v) C (omega arith) (omega arith) in omega arith

-- rows of least sums that stand are laid
pub laid_from : (m : Roads) (costs lent : List ℕ) (C n i : ℕ) (rows : ℕ → List Entry) (sites times : List ℕ) → lent ≡ costs → n ≡ m.junctions → Defined m (cost_by lent) C rows → ((v : ℕ) → v < n → Stands (rows v) C (place_at n C i v 0) sites times) → (v : ℕ) → v < m.junctions → Laid m (cost_by costs) C i v sites times
laid_from m costs lent C n i rows sites times e s least stands v l row near =
    let defined : Defined m (cost_by costs) C rows = subst (λ k. Defined m (cost_by k) C rows) e least in
    let there : Stands (rows v) C (place_at m.junctions C i v 0) sites times = subst (λ k. Stands (rows v) C (place_at k C i v 0) sites times) s (stands v (omega arith)) in
    subst (λ o. Stands o C (place_at m.junctions C i v 0) sites times) (one_nearest (rows v) row C (Takes m (cost_by costs) v) (defined v l) near) there

-- The row of a junction hangs on no more than the times of the arcs that are there.
module _ (m : Roads) (f g : ℕ → ℕ) (agree : (a : ℕ) → a < m.arcs → f a ≡ g a) where
  total_same : (arcs : List ℕ) (v w : ℕ) → Chain m v arcs w → total f arcs ≡ total g arcs
  total_same [] v w c = refl
  total_same (a ∷ arcs) v w c = let rest = total_same arcs (m.head a) w c.2 in let here = agree a c.0 in omega arith

  pub nearest_same : (C v : ℕ) (row : List Entry) → Nearest C (Takes m f v) row → Nearest C (Takes m g v) row
  nearest_same C v row n =
      nearest_from C (Takes m g v) row
      (serving_same C (Takes m f v) (Takes m g v) row
      (λ s t p. (p.0, p.1, p.2, sym (total_same p.1 v (m.place s) p.2) ∙ p.3))
      (λ s t p. (p.0, p.1, p.2, total_same p.1 v (m.place s) p.2 ∙ p.3))
      (serving_from C (Takes m f v) row n))

  pub laid_same : (C i v : ℕ) (sites times : List ℕ) → Laid m g C i v sites times → Laid m f C i v sites times
  laid_same C i v sites times laid row n = laid row (nearest_same C v row n)

module _ (m : Roads) (C : ℕ) (f : ℕ → ℕ → ℕ) where
  -- whether the rows of the segments below s stand in their places
  abbrev pub LaidBelow : (s : ℕ) → (sites times : List ℕ) → Type 0
  LaidBelow s sites times = (i v : ℕ) → i < s → v < m.junctions → Laid m (f i) C i v sites times

  pub segment_next : (s : ℕ) (sites times others since : List ℕ) → LaidBelow s sites times → ((v : ℕ) → v < m.junctions → Laid m (f s) C s v others since) → SameOutside (place_at m.junctions C s 0 0) (place_at m.junctions C (s + 1) 0 0) sites times others since → LaidBelow (s + 1) others since
  segment_next s sites times others since before own same i v l k =
      ⊎_elim
      (λ e. subst (λ j. Laid m (f j) C j v others since) (sym e) (own v k))
      (λ h. let low : i < s = omega arith in laid_kept sites times m (f i) C i v (place_at m.junctions C s 0 0) (place_at m.junctions C (s + 1) 0 0) others since same (inl (earlier low)) (before i v low k))
      (cases_eq i s)
    where
      earlier : i < s → place_at m.junctions C i v 0 + C ≤ place_at m.junctions C s 0 0
      earlier low =
          let a = mul-le (i + 1) m.junctions s m.junctions (omega arith) (omega arith) in
          let b = mul-le (i * m.junctions + v + 1) C (s * m.junctions) C (omega arith) (omega arith) in
          omega arith

  -- lists in which all stand are the index
  pub laid_index : ((a : ℕ) → a < m.arcs → m.head a < m.junctions) → (segments : ℕ) (sites times : List ℕ) → length sites ≡ segments * m.junctions * C → length times ≡ segments * m.junctions * C → LaidBelow segments sites times → LeastIndex m segments C f sites times
  laid_index ok segments sites times a b all = (
    λ i. swept m (f i) C m.junctions,
    λ i l. swept_defined m (f i) C ok,
    record {
      sites_count = a;
      times_count = b;
      each = λ i v r l k j. ap (listed_at sites times) (let e : place_at m.junctions C i v r ≡ place_at m.junctions C i v 0 + r = omega arith in e) ∙ all i v l k (swept m (f i) C m.junctions v) (swept_defined m (f i) C ok v k) r j;
    },
  )
