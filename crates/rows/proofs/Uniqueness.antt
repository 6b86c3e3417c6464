-- There is one row that serves an offer. Assumes nothing.
use Rattle.std.proofs.Common.{◌≡◌, ℕ, pred, ◌≤◌, List, [], ◌∷◌, sym, refl, ap, subst, inl, inr, ⊎_elim, arith}
use Rattle.std.specs.List.{Contains}
use Rattle.std.proofs.lemmas.List.Elements.{All-contains}
use Rattle.rows.specs.Nearest.{entry, Before, Nearest}
use Rattle.rows.specs.declared.entry.Entry.{Entry}
use Rattle.rows.proofs.Listing.{in_none, in_head, in_tail, in_cases, all_from, pairs_tail, pairs_head, before_trans, before_irrefl, before_cases}
use Rattle.rows.proofs.Crowds.{Apart, Serving, serving_from}

module _ (C : ℕ) (Offered : ℕ → ℕ → Type 0) where
  -- what follows the first entry serves the other sites
  serving_tail : (x : Entry) (l : List Entry) → Serving C Offered (x ∷ l) → Serving (pred C) (λ s t. Offered s t × (s ≡ x.site → ⊥)) l
  serving_tail x l n = record {
    few = let few = n.few in omega arith;
    offered = λ y i. (n.offered y (in_tail y x l i), λ e. All-contains (Apart x) l y (pairs_head Apart x l n.once) i (sym e));
    ordered = pairs_tail Before x l n.ordered;
    once = pairs_tail Apart x l n.once;
    serves = λ s t o. ⊎_elim (λ p. ⊎_elim (λ e. absurd (o.1 (ap (λ w. w.site) e))) (λ i. inl (p.0, i, p.2)) (in_cases (entry s p.0) x l p.1)) (λ p. let size = p.0 in inr (omega arith, all_from (λ y. Before y (entry s t)) l (λ y i. All-contains (λ z. Before z (entry s t)) (x ∷ l) y p.1 (in_tail y x l i)))) (n.serves s t o.0);
  }

  -- nothing that is offered comes before the first entry
  first_is_first : (x y : Entry) (l : List Entry) → Serving C Offered (y ∷ l) → Offered x.site x.time → Before x y → ⊥
  first_is_first x y l n o b = ⊎_elim listed (λ p. before_irrefl x (before_trans x y x b (All-contains (λ z. Before z x) (y ∷ l) y p.1 (in_head y l)))) (n.serves x.site x.time o)
    where
      sooner : (u : ℕ) → u ≤ x.time → Before x (entry x.site u) → ⊥
      sooner u m p = ⊎_elim (λ q. omega arith) (λ q. let r = q.1 in omega arith) p

      listed : ((u : ℕ) × Contains (y ∷ l) (entry x.site u) × (u ≤ x.time)) → ⊥
      listed p = sooner p.0 p.2 (⊎_elim (λ e. subst (Before x) (sym e) b) (λ i. before_trans x y (entry x.site p.0) b (All-contains (Before y) l (entry x.site p.0) (pairs_head Before y l n.ordered) i)) (in_cases (entry x.site p.0) y l p.1))

  none_is_none : (y : Entry) (l : List Entry) → Serving C Offered [] → Serving C Offered (y ∷ l) → ⊥
  none_is_none y l n k = ⊎_elim (λ p. in_none (entry y.site p.0) p.1) (λ p. let few = k.few in let size = p.0 in omega arith) (n.serves y.site y.time (k.offered y (in_head y l)))

pub one_serving : (l k : List Entry) (C : ℕ) (Offered : ℕ → ℕ → Type 0) → Serving C Offered l → Serving C Offered k → l ≡ k
one_serving [] [] C Offered n o = refl
one_serving [] (y ∷ k) C Offered n o = absurd (none_is_none C Offered y k n o)
one_serving (x ∷ l) [] C Offered n o = absurd (none_is_none C Offered x l o n)
one_serving (x ∷ l) (y ∷ k) C Offered n o =
    let same : x ≡ y = ⊎_elim (λ e. e) (λ b. ⊎_elim
    (λ p. absurd (first_is_first C Offered x y k o (n.offered x (in_head x l)) p))
    (λ p. absurd (first_is_first C Offered y x l n (o.offered y (in_head y k)) p))
    b) (before_cases x y) in
    let rest : l ≡ k = one_serving l k (pred C) (λ s t. Offered s t × (s ≡ x.site → ⊥)) (serving_tail C Offered x l n) (subst (λ w. Serving (pred C) (λ s t. Offered s t × (s ≡ w.site → ⊥)) k) (sym same) (serving_tail C Offered y k o)) in
    cc

-- the nearest of an offer are one list
pub one_nearest : (l k : List Entry) (C : ℕ) (Offered : ℕ → ℕ → Type 0) → Nearest C Offered l → Nearest C Offered k → l ≡ k
one_nearest l k C Offered n o = one_serving l k C Offered (serving_from C Offered l n) (serving_from C Offered k o)
