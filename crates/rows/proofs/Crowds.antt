-- What a row serves, and that a row which serves a crowd of sites leaves nothing out before them. Assumes nothing.
use Rattle.std.proofs.Common.{◌≡◌, ℕ, ◌≤◌, ◌⊎◌, List, [], ◌∷◌, length, get_or, sym, refl, ap, ◌∙◌, subst, inl, inr, ⊎_elim, arith}
use Rattle.std.specs.List.{All, AllPairs, Contains}
use Rattle.std.proofs.lemmas.Bool.{cases_order}
use Rattle.std.proofs.lemmas.List.Elements.{All-contains}
use Rattle.rows.specs.Nearest.{entry, Before, LeastOf, Nearest}
use Rattle.rows.specs.declared.entry.Entry.{Entry}
use Rattle.rows.proofs.Listing.{same_entry, in_none, in_cases, all_from, pairs_tail, pairs_head, each_or, pigeons, listed_or_not, before_trans, before_irrefl, before_no_later, before_later}

-- entries of different sites
abbrev pub Apart : Entry → Entry → Type 0
Apart x y = x.site ≡ y.site → ⊥

-- a row lists the site s at t or sooner, or is full of what comes before it
abbrev pub Served : ℕ → List Entry → (s t : ℕ) → Type 0
Served C l s t = ((u : ℕ) × Contains l (entry s u) × (u ≤ t)) ⊎ ((length l ≡ C) × All (λ x. Before x (entry s t)) l)

pub served_later : (C : ℕ) (l : List Entry) (s t u : ℕ) → t ≤ u → Served C l s t → Served C l s u
served_later C l s t u n h =
    ⊎_elim
    (λ p. let m = p.2 in inl (p.0, p.1, omega arith))
    (λ p. inr (p.0, all_from (λ x. Before x (entry s u)) l (λ x i. before_later x s t u n (All-contains (λ y. Before y (entry s t)) l x p.1 i))))
    h

-- The nearest of an offer in other words: each site once, and all that is offered is served.
pub record Serving (C : ℕ) (Offered : ℕ → ℕ → Type 0) (l : List Entry) : Type 0 where
  pub few : length l ≤ C
  pub offered : (x : Entry) → Contains l x → Offered x.site x.time
  pub ordered : AllPairs Before l
  pub once : AllPairs Apart l
  pub serves : (s t : ℕ) → Offered s t → Served C l s t

-- two entries of one site are the same entry
pub once_same : (l : List Entry) (x y : Entry) → AllPairs Apart l → Contains l x → Contains l y → x.site ≡ y.site → x ≡ y
once_same [] x y o i j e = absurd (in_none x i)
once_same (z ∷ l) x y o i j e =
    let head = pairs_head Apart z l o in
    ⊎_elim
    (λ p. ⊎_elim
    (λ q. p ∙ sym q)
    (λ q. absurd (All-contains (Apart z) l y head q (ap (λ w. w.site) (sym p) ∙ e)))
    (in_cases y z l j))
    (λ p. ⊎_elim
    (λ q. absurd (All-contains (Apart z) l x head p (ap (λ w. w.site) (sym q) ∙ sym e)))
    (λ q. once_same l x y (pairs_tail Apart z l o) p q e)
    (in_cases y z l j))
    (in_cases x z l i)

module _ (C : ℕ) (Offered : ℕ → ℕ → Type 0) (l : List Entry) where
  pub serving_from : Nearest C Offered l → Serving C Offered l
  serving_from n = record {
    few = n.most;
    offered = λ x i. (All-contains (λ y. LeastOf Offered y.site y.time) l x n.least i).0;
    ordered = n.ordered;
    once = once;
    serves = serves;
  }
    where
      once : AllPairs Apart l
      once i j d p q e =
          let x : Entry = get_or l i d in
          let y : Entry = get_or l j d in
          let a = n.least i d (omega arith) in
          let b = n.least j d q in
          let le = a.1 y.time (subst (λ s. Offered s y.time) (sym e) b.0) in
          let ge = b.1 x.time (subst (λ s. Offered s x.time) e a.0) in
          let same = same_entry x y e (omega arith) in
          before_irrefl y (subst (λ w. Before w y) same (n.ordered i j d p q))

      serves : (s t : ℕ) → Offered s t → Served C l s t
      serves s t o =
          ⊎_elim
          (λ h. inl (h.0, h.1, (All-contains (λ y. LeastOf Offered y.site y.time) l (entry s h.0) n.least h.1).1 t o))
          (λ h. inr (n.rest s t o h))
          (listed_or_not l s)

  pub nearest_from : Serving C Offered l → Nearest C Offered l
  nearest_from n = record {
    most = n.few;
    least = all_from (λ x. LeastOf Offered x.site x.time) l (λ x i. (n.offered x i, λ u o. ⊎_elim (listed x i u) (λ p. before_no_later x (entry x.site u) (All-contains (λ y. Before y (entry x.site u)) l x p.1 i)) (n.serves x.site u o)));
    ordered = n.ordered;
    rest = λ s t o h. ⊎_elim (λ p. absurd (h (p.0, p.1))) (λ p. p) (n.serves s t o);
  }
    where
      listed : (x : Entry) → Contains l x → (u : ℕ) → ((w : ℕ) × Contains l (entry x.site w) × (w ≤ u)) → x.time ≤ u
      listed x i u p = let same = ap (λ y. y.time) (once_same l x (entry x.site p.0) n.once i p.1 refl) in let m = p.2 in omega arith

-- what is sooner than an entry of its site comes before what that comes before
before_sooner : (z y x : Entry) → z.site ≡ y.site → z.time ≤ y.time → Before y x → Before z x
before_sooner z y x e n p = ⊎_elim (λ m. inl (omega arith)) (λ m. let d = m.0 in let k = m.1 in ⊎_elim (λ q. inr (omega arith, omega arith)) (λ q. ⊎_elim (λ r. inl (omega arith)) (λ r. absurd (omega arith)) q) (cases_order z.time x.time)) p

-- Where C sites that come before x are served, the row is full and all of it comes before x.
module _ (C : ℕ) (l k : List Entry) (x : Entry) where
  -- an entry of l for one of k
  abbrev Answers : Entry → Entry → Type 0
  Answers y z = (z.site ≡ y.site) × (z.time ≤ y.time)

  pub crowd : length l ≤ C → length k ≡ C → AllPairs Apart k → ((y : Entry) → Contains k y → Served C l y.site y.time × Before y x) → (length l ≡ C) × All (λ z. Before z x) l
  crowd few size apart h = ⊎_elim all (λ b. b) (each_or (λ y. (z : Entry) × Contains l z × Answers y z) ((length l ≡ C) × All (λ z. Before z x) l) k one)
    where
      one : (y : Entry) → Contains k y → ((z : Entry) × Contains l z × Answers y z) ⊎ ((length l ≡ C) × All (λ z. Before z x) l)
      one y i =
          let s = h y i in
          ⊎_elim
          (λ p. inl (entry y.site p.0, p.1, (refl, p.2)))
          (λ p. inr (p.0, all_from (λ z. Before z x) l (λ z j. before_trans z y x (All-contains (λ w. Before w y) l z p.1 j) s.1)))
          s.0

      all : All (λ y. (z : Entry) × Contains l z × Answers y z) k → (length l ≡ C) × All (λ z. Before z x) l
      all a =
          let p = pigeons Answers Apart (λ y w z n e d. n (sym e.0 ∙ d.0)) k l apart (omega arith) (λ y i. All-contains (λ w. (z : Entry) × Contains l z × Answers w z) k y a i) in
          let same = p.0 in (
            omega arith,
            all_from (λ z. Before z x) l (λ z i. let y = p.1 z i in before_sooner z y.0 x y.2.0 y.2.1 (h y.0 y.1).1),
          )

-- A row is determined by what it serves.
module _ (C : ℕ) (P Q : ℕ → ℕ → Type 0) (l : List Entry) where
  -- other offers of which the first have each at that time or sooner
  pub serving_of : ((s t : ℕ) → P s t → Q s t) → ((s t : ℕ) → Q s t → (u : ℕ) × P s u × (u ≤ t)) → Serving C P l → Serving C Q l
  serving_of there back n = record {
    few = n.few;
    offered = λ x i. there x.site x.time (n.offered x i);
    ordered = n.ordered;
    once = n.once;
    serves = λ s t q. let p = back s t q in served_later C l s p.0 t p.2 (n.serves s p.0 p.1);
  }
