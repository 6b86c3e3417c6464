-- A row stays in order, and one that is full of entries before another is not changed by it.
use Rattle.std.proofs.Common.{◌≡◌, ℕ, suc, ◌-◌, ◌<◌, ◌⊎◌, Bool, true, false, eqb, List, [], ◌∷◌, ◌++◌, length, get_or, take, sym, refl, ap, ◌∙◌, subst, inl, inr, ⊎_elim, arith}
use Rattle.std.specs.List.{AllPairs, Contains, list_all}
use Rattle.std.proofs.lemmas.Bool.{and_parts, and_from, both_ways, eqb-true, eq-eqb}
use Rattle.std.proofs.lemmas.List.{take_all, take-append-le}
use Rattle.std.proofs.lemmas.List.Elements.{All-contains, Contains-get_or}
use Rattle.rows.specs.Nearest.{Before}
use Rattle.rows.specs.Offering.{comes_before, is_in_order, is_full_before, put, offer}
use Rattle.rows.specs.declared.entry.Entry.{Entry}
use Rattle.rows.proofs.Listing.{in_none, in_head, in_tail, in_cases, all_from, pairs_tail, pairs_head, pairs_none, pairs_cons, before_trans, before_irrefl}
use Rattle.rows.proofs.Putting.{before_says, not_before, put_either, put_ordered, front_pairs}

all_says : (p : Entry → Bool) (l : List Entry) → list_all p l ≡ true → (y : Entry) → Contains l y → p y ≡ true
all_says p [] e y i = absurd (in_none y i)
all_says p (x ∷ l) e y i = let b = and_parts (p x) (list_all p l) e in ⊎_elim (λ d. ap p d ∙ b.0) (λ j. all_says p l b.1 y j) (in_cases y x l i)

all_made : (p : Entry → Bool) (l : List Entry) → ((y : Entry) → Contains l y → p y ≡ true) → list_all p l ≡ true
all_made p [] h = refl
all_made p (x ∷ l) h = and_from (p x) (list_all p l) (h x (in_head x l)) (all_made p l (λ y i. h y (in_tail y x l i)))

before_true : (x y : Entry) → Before x y → comes_before x y ≡ true
before_true x y b = go (comes_before x y) refl
  where
    go : (t : Bool) → comes_before x y ≡ t → t ≡ true
    go true e = refl
    go false e = absurd (not_before x y e b)

pub in_order_says : (l : List Entry) → is_in_order l ≡ true → AllPairs Before l
in_order_says [] e = pairs_none Before
in_order_says (x ∷ l) e =
    let b = and_parts (list_all (comes_before x) l) (is_in_order l) e in
    pairs_cons Before x l (all_from (Before x) l (λ y i. before_says x y (all_says (comes_before x) l b.0 y i))) (in_order_says l b.1)

pub in_order_made : (l : List Entry) → AllPairs Before l → is_in_order l ≡ true
in_order_made [] h = refl
in_order_made (x ∷ l) h =
    and_from (list_all (comes_before x) l) (is_in_order l)
    (all_made (comes_before x) l (λ y i. before_true x y (All-contains (Before x) l y (pairs_head Before x l h) i)))
    (in_order_made l (pairs_tail Before x l h))

-- the front of a list in order is in order
pub front_in_order : (l k : List Entry) (n : ℕ) → k ≡ take n l → is_in_order l ≡ true → is_in_order k ≡ true
front_in_order l k n e h = ap is_in_order e ∙ in_order_made (take n l) (front_pairs Before n l (in_order_says l h))

-- so is the row after an offer
pub offer_in_order : (C : ℕ) (l k : List Entry) (x : Entry) → k ≡ offer C l x → is_in_order l ≡ true → is_in_order k ≡ true
unfolding offer
offer_in_order C l k x e h = ap is_in_order e ∙ in_order_made (take C (put x l)) (front_pairs Before C (put x l) (put_ordered x l (in_order_says l h)))

-- where the last entry comes before another, all do
pub before_last : (l : List Entry) (d x : Entry) → AllPairs Before l → Before (get_or l (length l - 1) d) x → (y : Entry) → Contains l y → Before y x
before_last [] d x h b y i = absurd (in_none y i)
before_last (z ∷ []) d x h b y i = ⊎_elim (λ e. subst (λ w. Before w x) (sym e) b) (λ j. absurd (in_none y j)) (in_cases y z [] i)
before_last (z ∷ w ∷ l) d x h b y i =
    let rest : (v : Entry) → Contains (w ∷ l) v → Before v x = before_last (w ∷ l) d x (pairs_tail Before z (w ∷ l) h) (subst (λ k. Before (get_or (z ∷ w ∷ l) k d) x) (let e : length (z ∷ w ∷ l) - 1 ≡ suc (length (w ∷ l) - 1) = omega arith in e) b) in
    ⊎_elim
    (λ e. subst (λ v. Before v x) (sym e) (before_trans z w x (All-contains (Before z) (w ∷ l) w (pairs_head Before z (w ∷ l) h) (in_head w l)) (rest w (in_head w l))))
    (λ j. rest y j)
    (in_cases y z (w ∷ l) i)

put_last : (x : Entry) (l : List Entry) → ((y : Entry) → Contains l y → Before y x) → (put x l ≡ l) ⊎ (put x l ≡ l ++ x ∷ [])
put_last x [] h = inr refl
put_last x (y ∷ l) h =
    put_either x (λ k. (k ≡ y ∷ l) ⊎ (k ≡ (y ∷ l) ++ x ∷ [])) y l
    (λ b. absurd (before_irrefl x (before_trans x y x b (h y (in_head y l)))))
    (λ n e. inl refl)
    (λ n e. ⊎_elim (λ p. inl (ap (λ k. y ∷ k) p)) (λ p. inr (ap (λ k. y ∷ k) p)) (put_last x l (λ z i. h z (in_tail z y l i))))

same_test : (a b : Bool) → (a ≡ true → b ≡ true) → (b ≡ true → a ≡ true) → a ≡ b
same_test true b f g = sym (f refl)
same_test false true f g = g refl
same_test false false f g = refl

-- so its last tells whether all of a list do
pub all_before : (l : List Entry) (d x : Entry) → is_in_order l ≡ true → 0 < length l → list_all (λ y. comes_before y x) l ≡ comes_before (get_or l (length l - 1) d) x
all_before l d x h n =
    same_test (list_all (λ y. comes_before y x) l) (comes_before (get_or l (length l - 1) d) x)
    (λ e. all_says (λ y. comes_before y x) l e (get_or l (length l - 1) d) (Contains-get_or l (length l - 1) d (omega arith)))
    (λ e. all_made (λ y. comes_before y x) l (λ y i. before_true y x (before_last l d x (in_order_says l h) (before_says (get_or l (length l - 1) d) x e) y i)))

-- a full row of entries before another keeps them
pub offer_late : (C : ℕ) (l : List Entry) (x : Entry) → is_full_before C l x ≡ true → offer C l x ≡ l
unfolding offer
offer_late C l x e =
    let b = and_parts (eqb (length l) C) (list_all (λ y. comes_before y x) l) e in
    let full = eqb-true (length l) C b.0 in
    ⊎_elim
    (λ e. ap (take C) e ∙ take_all C l (omega arith))
    (λ e. ap (take C) e ∙ take-append-le C l (x ∷ []) (omega arith) ∙ take_all C l (omega arith))
    (put_last x l (λ y i. before_says y x (all_says (λ z. comes_before z x) l b.1 y i)))

-- any other full row has a last entry, which does not come before the other
pub last_after : (C : ℕ) (l : List Entry) (d x : Entry) → is_in_order l ≡ true → is_full_before C l x ≡ false → length l ≡ C → (0 < length l) × (Before (get_or l (length l - 1) d) x → ⊥)
last_after C l d x h e full = go l h (λ t. both_ways (is_full_before C l x) e (and_from (eqb (length l) C) (list_all (λ y. comes_before y x) l) (eq-eqb (length l) C full) t))
  where
    go : (l : List Entry) → is_in_order l ≡ true → (list_all (λ y. comes_before y x) l ≡ true → ⊥) → (0 < length l) × (Before (get_or l (length l - 1) d) x → ⊥)
    go [] h n = absurd (n refl)
    go (y ∷ l) h n = (omega arith, λ b. n (all_before (y ∷ l) d x h (omega arith) ∙ before_true (get_or (y ∷ l) (length (y ∷ l) - 1) d) x b))
