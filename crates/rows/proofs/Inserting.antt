-- An entry put among those below the place of what gives way to it. Assumes nothing.
use Rattle.std.proofs.Common.{◌≡◌, ◌≢◌, ℕ, zero, suc, ◌+◌, ◌-◌, ◌<◌, ◌≤◌, ◌⊎◌, Bool, true, false, cond, eqb, List, [], ◌∷◌, ◌++◌, length, get_or, set, take, drop, position, Some, None, sym, refl, ap, ◌∙◌, subst, ⊎_elim, append_assoc, arith}
use Rattle.std.specs.List.{All, AllPairs, position_or_len, refill}
use Rattle.std.proofs.lemmas.Bool.{eqb-true, eqb-false, cases_lt, lt-ltb}
use Rattle.std.proofs.lemmas.List.{append-nil, take_all, take_at, length-take, length-take-le, length_push, length-append, length-drop, get_or-take, get_or_default, set_split, take-set-le, take-take, drop_all}
use Rattle.std.proofs.lemmas.Grind.{drop-set_at}
use Rattle.std.proofs.lemmas.List.Elements.{All-head, All-tail, All-take}
use Rattle.std.proofs.lemmas.List.Quantifiers.{position-Some}
use Rattle.std.proofs.lemmas.List.Sums.{fails_before_first}
use Rattle.std.proofs.Math.Seq.{take-suc}
use Rattle.network.proofs.First.{clash}
use Rattle.network.specs.Without.{without}
use Rattle.rows.specs.Index.{missing}
use Rattle.rows.specs.Nearest.{Before}
use Rattle.rows.specs.Offering.{comes_before, is_in_order, site_of, put, offer, Keeps, GivesWay}
use Rattle.rows.specs.declared.entry.Entry.{Entry}
use Rattle.rows.proofs.Listing.{all_from, pairs_tail, pairs_head, before_trans, before_irrefl, before_cases}
use Rattle.rows.proofs.Putting.{not_before, without_either, put_either}
use Rattle.rows.proofs.InOrder.{in_order_says, before_last}

-- where no element passes a test
fails_all : {X : Type 0} (p : X → Bool) (l : List X) (d : X) → position p l ≡ None → (k : ℕ) → k < length l → p (get_or l k d) ≡ false
fails_all p l d e k n =
    fails_before_first p l k d
    (⊎_elim
    (λ m. clash (position p l) (position_or_len p l) (ap (λ b. cond b (Some (position_or_len p l)) None) (lt-ltb (position_or_len p l) (length l) m)) e)
    (λ m. omega arith)
    (cases_lt (position_or_len p l) (length l)))

-- what the test of a full row says
pub full_says : (k n : ℕ) (r : Bool) → r ≡ eqb k n → r ≡ true → k ≡ n
full_says k n r e t = eqb-true k n (sym e ∙ t)

pub room_says : (k n : ℕ) (r : Bool) → k ≤ n → r ≡ eqb k n → r ≡ false → k < n
room_says k n r l e t = let other = eqb-false k n (sym e ∙ t) in ⊎_elim (λ m. m) (λ m. absurd (other (let z : k ≡ n = omega arith in z))) (cases_lt k n)

-- a write leaves what stands below it
pub front_same : (l : List Entry) (n i : ℕ) (y : Entry) → n ≡ suc i → take i (set l n y) ≡ take i (take n l)
front_same l n i y e = take-set-le i l n y (omega arith) ∙ sym (take-take i n l (omega arith))

-- what stands below a place and above it in the same list
pub had_room : (l now : List Entry) (i : ℕ) → now ≡ l → (take i now ≡ take i l) × (drop (i + 1) now ≡ drop (i + 1) l)
had_room l now i m = (ap (take i) m, ap (drop (i + 1)) m)

module _ (x : Entry) where
  -- of another site than x
  abbrev Other : Entry → Type 0
  Other y = y.site ≢ x.site

  -- no entry of the site of x
  abbrev Free : List Entry → Type 0
  Free l = All Other l

  abbrev of_site : Entry → Bool
  of_site y = eqb y.site x.site

  free_before : (l : List Entry) (i : ℕ) → ((k : ℕ) → k < i → of_site (get_or l k missing) ≡ false) → i ≤ length l → Free (take i l)
  free_before l i h m k d n =
      let e = length-take-le i l m in
      let within : k < i = omega arith in
      subst Other (sym (get_or-take i l k d within)) (eqb-false (get_or l k d).site x.site (ap of_site (sym (get_or_default l k missing d (omega arith))) ∙ h k within))

  -- no entry comes both before and after x
  never : (y : Entry) → Before y x → Before x y → ⊥
  never y b c = before_irrefl x (before_trans x y x c b)

  -- an entry of another site comes before or after x
  apart_cases : (y : Entry) → Other y → Before x y ⊎ Before y x
  apart_cases y n = ⊎_elim (λ e. absurd (n (ap site_of (sym e)))) (λ o. o) (before_cases x y)

  -- a list that has no entry of the site is the same without it
  without_free : (l : List Entry) → Free l → without site_of x.site l ≡ l
  without_free [] h = refl
  without_free (y ∷ l) h = without_either x.site (λ k. k ≡ y ∷ l) y l (λ e. absurd (All-head Other y l h e)) (λ n. ap (λ r. y ∷ r) (without_free l (All-tail Other y l h)))

  without_first : (l : List Entry) (i : ℕ) → i < length l → Free (take i l) → (get_or l i missing).site ≡ x.site → without site_of x.site l ≡ take i l ++ drop (suc i) l
  without_first [] i n h e = absurd (omega arith)
  without_first (y ∷ l) zero n h e = without_either x.site (λ k. k ≡ l) y l (λ d. refl) (λ d. absurd (d e))
  without_first (y ∷ l) (suc i) n h e = without_either x.site (λ k. k ≡ y ∷ take i l ++ drop (suc i) l) y l (λ d. absurd (All-head Other y (take i l) h d)) (λ d. ap (λ r. y ∷ r) (without_first l i (omega arith) (All-tail Other y (take i l) h) e))

  put_ahead : (y : Entry) (l : List Entry) → Before x y → put x (y ∷ l) ≡ x ∷ without site_of x.site (y ∷ l)
  put_ahead y l b = put_either x (λ k. k ≡ x ∷ without site_of x.site (y ∷ l)) y l (λ c. refl) (λ n e. absurd (n b)) (λ n m. absurd (n b))

  put_first : (y : Entry) (l : List Entry) → Free (y ∷ l) → Before x y → put x (y ∷ l) ≡ x ∷ y ∷ l
  put_first y l h b = put_ahead y l b ∙ ap (λ r. x ∷ r) (without_free (y ∷ l) h)

  put_next : (y : Entry) (l : List Entry) → Other y → Before y x → put x (y ∷ l) ≡ y ∷ put x l
  put_next y l n b = put_either x (λ k. k ≡ y ∷ put x l) y l (λ c. absurd (never y b c)) (λ m e. absurd (n e)) (λ m d. refl)

  put_length : (l : List Entry) → Free l → length (put x l) ≡ suc (length l)
  put_length [] h = refl
  put_length (y ∷ l) h = ⊎_elim (λ b. ap length (put_first y l h b)) (λ b. ap length (put_next y l (All-head Other y l h) b) ∙ ap suc (put_length l (All-tail Other y l h))) (apart_cases y (All-head Other y l h))

  -- x is put below a last entry that it comes before
  put_under : (l : List Entry) (y : Entry) → Free (l ++ y ∷ []) → Before x y → put x (l ++ y ∷ []) ≡ put x l ++ y ∷ []
  put_under [] y h b = put_first y [] h b
  put_under (z ∷ l) y h b =
      let n = All-head Other z (l ++ y ∷ []) h in
      let t = All-tail Other z (l ++ y ∷ []) h in
      ⊎_elim
      (λ c. put_first z (l ++ y ∷ []) h c ∙ ap (λ r. r ++ y ∷ []) (sym (put_first z l (free_front (z ∷ l) y h) c)))
      (λ c. put_next z (l ++ y ∷ []) n c ∙ ap (λ r. z ∷ r) (put_under l y t b) ∙ ap (λ r. r ++ y ∷ []) (sym (put_next z l n c)))
      (apart_cases z n)
    where
      free_front : (k : List Entry) (y : Entry) → Free (k ++ y ∷ []) → Free k
      free_front k y f = subst Free (take_at k (y ∷ []) (length k) refl) (All-take Other (length k) (k ++ y ∷ []) f)

  -- and behind entries that come before it
  put_end : (l : List Entry) → Free l → All (λ y. Before y x) l → put x l ≡ l ++ x ∷ []
  put_end [] h a = refl
  put_end (y ∷ l) h a = put_next y l (All-head Other y l h) (All-head (λ z. Before z x) y l a) ∙ ap (λ r. y ∷ r) (put_end l (All-tail Other y l h) (All-tail (λ z. Before z x) y l a))

  -- an entry of the site of x that does not come after it stays, and another gives way
  put_kept : (l : List Entry) (i : ℕ) → i < length l → AllPairs Before l → Free (take i l) → (get_or l i missing).site ≡ x.site → (Before x (get_or l i missing) → ⊥) → put x l ≡ l
  put_kept [] i n h f e b = absurd (omega arith)
  put_kept (y ∷ l) zero n h f e b = put_either x (λ k. k ≡ y ∷ l) y l (λ c. absurd (b c)) (λ m d. refl) (λ m d. absurd (d e))
  put_kept (y ∷ l) (suc i) n h f e b =
      let a = All-head Other y (take i l) f in
      ⊎_elim
      (λ c. absurd (b (before_trans x y (get_or l i missing) c (pairs_head Before y l h i missing (omega arith)))))
      (λ c. put_next y l a c ∙ ap (λ r. y ∷ r) (put_kept l i (omega arith) (pairs_tail Before y l h) (All-tail Other y (take i l) f) e b))
      (apart_cases y a)

  put_instead : (l : List Entry) (i : ℕ) → i < length l → Free (take i l) → (get_or l i missing).site ≡ x.site → Before x (get_or l i missing) → put x l ≡ put x (take i l) ++ drop (suc i) l
  put_instead [] i n f e b = absurd (omega arith)
  put_instead (y ∷ l) zero n f e b = put_ahead y l b ∙ ap (λ r. x ∷ r) (without_first (y ∷ l) zero n f e)
  put_instead (y ∷ l) (suc i) n f e b =
      let a = All-head Other y (take i l) f in
      ⊎_elim
      (λ c. put_ahead y l c ∙ ap (λ r. x ∷ r) (without_first (y ∷ l) (suc i) n f e) ∙ ap (λ r. r ++ drop (suc i) l) (sym (put_first y (take i l) f c)))
      (λ c. put_next y l a c ∙ ap (λ r. y ∷ r) (put_instead l i (omega arith) (All-tail Other y (take i l) f) e b) ∙ ap (λ r. r ++ drop (suc i) l) (sym (put_next y (take i l) a c)))
      (apart_cases y a)

  -- What gives way to x, in each of three cases.
  module _ (C : ℕ) (l : List Entry) (few : length l ≤ C) where
    pub own_stays : (i : ℕ) → AllPairs Before l → position of_site l ≡ Some i → (d : Entry) → (Before x (get_or l i d) → ⊥) → Keeps C l x
    unfolding offer
    own_stays i h e d b =
        let p = position-Some of_site l i missing e in
        ap (take C) (put_kept l i p.0 h (free_before l i p.2 (omega arith)) (eqb-true (get_or l i missing).site x.site p.1) (λ c. b (subst (Before x) (get_or_default l i missing d p.0) c))) ∙ take_all C l few

    pub own_goes : (i : ℕ) → position of_site l ≡ Some i → (d : Entry) → Before x (get_or l i d) → GivesWay C l x i
    unfolding offer
    own_goes i e d b =
        let p = position-Some of_site l i missing e in
        let within = p.0 in
        let f = free_before l i p.2 (omega arith) in
        let size : length (put x (take i l) ++ drop (suc i) l) ≤ C = omega (arith, length-append (put x (take i l)) (drop (suc i) l), put_length (take i l) f, length-take-le i l (omega arith), length-drop (suc i) l) in
        record {
          within = omega arith;
          room = omega arith;
          apart = f;
          after = λ n. subst (Before x) (get_or_default l i d missing p.0) b;
          made = ap (take C) (put_instead l i within f (eqb-true (get_or l i missing).site x.site p.1) (subst (Before x) (get_or_default l i d missing p.0) b)) ∙ take_all C (put x (take i l) ++ drop (suc i) l) size ∙ ap (λ k. put x (take i l) ++ drop k l) (let z : suc i ≡ i + 1 = omega arith in z);
        }

    free_all : position of_site l ≡ None → Free l
    free_all e = subst Free (take_all (length l) l (omega arith)) (free_before l (length l) (fails_all of_site l missing e) (omega arith))

    pub room_taken : (i : ℕ) → i ≡ length l → position of_site l ≡ None → length l < C → GivesWay C l x i
    unfolding offer
    room_taken i j e m =
        let f = free_all e in
        let whole = take_all i l (omega arith) in
        record {
          within = omega arith;
          room = omega arith;
          apart = subst Free (sym whole) f;
          after = λ n. absurd (omega arith);
          made = take_all C (put x l) (omega (arith, put_length l f)) ∙ sym (append-nil (put x l)) ∙ ap (λ r. put x l ++ r) (sym (drop_all (i + 1) l (omega arith))) ∙ ap (λ r. put x r ++ drop (i + 1) l) (sym whole);
        }

    pub last_goes : (i : ℕ) → suc i ≡ length l → position of_site l ≡ None → length l ≡ C → (z : Entry) → get_or l i missing ≡ z → (Before z x → ⊥) → GivesWay C l x i
    unfolding offer
    last_goes i j e full z same b =
        let f = free_all e in
        let last = get_or l i missing in
        let front = All-take Other i l f in
        let whole : l ≡ take i l ++ last ∷ [] = sym (take_all (suc i) l (omega arith)) ∙ take-suc l i missing (omega arith) in
        let after : Before x last = ⊎_elim (λ c. c) (λ c. absurd (b (subst (λ y. Before y x) same c))) (apart_cases last (f i missing (omega arith))) in
        let split : put x l ≡ put x (take i l) ++ last ∷ [] = ap (put x) whole ∙ put_under (take i l) last (subst Free whole f) after in
        let size : length (put x (take i l)) ≡ C = omega (arith, put_length (take i l) front, length-take-le i l (omega arith)) in
        record {
          within = omega arith;
          room = omega arith;
          apart = front;
          after = λ n. after;
          made = ap (take C) split ∙ take_at (put x (take i l)) (last ∷ []) C size ∙ sym (append-nil (put x (take i l))) ∙ ap (λ r. put x (take i l) ++ r) (sym (drop_all (i + 1) l (omega arith)));
        }

  -- one that comes after x moves up by a place
  pub moved_up : (l : List Entry) (n i : ℕ) (y : Entry) → n ≡ suc i → n < length l → y ≡ get_or l i missing → Free (take n l) → Before x y → put x (take i (set l n y)) ++ drop (i + 1) (set l n y) ≡ put x (take n l) ++ drop (n + 1) l
  moved_up l n i y e m at f b =
      let up : take n l ≡ take i l ++ y ∷ [] = ap (λ k. take k l) e ∙ take-suc l i missing (omega arith) ∙ ap (λ z. take i l ++ z ∷ []) (sym at) in
      ap (λ r. put x r ++ drop (i + 1) (set l n y)) (take-set-le i l n y (omega arith))
      ∙ ap (λ r. put x (take i l) ++ r) (drop-set_at l n (i + 1) y (omega arith) m)
      ∙ sym (append_assoc (put x (take i l)) (y ∷ []) (drop (n + 1) l))
      ∙ ap (λ r. r ++ drop (n + 1) l) (sym (ap (put x) up ∙ put_under (take i l) y (subst Free up f) b))

  -- x is written behind those that come before it
  written : (l : List Entry) (n : ℕ) → n < length l → Free (take n l) → All (λ y. Before y x) (take n l) → set l n x ≡ put x (take n l) ++ drop (n + 1) l
  written l n m f a =
      set_split l n x m
      ∙ ap (λ k. take n l ++ x ∷ drop k l) (let e : suc n ≡ n + 1 = omega arith in e)
      ∙ sym (append_assoc (take n l) (x ∷ []) (drop (n + 1) l))
      ∙ ap (λ r. r ++ drop (n + 1) l) (sym (put_end (take n l) f a))

  pub written_first : (l : List Entry) (n : ℕ) → n ≡ 0 → n < length l → Free (take n l) → set l n x ≡ put x (take n l) ++ drop (n + 1) l
  written_first l n e m f = written l n m f (λ k d q. absurd (omega (arith, length-take-le n l (omega arith))))

  pub written_behind : (l : List Entry) (n i : ℕ) → n ≡ suc i → n < length l → is_in_order (take n l) ≡ true → Free (take n l) → comes_before x (get_or l i missing) ≡ false → set l n x ≡ put x (take n l) ++ drop (n + 1) l
  written_behind l n i e m h f b =
      let size = length-take-le n l (omega arith) in
      let here = get_or-take n l i missing (omega arith) in
      let before : Before (get_or l i missing) x = ⊎_elim (λ c. absurd (not_before x (get_or l i missing) b c)) (λ c. c) (apart_cases (get_or l i missing) (subst Other here (f i missing (omega arith)))) in
      let end : get_or (take n l) (length (take n l) - 1) missing ≡ get_or l i missing = ap (λ k. get_or (take n l) k missing) (let z : length (take n l) - 1 ≡ i = omega arith in z) ∙ here in
      written l n m f (all_from (λ y. Before y x) (take n l) (before_last (take n l) missing x (in_order_says (take n l) h) (subst (λ y. Before y x) (sym end) before)))

  -- one more behind them all changes nothing below its place or above it
  pub made_room : (l now : List Entry) (i : ℕ) → i ≡ length l → now ≡ l ++ x ∷ [] → (take i now ≡ take i l) × (drop (i + 1) now ≡ drop (i + 1) l)
  made_room l now i e m = (
    ap (take i) m ∙ take_at l (x ∷ []) i (omega arith) ∙ sym (take_all i l (omega arith)),
    drop_all (i + 1) now (omega (arith, ap length m, length_push l x)) ∙ sym (drop_all (i + 1) l (omega arith)),
  )

  -- so x, put below the place that is given to it, makes the row after its offer
  pub lands : (C : ℕ) (l room now new : List Entry) (i : ℕ) → GivesWay C l x i → now ≡ room → (take i room ≡ take i l) × (drop (i + 1) room ≡ drop (i + 1) l) → new ≡ put x (take i now) ++ drop (i + 1) now → length new ≡ length now → refill (length room) room new ≡ offer C l x
  lands C l room now new i g e same m n =
      take_at new (drop (length new) room) (length room) (n ∙ ap length e)
      ∙ m
      ∙ ap (λ k. put x (take i k) ++ drop (i + 1) k) e
      ∙ ap (λ k. put x k ++ drop (i + 1) room) same.0
      ∙ ap (λ k. put x (take i l) ++ k) same.1
      ∙ sym g.made

-- a row after an offer is no longer than it may be
pub offer_room : (C : ℕ) (l k : List Entry) (x : Entry) → k ≡ offer C l x → length k ≤ C
unfolding offer
offer_room C l k x e = omega (arith, ap length e, length-take C (put x l))
