-- Where two rows first differ.
use Rattle.std.proofs.Common.{◌≡◌, ℕ, zero, suc, ◌<◌, ◌≤◌, Bool, true, false, if◌then◌else◌, List, [], ◌∷◌, length, set, take, Some, None, Option, sym, refl, ap, ◌∙◌, subst, ⊎_elim, arith}
use Rattle.std.specs.List.{slice_get}
use Rattle.std.specs.Option.{option_map, unwrap_or}
use Rattle.std.proofs.lemmas.Bool.{cases_lt}
use Rattle.std.proofs.lemmas.Option.{get_or_from_slice_get, slice_get_past, unwrap_or-slice_get}
use Rattle.network.proofs.First.{clash}
use Rattle.network.proofs.Following.{some_same}
use Rattle.rows.specs.Index.{entry_at, missing, same}
use Rattle.rows.specs.Nearest.{Before}
use Rattle.rows.specs.Offering.{first_change, IsPutAt}
use Rattle.rows.specs.declared.entry.Entry.{Entry}
use Rattle.rows.proofs.Listing.{before_irrefl}
use Rattle.rows.proofs.Differing.{same_says, same_from}

one_later : (o : Option ℕ) (p : ℕ) → option_map suc o ≡ Some (suc p) → o ≡ Some p
one_later None p e = clash (Some (suc p)) (suc p) refl (sym e)
one_later (Some q) p e = ap Some (let z = some_same (Some (suc q)) (suc q) (suc p) refl e in omega arith)

later_none : (o : Option ℕ) → option_map suc o ≡ None → o ≡ None
later_none None e = refl
later_none (Some q) e = clash (Some (suc q)) (suc q) refl e

-- rows that differ nowhere are the same
pub no_change : (l k : List Entry) → first_change l k ≡ None → k ≡ l
no_change [] [] e = refl
no_change [] (y ∷ k) e = clash (Some 0) 0 refl e
no_change (x ∷ l) [] e = clash (Some 0) 0 refl e
no_change (x ∷ l) (y ∷ k) e = go (no_change l k) (same x y) refl e
  where
    go : (first_change l k ≡ None → k ≡ l) → (b : Bool) → same x y ≡ b → (if b then option_map suc (first_change l k) else Some 0) ≡ None → y ∷ k ≡ x ∷ l
    go rest true t d = ap (λ z. z ∷ k) (sym (same_says x y t)) ∙ ap (λ r. x ∷ r) (rest (later_none (first_change l k) d))
    go rest false t d = clash (Some 0) 0 refl d

pub unchanged : (l : List Entry) → first_change l l ≡ None
unchanged [] = refl
unchanged (x ∷ l) = ap (λ b. if b then option_map suc (first_change l l) else Some 0) (same_from x x refl) ∙ ap (option_map suc) (unchanged l)

-- they are alike before the first change
pub same_before : (l k : List Entry) (p i : ℕ) → first_change l k ≡ Some p → i < p → slice_get k i ≡ slice_get l i
same_before [] [] p i e n = clash (Some p) p refl (sym e)
same_before [] (y ∷ k) p i e n = let z = some_same (Some 0) 0 p refl e in absurd (omega arith)
same_before (x ∷ l) [] p i e n = let z = some_same (Some 0) 0 p refl e in absurd (omega arith)
same_before (x ∷ l) (y ∷ k) p i e n = go (same_before l k) (same x y) refl p i e n
  where
    go : ((p i : ℕ) → first_change l k ≡ Some p → i < p → slice_get k i ≡ slice_get l i) → (b : Bool) → same x y ≡ b → (p i : ℕ) → (if b then option_map suc (first_change l k) else Some 0) ≡ Some p → i < p → slice_get (y ∷ k) i ≡ slice_get (x ∷ l) i
    go rest false t p i d n = let z = some_same (Some 0) 0 p refl d in absurd (omega arith)
    go rest true t zero i d n = absurd (omega arith)
    go rest true t (suc p) zero d n = ap Some (sym (same_says x y t))
    go rest true t (suc p) (suc i) d n = rest p i (one_later (first_change l k) p d) (omega arith)

-- and the first change is where they are not
pub change_at : (l k : List Entry) (p : ℕ) → ((i : ℕ) → i < p → slice_get k i ≡ slice_get l i) → (slice_get k p ≡ slice_get l p → ⊥) → first_change l k ≡ Some p
change_at [] [] zero h d = absurd (d refl)
change_at [] [] (suc p) h d = absurd (d refl)
change_at [] (y ∷ k) zero h d = refl
change_at [] (y ∷ k) (suc p) h d = clash (slice_get (y ∷ k) 0) y refl (h 0 (omega arith))
change_at (x ∷ l) [] zero h d = refl
change_at (x ∷ l) [] (suc p) h d = clash (slice_get (x ∷ l) 0) x refl (sym (h 0 (omega arith)))
change_at (x ∷ l) (y ∷ k) zero h d = go (same x y) refl
  where
    go : (b : Bool) → same x y ≡ b → (if b then option_map suc (first_change l k) else Some 0) ≡ Some 0
    go true t = absurd (d (ap Some (sym (same_says x y t))))
    go false t = refl
change_at (x ∷ l) (y ∷ k) (suc p) h d =
    ap (λ b. if b then option_map suc (first_change l k) else Some 0) (same_from x y (sym (some_same (slice_get (y ∷ k) 0) y x refl (h 0 (omega arith)))))
    ∙ ap (option_map suc) (change_at l k p (λ i n. h (suc i) (omega arith)) d)

-- a write changes nothing below its place
pub below_set : {X : Type 0} (l : List X) (n i : ℕ) (y : X) → i < n → slice_get (set l n y) i ≡ slice_get l i
below_set [] zero i y m = refl
below_set [] (suc n) i y m = refl
below_set (z ∷ l) zero i y m = absurd (omega arith)
below_set (z ∷ l) (suc n) zero y m = refl
below_set (z ∷ l) (suc n) (suc i) y m = below_set l n i y (omega arith)

pub written_here : {X : Type 0} (l : List X) (n : ℕ) (y : X) → n < length l → slice_get (set l n y) n ≡ Some y
written_here [] n y m = absurd (omega arith)
written_here (z ∷ l) zero y m = refl
written_here (z ∷ l) (suc n) y m = written_here l n y (omega arith)

pub same_entry_at : (l k : List Entry) (i : ℕ) → slice_get k i ≡ slice_get l i → entry_at l i ≡ entry_at k i
same_entry_at l k i e = sym (unwrap_or-slice_get l i missing) ∙ ap (λ o. unwrap_or o missing) (sym e) ∙ unwrap_or-slice_get k i missing

front_get : (n i : ℕ) (l : List Entry) → i < n → slice_get (take n l) i ≡ slice_get l i
front_get zero i l m = absurd (omega arith)
front_get (suc n) zero [] m = refl
front_get (suc n) (suc i) [] m = refl
front_get (suc n) zero (y ∷ l) m = refl
front_get (suc n) (suc i) (y ∷ l) m = front_get n i l (omega arith)

same_front : (n i : ℕ) (l k : List Entry) → take n k ≡ take n l → i < n → slice_get k i ≡ slice_get l i
same_front n i l k e m = sym (front_get n i k m) ∙ ap (λ r. slice_get r i) e ∙ front_get n i l m

-- a row first changes where an entry was put
pub put_changes : (x : Entry) (l now new : List Entry) (at p : ℕ) → at ≤ length l → (at < length l → Before x (entry_at l at)) → take at now ≡ take at l → IsPutAt x at p now new → first_change l new ≡ Some p
put_changes x l now new at p inside after same put = change_at l new p before differs
  where
    before : (i : ℕ) → i < p → slice_get new i ≡ slice_get l i
    before i m = let w = put.within in put.same i m ∙ same_front at i l now same (omega arith)

    -- x comes after what it took the place of, and so is not what was there
    not_there : Before x (entry_at l p) → slice_get new p ≡ slice_get l p → ⊥
    not_there b e = before_irrefl x (subst (Before x) (get_or_from_slice_get l p x missing (sym e ∙ put.here)) b)

    differs : slice_get new p ≡ slice_get l p → ⊥
    differs e =
        ⊎_elim
        (λ m. not_there (subst (Before x) (same_entry_at now l p (sym (same_front at p l now same m))) (put.after m)) e)
        (λ m. let w = put.within in
        let here : p ≡ at = omega arith in
        ⊎_elim
        (λ k. not_there (subst (λ q. Before x (entry_at l q)) (sym here) (after k)) e)
        (λ k. clash (slice_get new p) x put.here (e ∙ slice_get_past l p (omega arith)))
        (cases_lt at (length l)))
        (cases_lt p at)
