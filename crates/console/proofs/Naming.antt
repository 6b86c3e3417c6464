-- The set of a list's sites, gathered one by one. Assumes nothing.
use Rattle.std.proofs.Common.{◌≡◌, ℕ, ◌+◌, ◌<◌, ◌≤◌, Bool, true, false, cond, ◌&&◌, ◌||◌, eqb, ltb, List, length, get_or, take, refl, sym, ap, ◌∙◌, ⊎_elim}
use Rattle.std.specs.List.{list_any}
use Rattle.std.proofs.lemmas.Bool.{and_right, cases_eq, ne_eqb}
use Rattle.std.proofs.lemmas.List.{take_all}
use Rattle.std.proofs.lemmas.List.Folds.{list_any_more}
use Rattle.console.specs.Estimates.{named}

put_in : (same low before : Bool) → cond (same && low) true (low && before) ≡ (low && (before || same))
put_in true true true = refl
put_in true true false = refl
put_in true false before = refl
put_in false true true = refl
put_in false true false = refl
put_in false false before = refl

other_low : (k x : ℕ) → (eqb k x && ltb x 64) ≡ (eqb k x && ltb k 64)
other_low k x =
    ⊎_elim
    (λ q. ap (λ y. eqb k x && ltb y 64) (sym q))
    (λ q. ap (λ b. b && ltb x 64) (ne_eqb k x q) ∙ sym (ap (λ b. b && ltb k 64) (ne_eqb k x q)))
    (cases_eq k x)

module _ (sites : List ℕ) where
  -- whether a site is one of the first i
  abbrev pub first_named : (i s : ℕ) → Bool
  first_named i = named (take i sites)

  pub none_named : (s : ℕ) → false ≡ first_named 0 s
  none_named s = sym (and_right (ltb s 64) false refl)

  pub one_named : (i x : ℕ) → i < length sites → x ≡ get_or sites i 0 → (before after : ℕ → Bool) → ((s : ℕ) → before s ≡ first_named i s) → ((k : ℕ) → after k ≡ cond (eqb k x && ltb x 64) true (before k)) → (s : ℕ) → after s ≡ first_named (i + 1) s
  one_named i x l is before after so_far put s =
      put s
      ∙ ap (λ b. cond b true (before s)) (other_low s x)
      ∙ ap (cond (eqb s x && ltb s 64) true) (so_far s)
      ∙ put_in (eqb s x) (ltb s 64) (list_any (λ y. eqb y s) (take i sites))
      ∙ ap (λ b. ltb s 64 && (list_any (λ y. eqb y s) (take i sites) || b)) (turned s x)
      ∙ ap (λ y. ltb s 64 && (list_any (λ y. eqb y s) (take i sites) || eqb y s)) is
      ∙ sym (ap (λ b. ltb s 64 && b) (list_any_more (λ y. eqb y s) sites i 0 l))
    where
      turned : (k y : ℕ) → eqb k y ≡ eqb y k
      turned k y = ⊎_elim (λ q. ap (λ z. eqb z y) q ∙ ap (λ z. eqb y z) (sym q)) (λ q. ne_eqb k y q ∙ sym (ne_eqb y k (λ p. q (sym p)))) (cases_eq k y)

  pub all_named : (i : ℕ) → length sites ≤ i → (s : ℕ) → first_named i s ≡ named sites s
  all_named i l s = ap (λ xs. named xs s) (take_all i sites l)
