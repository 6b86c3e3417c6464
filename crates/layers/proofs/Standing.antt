-- What stands on an arc: whether, where, and the list without it. Assumes nothing.
use Rattle.std.proofs.Common.{◌≡◌, ◌==◌, ℕ, suc, ◌+◌, nat_lt, Bool, true, false, cond, not, List, [], ◌∷◌, length, Some, refl, ap, arith, find, position, is_some}
use Rattle.std.specs.List.{position_or_len, remove}
use Rattle.std.proofs.lemmas.Bool.Decides.{nat_tests}
use Rattle.network.specs.Layers.{Layer, stands, layered}
use Rattle.network.specs.Model.{Roads}
use Rattle.network.specs.Without.{without}
use Rattle.layers.specs.Layered.{carried_by}

module _ {X : Type 0} (on : X → ℕ) (a : ℕ) where
  abbrev place : List X → ℕ
  place xs = position_or_len (λ x. on x == a) xs

  stands_by_place : (xs : List X) → stands on xs a ≡ nat_lt (place xs) (length xs)
  stands_by_place [] = refl
  stands_by_place (x ∷ xs) = grind (arith, nat_tests, stands_by_place xs)

  without_by_place : (xs : List X) → without on a xs ≡ remove xs (place xs)
  without_by_place [] = refl
  without_by_place (x ∷ xs) = by (on x == a) (without_by_place xs)
    where
      by : (b : Bool) → without on a xs ≡ remove xs (place xs) → cond b xs (x ∷ without on a xs) ≡ remove (x ∷ xs) (cond (not b) (1 + place xs) 0)
      by true e = refl
      by false e = let k : 1 + place xs ≡ suc (place xs) = omega arith in rw k (ap (λ ys. x ∷ ys) e)

  pub stands_place : (xs : List X) → stands on xs a ≡ is_some (position (λ x. on x == a) xs)
  stands_place xs = grind (arith, nat_tests, stands_by_place xs)

  pub without_place : (xs : List X) (i : ℕ) → position (λ x. on x == a) xs ≡ Some i → without on a xs ≡ remove xs i
  without_place xs i e = grind (arith, nat_tests, without_by_place xs)

  found_on : (xs : List X) (x : X) → find (λ y. on y == a) xs ≡ Some x → on x ≡ a
  found_on [] x e = absurd (cc)
  found_on (y ∷ xs) x e = grind (arith, nat_tests, found_on xs x)

  -- what the first on the arc carries alone
  pub first_carries : (layer : List X → Layer) (xs : List X) (x : X) (m : Roads) (h : ℕ) → find (λ y. on y == a) xs ≡ Some x → carried_by layer (find (λ y. on y == a) xs) m a h ≡ (layered (layer (x ∷ [])) m).carry (on x) h
  first_carries layer xs x m h e = let f = found_on xs x e in cc
