-- A list whose front part is changed and whose rest is kept. Assumes nothing.
use Rattle.std.proofs.Common.{◌≡◌, ℕ, ◌+◌, ◌-◌, ◌<◌, ◌≤◌, List, ◌++◌, length, get_or, take, drop, sym, ap, ◌∙◌, ⊎_elim, arith}
use Rattle.std.proofs.lemmas.Bool.{cases_lt}
use Rattle.std.proofs.lemmas.List.{get_or_append_left, get_or-append-add, get_or-take, get_or-drop, take-append-le}
use Rattle.std.proofs.Math.Seq.{take-length}
use Rattle.finder.specs.Lists.{KeptFrom}

module _ {X : Type 0} (k : ℕ) (list front : List X) (within : k ≤ length list) (long : length front ≡ k) where
  -- past the front the list is as it was
  past_front : (i : ℕ) (d : X) → k ≤ i → get_or (front ++ drop k list) i d ≡ get_or list i d
  past_front i d l =
      let at : i ≡ length front + (i - k) = omega arith in
      let back : k + (i - k) ≡ i = omega arith in
      ap (λ j. get_or (front ++ drop k list) j d) at
      ∙ get_or-append-add front (drop k list) (i - k) d
      ∙ get_or-drop k list (i - k) d
      ∙ ap (λ j. get_or list j d) back

  -- what is kept of the front from n on is kept of the list
  pub kept_whole : (n : ℕ) → KeptFrom n (take k list) front → KeptFrom n list (front ++ drop k list)
  kept_whole n kept i d l =
      ⊎_elim
      (λ m. get_or_append_left front (drop k list) d i (omega arith) ∙ kept i d l ∙ get_or-take k list i d m)
      (λ m. past_front i d m)
      (cases_lt i k)

  -- where the whole front is changed, what is past it is kept
  pub kept_past : KeptFrom k list (front ++ drop k list)
  kept_past i d l = past_front i d l

  pub front_of : take k (front ++ drop k list) ≡ front
  front_of = take-append-le k front (drop k list) (omega arith) ∙ ap (λ n. take n front) (sym long) ∙ take-length front

  pub in_front : (i : ℕ) (d : X) → i < k → get_or (front ++ drop k list) i d ≡ get_or front i d
  in_front i d l = get_or_append_left front (drop k list) d i (omega arith)

  pub few_in_front : (n : ℕ) → n ≤ k → take n (front ++ drop k list) ≡ take n front
  few_in_front n l = take-append-le n front (drop k list) (omega arith)
