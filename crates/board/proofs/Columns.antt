-- A number of each element of a list, by place, and a write to it. Assumes nothing.
use Rattle.std.proofs.Common.{◌≡◌, ℕ, ◌<◌, ◌≤◌, List, map, length, get_or, set, sym, ap, ◌∙◌, ⊎_elim}
use mathlib.Core.Path.{fun_ext}
use Rattle.std.proofs.lemmas.List.{length-map, get_or-map, get_or_past, get_or-set_other, map-set}
use Rattle.std.proofs.lemmas.Grind.{get_or-set_at}
use Rattle.std.proofs.lemmas.Bool.{cases_eq}
use Rattle.soonest.specs.Stages.{upd}
use Rattle.soonest.proofs.Turns.{upd_other}
use Rattle.soonest.proofs.Updates.{upd_at}

module _ {X : Type 0} (f : X → ℕ) (xs : List X) where
  pub column_in : (s : ℕ) (x : X) → s < length xs → x ≡ get_or xs s x → get_or (map f xs) s 0 ≡ f x
  column_in s x l e = get_or-map f xs s x 0 l ∙ ap f (sym e)

  pub column_past : (s : ℕ) → length xs ≤ s → get_or (map f xs) s 0 ≡ 0
  column_past s l = get_or_past (map f xs) s 0 (simp length-map l)

  pub column_set : (s : ℕ) (y : X) → s < length xs → ◌≡◌ {A = ℕ → ℕ} (λ i. get_or (map f (set xs s y)) i 0) (upd (λ i. get_or (map f xs) i 0) s (f y))
  column_set s y l = fun_ext (λ i. ap (λ ys. get_or ys i 0) (map-set f xs s y) ∙ ⊎_elim (at i) (off i) (cases_eq i s))
    where
      at : (i : ℕ) → i ≡ s → get_or (set (map f xs) s (f y)) i 0 ≡ upd (λ i. get_or (map f xs) i 0) s (f y) i
      at i e = get_or-set_at (map f xs) s i (f y) 0 e (simp length-map l) ∙ sym (upd_at (λ i. get_or (map f xs) i 0) s (f y) i e)

      off : (i : ℕ) → (i ≡ s → ⊥) → get_or (set (map f xs) s (f y)) i 0 ≡ upd (λ i. get_or (map f xs) i 0) s (f y) i
      off i e = get_or-set_other (map f xs) s i (f y) 0 e ∙ sym (upd_other (λ i. get_or (map f xs) i 0) s (f y) i e)
