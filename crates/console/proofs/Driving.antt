-- One arc more of a drive. Assumes nothing.
use Rattle.std.proofs.Common.{◌≡◌, ℕ, ◌+◌, ◌<◌, ◌≤◌, List, [], ◌∷◌, ◌++◌, map, length, get_or, drop, Some, None, Option, sym, ap, ◌∙◌, append_assoc}
use Rattle.std.specs.Option.{option_map}
use Rattle.std.proofs.lemmas.List.{append-nil, at_drop_more, at_drop_all, map_push}
use Rattle.network.specs.Model.{Roads}
use Rattle.console.specs.Drives.{shown, driven}

-- xs is what was shown of the first i arcs, and r the reading after them
pub record Sofar {R : Type 0} (height : R → ℕ) (m : Roads) (start : R) (arcs : List ℕ) (xs : List (Option R)) (r : R) (i : ℕ) : Type 0 where
  pub so : map (option_map height) xs ++ driven m (height r) (drop i arcs) ≡ driven m (height start) arcs

module _ {R : Type 0} {height : R → ℕ} {m : Roads} {start : R} {arcs : List ℕ} {xs : List (Option R)} {r : R} {i : ℕ} (so_far : Sofar height m start arcs xs r i) where
  -- o is what is shown of the next arc
  module _ (ys : List (Option R)) (o : Option R) (lt : i < length arcs) (here : option_map height o ≡ m.carry (get_or arcs i 0) (height r)) (pushed : ys ≡ xs ++ o ∷ []) where
    shown_next : map (option_map height) xs ++ shown (option_map height o) (λ k. driven m k (drop (i + 1) arcs)) ≡ driven m (height start) arcs
    shown_next =
        ap (λ p. map (option_map height) xs ++ shown p (λ k. driven m k (drop (i + 1) arcs))) here
        ∙ ap (λ p. map (option_map height) xs ++ p) (sym (at_drop_more (driven m (height r)) arcs i 0 lt))
        ∙ so_far.so

    shown_so_far : map (option_map height) ys ≡ map (option_map height) xs ++ option_map height o ∷ []
    shown_so_far = ap (map (option_map height)) pushed ∙ map_push (option_map height) xs o

    pub further : (q : R) → o ≡ Some q → Sofar height m start arcs ys q (i + 1)
    further q e = record {
      so =
          ap (λ p. p ++ driven m (height q) (drop (i + 1) arcs)) shown_so_far
          ∙ append_assoc (map (option_map height) xs) (option_map height o ∷ []) (driven m (height q) (drop (i + 1) arcs))
          ∙ rw e (rw e at shown_next);
    }

    pub stops : o ≡ None → map (option_map height) ys ≡ driven m (height start) arcs
    stops e = shown_so_far ∙ rw e (rw e at shown_next)

  pub ends : length arcs ≤ i → map (option_map height) xs ≡ driven m (height start) arcs
  ends le = sym (append-nil _) ∙ ap (λ p. map (option_map height) xs ++ p) (sym (at_drop_all (driven m (height r)) arcs i le)) ∙ so_far.so
