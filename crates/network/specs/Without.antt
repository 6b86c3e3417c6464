-- A list without one of its things. Assumes nothing.
use Rattle.std.specs.Prelude.{ℕ, cond, List, [], ◌∷◌, ◌==◌}

-- the list without the first thing of the number n, the others in their order, where `number` tells the number of each
abbrev pub without : {X : Type 0} → (X → ℕ) → ℕ → List X → List X
without number n [] = []
without number n (x ∷ xs) = cond (number x == n) xs (x ∷ without number n xs)
