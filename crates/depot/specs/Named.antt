-- Things by their names. Assumes nothing.
use Rattle.std.specs.Prelude.{ℕ, List, Option}
use Rattle.std.specs.List.{find}
use Rattle.std.specs.Str.{bytes_eq}

-- the first of some things that has this name
abbrev pub find_named : {X : Type 0} → (X → List ℕ) → List X → List ℕ → Option X
find_named called all name = find (λ x. bytes_eq name (called x)) all
