-- The rows of the index: for each junction the sites that are nearest by the arcs' least times. Assumes nothing.
use Rattle.std.specs.Prelude.{◌≡◌, ℕ, ◌+◌, ◌<◌, List, [], ◌∷◌}
use Rattle.network.specs.Model.{Roads}
use Rattle.network.specs.Paths.{Chain}
use Rattle.rows.specs.Nearest.{Nearest}
use Rattle.rows.specs.declared.entry.Entry.{Entry}

-- the sum of the arcs' times over a list of arcs
abbrev pub total : (ℕ → ℕ) → List ℕ → ℕ
total f [] = 0
total f (a ∷ arcs) = f a + total f arcs

-- whether some chain from v to the site s takes the time t
abbrev pub Takes : Roads → (ℕ → ℕ) → (v s t : ℕ) → Type 0
Takes m f v s t = (s < m.sites) × (arcs : List ℕ) × Chain m v arcs (m.place s) × (total f arcs ≡ t)

-- the row of each junction holds the C sites of least time from there
abbrev pub Defined : Roads → (ℕ → ℕ) → (C : ℕ) → (ℕ → List Entry) → Type 0
Defined m f C rows = (v : ℕ) → v < m.junctions → Nearest C (Takes m f v) (rows v)

-- whether no other rows are such
abbrev pub IsOnlyDefined : Roads → (ℕ → ℕ) → (C : ℕ) → (ℕ → List Entry) → Type 0
IsOnlyDefined m f C rows = (others : ℕ → List Entry) → Defined m f C others → (v : ℕ) → v < m.junctions → others v ≡ rows v
