-- Chains of arcs, and what arrives at their end. Assumes nothing.
use Rattle.std.specs.Prelude.{◌≡◌, ℕ, ◌<◌, List, [], ◌∷◌, Some, Option}
use Rattle.network.specs.First.{onward}
use Rattle.network.specs.Model.{Roads, arrival}

-- a chain from v to w: arcs each of which starts where the last ended, or none
abbrev pub Chain : Roads → ℕ → List ℕ → ℕ → Type 0
Chain m v [] w = v ≡ w
Chain m v (a ∷ arcs) w = (a < m.arcs) × (m.tail a ≡ v) × Chain m (m.head a) arcs w

-- what arrives at the end of a list of arcs, entered one after the other from h on
abbrev pub along : Roads → ℕ → List ℕ → Option ℕ
along m h [] = Some h
along m h (a ∷ arcs) = onward (arrival m a h) (λ q. along m q arcs)

-- a path from v at h to w at q: a chain that carries the reading to its end
abbrev pub Path : Roads → ℕ → ℕ → List ℕ → ℕ → ℕ → Type 0
Path m v h arcs w q = Chain m v arcs w × (along m h arcs ≡ Some q)
