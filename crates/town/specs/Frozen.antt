-- A mistake to tell from the rule: streets as they stand at the hour of departure. Assumes nothing.
use Rattle.std.specs.Prelude.{ℕ, ◌+◌, ◌-◌, List, [], ◌∷◌, Some, Option}
use Rattle.network.specs.First.{onward}
use Rattle.network.specs.Model.{Roads, arrival}

-- each arc takes the time that it would take at the start
abbrev pub frozen : Roads → (start h : ℕ) → List ℕ → Option ℕ
frozen m start h [] = Some h
frozen m start h (a ∷ arcs) = onward (arrival m a start) (λ q. frozen m start (h + (q - start)) arcs)
