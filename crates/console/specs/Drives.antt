-- What a drive shows: the reading at the end of each arc in turn. Assumes nothing.
use Rattle.std.specs.Prelude.{ℕ, List, [], ◌∷◌, Some, None, Option}
use Rattle.network.specs.declared.refusals.Places.TheVariants.{Call}
use Rattle.network.specs.declared.refusals.Refusal.{Refusal}
use Rattle.network.specs.Refused.{refusal}
use Rattle.network.specs.Model.{Roads, arrival}

-- what is shown of an arrival, and of the arcs after it: where nothing arrives, no more
abbrev pub shown : Option ℕ → (ℕ → List (Option ℕ)) → List (Option ℕ)
shown None after = None ∷ []
shown (Some q) after = Some q ∷ after q

abbrev pub driven : Roads → ℕ → List ℕ → List (Option ℕ)
driven m h [] = []
driven m h (a ∷ arcs) = shown (arrival m a h) (λ q. driven m q arcs)

-- the refusal of a number that has no start reading
abbrev pub start_fault : Refusal
start_fault = refusal 15 Call
