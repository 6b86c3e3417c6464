-- The first obstacle that stands on an arc carries there. Assumes nothing.
use Rattle.std.specs.Prelude.{◌≡◌, ℕ, List, [], ◌∷◌, map, find, ◌==◌, refl}
use Rattle.std.proofs.Common.{arith}
use Rattle.std.proofs.lemmas.Bool.Decides.{nat_tests}
use Rattle.network.specs.Layers.{closures, detours, layered}
use Rattle.network.specs.Model.{Roads}
use Rattle.layers.specs.Layered.{carried_by}
use Rattle.layers.specs.declared.closure.Closure.{Closure}
use Rattle.layers.specs.declared.detour.Detour.{Detour}

pub closures_first : (cs : List Closure) (m : Roads) (a h : ℕ) → (layered (closures (map (λ c. c.arc) cs)) m).carry a h ≡ carried_by (λ xs. closures (map (λ c. c.arc) xs)) (find (λ c. c.arc == a) cs) m a h
closures_first [] m a h = refl
closures_first (c ∷ cs) m a h = grind (arith, nat_tests, closures_first cs m a h)

pub detours_first : (ds : List Detour) (m : Roads) (a h : ℕ) → (layered (detours (map (λ d. (d.arc, d.units)) ds)) m).carry a h ≡ carried_by (λ xs. detours (map (λ d. (d.arc, d.units)) xs)) (find (λ d. d.arc == a) ds) m a h
detours_first [] m a h = refl
detours_first (d ∷ ds) m a h = grind (arith, nat_tests, detours_first ds m a h)
