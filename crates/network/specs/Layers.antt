-- What closures and detours make of a network. Assumes nothing.
use Rattle.std.specs.Prelude.{ℕ, Bool, true, false, cond, List, [], ◌∷◌, Some, None, Option, ◌==◌}
use Rattle.network.specs.First.{onward}
use Rattle.network.specs.Model.{Roads}

-- whether something stands on the arc, where `on` tells the arc that each thing stands on
abbrev pub stands : {X : Type 0} → (X → ℕ) → List X → ℕ → Bool
stands on [] a = false
stands on (x ∷ xs) a = cond (on x == a) true (stands on xs a)

-- the units of the arc's detour, where it has one; a detour is an arc and its units
abbrev pub units_of : List (ℕ × ℕ) → ℕ → Option ℕ
units_of [] a = None
units_of (d ∷ ds) a = cond (d.0 == a) (Some d.1) (units_of ds a)

-- the same network with another carrying
abbrev pub carrying : (ℕ → ℕ → Option ℕ) → Roads → Roads
carrying carry m = record {
  junctions = m.junctions;
  arcs = m.arcs;
  sites = m.sites;
  tail = m.tail;
  head = m.head;
  place = m.place;
  reads = m.reads;
  start = m.start;
  carry = carry;
  lengthen = m.lengthen;
}

-- closed arcs carry nothing
abbrev pub closed : List ℕ → Roads → Roads
closed arcs m = carrying (λ a h. cond (stands (λ b. b) arcs a) None (m.carry a h)) m

-- what arrives, lengthened where there are units
abbrev pub lengthened : (ℕ → ℕ → Option ℕ) → Option ℕ → Option ℕ → Option ℕ
lengthened lengthen None arrived = arrived
lengthened lengthen (Some u) arrived = onward arrived (lengthen u)

-- on a detour the reading that arrives is lengthened by its units
abbrev pub detoured : List (ℕ × ℕ) → Roads → Roads
detoured detours m = carrying (λ a h. lengthened m.lengthen (units_of detours a) (m.carry a h)) m

-- a layer of either sort
pub data Layer : Type 0 where
  closures : List ℕ → Layer
  detours : List (ℕ × ℕ) → Layer

abbrev pub layered : Layer → Roads → Roads
layered (closures arcs) m = closed arcs m
layered (detours ds) m = detoured ds m

-- layers one over the other, the topmost first
abbrev pub pile : List Layer → Roads → Roads
pile [] m = m
pile (l ∷ ls) m = layered l (pile ls m)
