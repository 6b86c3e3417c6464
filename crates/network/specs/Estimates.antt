-- What an estimate may say. Assumes nothing.
use Rattle.std.specs.Prelude.{◌≡◌, ℕ, ◌<◌, ◌≤◌, Bool, true, List, Some, None, Option}
use Rattle.network.specs.Laws.{WellFormed, Lawful}
use Rattle.network.specs.Model.{Roads, there}
use Rattle.network.specs.Paths.{Path}

-- an estimate by its answers: at a junction, for a reading and a set of wanted sites
abbrev pub Estimate : Type 0
Estimate = ℕ → ℕ → (ℕ → Bool) → Option ℕ

-- the plainest estimate: the reading itself, at a junction that is there
abbrev pub reading_itself : Roads → Estimate
reading_itself m v h wanted = there m.junctions (λ _. h) v

-- An admissible estimate is a reading not less than the one it is asked for, and not greater than that of any path
-- from there to a wanted site; so where such a path is, it is not nothing.
pub record Admissible (m : Roads) (estimate : Estimate) : Type 0 where
  pub no_such_junction : (v h : ℕ) (wanted : ℕ → Bool) → m.junctions ≤ v → estimate v h wanted ≡ None
  pub estimate_reads : (v h e : ℕ) (wanted : ℕ → Bool) → m.reads h ≡ true → estimate v h wanted ≡ Some e → m.reads e ≡ true
  pub not_less : (v h e : ℕ) (wanted : ℕ → Bool) → m.reads h ≡ true → estimate v h wanted ≡ Some e → h ≤ e
  pub not_greater : (v h s q : ℕ) (wanted : ℕ → Bool) (arcs : List ℕ) → v < m.junctions → m.reads h ≡ true → s < m.sites → wanted s ≡ true → Path m v h arcs (m.place s) q → (e : ℕ) × (estimate v h wanted ≡ Some e) × (e ≤ q)

-- a network that keeps every rule, with an estimate that keeps its own
pub record Keeps (m : Roads) (estimate : Estimate) : Type 0 where
  pub wellformed : WellFormed m
  pub lawful : Lawful m
  pub admissible : Admissible m estimate
