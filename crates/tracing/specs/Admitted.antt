-- What is known of a tracing before any way is followed. Assumes nothing.
use Rattle.std.specs.Prelude.{◌≡◌, ℕ, ◌-◌, ◌<◌, ◌≤◌, Some, Ok, Err, Result}
use Rattle.network.specs.Model.{Roads}
use Rattle.soonest.specs.Faults.{trace_fault}
use Rattle.soonest.specs.Tracing.{Tracing, traced}
use Rattle.soonest.specs.declared.faults.TraceFault.{TraceFault}

-- both junctions are there, the number has a start reading of height h, and the lists are long enough
pub record Admitted (m : Roads) (t : Tracing) (h : ℕ) : Type 0 where
  pub from_there : t.from < m.junctions
  pub to_there : t.to < m.junctions
  pub starts : m.start t.number ≡ Some h
  pub ways_long : m.junctions ≤ t.ways
  pub arcs_long : m.junctions - 1 ≤ t.arcs

-- what the first checks answer: the start reading of a tracing that they let pass, or its refusal, whatever the ways
abbrev pub Admission : {R : Type 0} → (R → ℕ) → Roads → Tracing → Result R TraceFault → Type 0
Admission height m t (Ok start) = Admitted m t (height start)
Admission height m t (Err fault) = (way : ℕ → ℕ) → traced m way t ≡ Err (trace_fault fault)
