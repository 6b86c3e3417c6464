-- The times that costs hold. Assumes nothing.
use Rattle.std.specs.Prelude.{ℕ, List}
use Rattle.laying.specs.declared.costs.Costs.{Costs}

-- by arc
abbrev pub costs_in : Costs → List ℕ
costs_in c = c.list.items
