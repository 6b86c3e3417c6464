use Rattle.std.proofs.Common.{◌≡◌, ℕ, Some, length, slice_get}
use Rattle.rows.specs.declared.row.Row.{Row}
use Rattle.laying.proofs.search.Search.new.Given as goal

-- there is a row for each junction so far
abbrev pub invariant-loop-made : goal.invariant-loop-made
invariant-loop-made l = (length l.rows.items ≡ l.made) × ((v : ℕ) (r : Row) → slice_get l.rows.items v ≡ Some r → r.most ≡ l.most)
