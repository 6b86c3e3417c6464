use Rattle.std.proofs.Common.{◌≡◌, ◌<◌, ℕ, false, None}
use Rattle.finder.specs.Labels.{mark_in}
use Rattle.finder.proofs.beginning.clear.Given as goal

abbrev pub invariant-loop-mark : goal.invariant-loop-mark
invariant-loop-mark g l = (v : ℕ) → v < l.mark-index → mark_in l.marks v ≡ record { reading = None; sited = false }
