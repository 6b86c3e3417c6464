use Rattle.std.proofs.Common.{◌≡◌, ℕ, ◌<◌, None}
use Rattle.network.specs.Sets.{has}
use Rattle.guided.specs.Indexed.{lists_of}
use Rattle.guided.specs.Lists.{network_of}
use Rattle.guided.proofs.Estimates.{asked}
use Rattle.guided.proofs.indexed.IndexedRoads.has_wanted.Given as goal

abbrev pub invariant-loop-site : goal.invariant-loop-site
invariant-loop-site l = (s : ℕ) → s < l.site → asked (network_of (lists_of l.self)) (has l.wanted) l.junction s ≡ None
